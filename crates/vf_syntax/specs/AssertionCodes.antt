-- Written by tools/gen_syntax.py: change it there.
-- How the logic stores assertions.
use Rattle.std.proofs.Common.{◌≡◌, ℕ, List, ap, refl, arith}
use Rattle.std.specs.Coded.{Coded, coded_ℕ, coded_list, coded_option}
use base.Stored.{Gv, gnil, gnum, gcons, num as number_in}
use Rattle.vf_syntax.specs.contracts.pattern.CasePattern as case_pattern_row
use Rattle.vf_syntax.specs.contracts.written.Name as name_row
use Rattle.vf_syntax.specs.contracts.pattern.Pattern as pattern_row
use Rattle.vf_base.specs.contracts.place.Place as place_row
use Rattle.vf_syntax.specs.contracts.pattern.Share as share_row
use Rattle.vf_syntax.specs.GhostExprCodes.{coded_ghost_expr}
use Rattle.vf_syntax.specs.AssertionTree.{PartTree, PartTrees, no_part, more_part, AssertionCaseTree, AssertionCaseTrees, no_assertion_case, more_assertion_case}
use Rattle.vf_syntax.specs.AssertionTree as tree
use Rattle.vf_syntax.specs.Stores.{head, tail, tag}

abbrev mutual
  -- how it is stored
  pub part_code : PartTree → Gv
  part_code (tree.conditional p a b c) = gcons (gnum 0) (gcons (place_row.the_row.coded.code p) (gcons (coded_ghost_expr.code a) (gcons (part_codes b) (gcons (part_codes c) gnil))))
  part_code (tree.switch_ p a b) = gcons (gnum 1) (gcons (place_row.the_row.coded.code p) (gcons (coded_ghost_expr.code a) (gcons (assertion_case_codes b) gnil)))
  part_code (tree.cell p a b c d) = gcons (gnum 2) (gcons (place_row.the_row.coded.code p) (gcons ((coded_option share_row.the_row.coded).code a) (gcons (coded_ghost_expr.code b) (gcons (name_row.the_row.coded.code c) (gcons (pattern_row.the_row.coded.code d) gnil)))))
  part_code (tree.chunk p a b c d) = gcons (gnum 3) (gcons (place_row.the_row.coded.code p) (gcons ((coded_option share_row.the_row.coded).code a) (gcons (name_row.the_row.coded.code b) (gcons ((coded_list pattern_row.the_row.coded).code c) (gcons ((coded_option (coded_list pattern_row.the_row.coded)).code d) gnil)))))
  part_code (tree.empty_ p) = gcons (gnum 4) (gcons (place_row.the_row.coded.code p) gnil)
  part_code (tree.pure p a) = gcons (gnum 5) (gcons (place_row.the_row.coded.code p) (gcons (coded_ghost_expr.code a) gnil))
  part_code (tree.group p a) = gcons (gnum 6) (gcons (place_row.the_row.coded.code p) (gcons (part_codes a) gnil))

  -- how a list of these is stored
  pub part_codes : PartTrees → Gv
  part_codes no_part = gnil
  part_codes (more_part x xs) = gcons (part_code x) (part_codes xs)

  -- how it is stored
  pub assertion_case_code : AssertionCaseTree → Gv
  assertion_case_code (tree.assertion_case p a b) = gcons (gnum 0) (gcons (place_row.the_row.coded.code p) (gcons (case_pattern_row.the_row.coded.code a) (gcons (part_codes b) gnil)))

  -- how a list of these is stored
  pub assertion_case_codes : AssertionCaseTrees → Gv
  assertion_case_codes no_assertion_case = gnil
  assertion_case_codes (more_assertion_case x xs) = gcons (assertion_case_code x) (assertion_case_codes xs)

mutual
  -- what is stored alike is the same
  pub part_inj : (x y : PartTree) → part_code x ≡ part_code y → x ≡ y
  part_inj (tree.conditional p a b c) (tree.conditional p' a' b' c') e = λ i. tree.conditional (place_row.the_row.coded.inj p p' (ap (λ g. head (tail g)) e) i) (coded_ghost_expr.inj a a' (ap (λ g. head (tail (tail g))) e) i) (part_injs b b' (ap (λ g. head (tail (tail (tail g)))) e) i) (part_injs c c' (ap (λ g. head (tail (tail (tail (tail g))))) e) i)
  part_inj (tree.switch_ p a b) (tree.switch_ p' a' b') e = λ i. tree.switch_ (place_row.the_row.coded.inj p p' (ap (λ g. head (tail g)) e) i) (coded_ghost_expr.inj a a' (ap (λ g. head (tail (tail g))) e) i) (assertion_case_injs b b' (ap (λ g. head (tail (tail (tail g)))) e) i)
  part_inj (tree.cell p a b c d) (tree.cell p' a' b' c' d') e = λ i. tree.cell (place_row.the_row.coded.inj p p' (ap (λ g. head (tail g)) e) i) ((coded_option share_row.the_row.coded).inj a a' (ap (λ g. head (tail (tail g))) e) i) (coded_ghost_expr.inj b b' (ap (λ g. head (tail (tail (tail g)))) e) i) (name_row.the_row.coded.inj c c' (ap (λ g. head (tail (tail (tail (tail g))))) e) i) (pattern_row.the_row.coded.inj d d' (ap (λ g. head (tail (tail (tail (tail (tail g)))))) e) i)
  part_inj (tree.chunk p a b c d) (tree.chunk p' a' b' c' d') e = λ i. tree.chunk (place_row.the_row.coded.inj p p' (ap (λ g. head (tail g)) e) i) ((coded_option share_row.the_row.coded).inj a a' (ap (λ g. head (tail (tail g))) e) i) (name_row.the_row.coded.inj b b' (ap (λ g. head (tail (tail (tail g)))) e) i) ((coded_list pattern_row.the_row.coded).inj c c' (ap (λ g. head (tail (tail (tail (tail g))))) e) i) ((coded_option (coded_list pattern_row.the_row.coded)).inj d d' (ap (λ g. head (tail (tail (tail (tail (tail g)))))) e) i)
  part_inj (tree.empty_ p) (tree.empty_ p') e = λ i. tree.empty_ (place_row.the_row.coded.inj p p' (ap (λ g. head (tail g)) e) i)
  part_inj (tree.pure p a) (tree.pure p' a') e = λ i. tree.pure (place_row.the_row.coded.inj p p' (ap (λ g. head (tail g)) e) i) (coded_ghost_expr.inj a a' (ap (λ g. head (tail (tail g))) e) i)
  part_inj (tree.group p a) (tree.group p' a') e = λ i. tree.group (place_row.the_row.coded.inj p p' (ap (λ g. head (tail g)) e) i) (part_injs a a' (ap (λ g. head (tail (tail g))) e) i)
  part_inj x y e = absurd (omega (arith, ap tag e))

  -- lists that are stored alike are the same
  pub part_injs : (x y : PartTrees) → part_codes x ≡ part_codes y → x ≡ y
  part_injs (more_part x xs) (more_part y ys) e = λ i. more_part (part_inj x y (ap head e) i) (part_injs xs ys (ap tail e) i)
  part_injs no_part no_part e = refl
  part_injs x y e = cc

  -- what is stored alike is the same
  pub assertion_case_inj : (x y : AssertionCaseTree) → assertion_case_code x ≡ assertion_case_code y → x ≡ y
  assertion_case_inj (tree.assertion_case p a b) (tree.assertion_case p' a' b') e = λ i. tree.assertion_case (place_row.the_row.coded.inj p p' (ap (λ g. head (tail g)) e) i) (case_pattern_row.the_row.coded.inj a a' (ap (λ g. head (tail (tail g))) e) i) (part_injs b b' (ap (λ g. head (tail (tail (tail g)))) e) i)

  -- lists that are stored alike are the same
  pub assertion_case_injs : (x y : AssertionCaseTrees) → assertion_case_codes x ≡ assertion_case_codes y → x ≡ y
  assertion_case_injs (more_assertion_case x xs) (more_assertion_case y ys) e = λ i. more_assertion_case (assertion_case_inj x y (ap head e) i) (assertion_case_injs xs ys (ap tail e) i)
  assertion_case_injs no_assertion_case no_assertion_case e = refl
  assertion_case_injs x y e = cc

-- its code
abbrev pub coded_part : Coded PartTree
coded_part = record { code = part_code; inj = part_inj }

-- the code of lists of these
abbrev pub coded_part_list : Coded (List PartTree)
coded_part_list = coded_list coded_part

-- its code
abbrev pub coded_assertion_case : Coded AssertionCaseTree
coded_assertion_case = record { code = assertion_case_code; inj = assertion_case_inj }

-- the code of lists of these
abbrev pub coded_assertion_case_list : Coded (List AssertionCaseTree)
coded_assertion_case_list = coded_list coded_assertion_case
