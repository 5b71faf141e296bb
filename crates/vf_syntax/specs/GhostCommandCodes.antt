-- Written by tools/gen_syntax.py: change it there.
-- How the logic stores ghost commands.
use Rattle.std.proofs.Common.{◌≡◌, ℕ, List, ap, refl, arith}
use Rattle.std.specs.Coded.{Coded, coded_ℕ, coded_list, coded_option}
use base.Stored.{Gv, gnil, gnum, gcons, num as number_in}
use Rattle.vf_syntax.specs.contracts.pattern.CasePattern as case_pattern_row
use Rattle.vf_syntax.specs.contracts.written.Name as name_row
use Rattle.vf_syntax.specs.contracts.pattern.Pattern as pattern_row
use Rattle.vf_base.specs.contracts.place.Place as place_row
use Rattle.vf_syntax.specs.contracts.pattern.Share as share_row
use Rattle.vf_syntax.specs.GhostExprCodes.{coded_ghost_expr}
use Rattle.vf_syntax.specs.AssertionCodes.{coded_part}
use Rattle.vf_syntax.specs.SortCodes.{coded_sort}
use Rattle.vf_syntax.specs.GhostCommandTree.{GhostCommandTree, GhostCommandTrees, no_ghost_command, more_ghost_command, CommandCaseTree, CommandCaseTrees, no_command_case, more_command_case}
use Rattle.vf_syntax.specs.GhostCommandTree as tree
use Rattle.vf_syntax.specs.Stores.{head, tail, tag}

abbrev mutual
  -- how it is stored
  pub ghost_command_code : GhostCommandTree → Gv
  ghost_command_code (tree.open_ p a b c d) = gcons (gnum 0) (gcons (place_row.the_row.coded.code p) (gcons ((coded_option share_row.the_row.coded).code a) (gcons (name_row.the_row.coded.code b) (gcons ((coded_list pattern_row.the_row.coded).code c) (gcons ((coded_option (coded_list pattern_row.the_row.coded)).code d) gnil)))))
  ghost_command_code (tree.close_ p a b c d) = gcons (gnum 1) (gcons (place_row.the_row.coded.code p) (gcons ((coded_option share_row.the_row.coded).code a) (gcons (name_row.the_row.coded.code b) (gcons ((coded_list pattern_row.the_row.coded).code c) (gcons ((coded_option (coded_list pattern_row.the_row.coded)).code d) gnil)))))
  ghost_command_code (tree.leak_ p a) = gcons (gnum 2) (gcons (place_row.the_row.coded.code p) (gcons ((coded_list coded_part).code a) gnil))
  ghost_command_code (tree.assert_ p a) = gcons (gnum 3) (gcons (place_row.the_row.coded.code p) (gcons ((coded_list coded_part).code a) gnil))
  ghost_command_code (tree.declaration p a b c) = gcons (gnum 4) (gcons (place_row.the_row.coded.code p) (gcons (coded_sort.code a) (gcons (name_row.the_row.coded.code b) (gcons (coded_ghost_expr.code c) gnil))))
  ghost_command_code (tree.assignment p a b) = gcons (gnum 5) (gcons (place_row.the_row.coded.code p) (gcons ((coded_list coded_ℕ).code a) (gcons (coded_ghost_expr.code b) gnil)))
  ghost_command_code (tree.call_ p a b) = gcons (gnum 6) (gcons (place_row.the_row.coded.code p) (gcons ((coded_list coded_ℕ).code a) (gcons ((coded_list coded_ghost_expr).code b) gnil)))
  ghost_command_code (tree.if_ p a b) = gcons (gnum 7) (gcons (place_row.the_row.coded.code p) (gcons (coded_ghost_expr.code a) (gcons (ghost_command_codes b) gnil)))
  ghost_command_code (tree.if_else p a b c) = gcons (gnum 8) (gcons (place_row.the_row.coded.code p) (gcons (coded_ghost_expr.code a) (gcons (ghost_command_codes b) (gcons (ghost_command_codes c) gnil))))
  ghost_command_code (tree.switch_ p a b) = gcons (gnum 9) (gcons (place_row.the_row.coded.code p) (gcons (coded_ghost_expr.code a) (gcons (command_case_codes b) gnil)))
  ghost_command_code (tree.block p a) = gcons (gnum 10) (gcons (place_row.the_row.coded.code p) (gcons (ghost_command_codes a) gnil))

  -- how a list of these is stored
  pub ghost_command_codes : GhostCommandTrees → Gv
  ghost_command_codes no_ghost_command = gnil
  ghost_command_codes (more_ghost_command x xs) = gcons (ghost_command_code x) (ghost_command_codes xs)

  -- how it is stored
  pub command_case_code : CommandCaseTree → Gv
  command_case_code (tree.command_case p a b) = gcons (gnum 0) (gcons (place_row.the_row.coded.code p) (gcons (case_pattern_row.the_row.coded.code a) (gcons (ghost_command_codes b) gnil)))

  -- how a list of these is stored
  pub command_case_codes : CommandCaseTrees → Gv
  command_case_codes no_command_case = gnil
  command_case_codes (more_command_case x xs) = gcons (command_case_code x) (command_case_codes xs)

mutual
  -- what is stored alike is the same
  pub ghost_command_inj : (x y : GhostCommandTree) → ghost_command_code x ≡ ghost_command_code y → x ≡ y
  ghost_command_inj (tree.open_ p a b c d) (tree.open_ p' a' b' c' d') e = λ i. tree.open_ (place_row.the_row.coded.inj p p' (ap (λ g. head (tail g)) e) i) ((coded_option share_row.the_row.coded).inj a a' (ap (λ g. head (tail (tail g))) e) i) (name_row.the_row.coded.inj b b' (ap (λ g. head (tail (tail (tail g)))) e) i) ((coded_list pattern_row.the_row.coded).inj c c' (ap (λ g. head (tail (tail (tail (tail g))))) e) i) ((coded_option (coded_list pattern_row.the_row.coded)).inj d d' (ap (λ g. head (tail (tail (tail (tail (tail g)))))) e) i)
  ghost_command_inj (tree.close_ p a b c d) (tree.close_ p' a' b' c' d') e = λ i. tree.close_ (place_row.the_row.coded.inj p p' (ap (λ g. head (tail g)) e) i) ((coded_option share_row.the_row.coded).inj a a' (ap (λ g. head (tail (tail g))) e) i) (name_row.the_row.coded.inj b b' (ap (λ g. head (tail (tail (tail g)))) e) i) ((coded_list pattern_row.the_row.coded).inj c c' (ap (λ g. head (tail (tail (tail (tail g))))) e) i) ((coded_option (coded_list pattern_row.the_row.coded)).inj d d' (ap (λ g. head (tail (tail (tail (tail (tail g)))))) e) i)
  ghost_command_inj (tree.leak_ p a) (tree.leak_ p' a') e = λ i. tree.leak_ (place_row.the_row.coded.inj p p' (ap (λ g. head (tail g)) e) i) ((coded_list coded_part).inj a a' (ap (λ g. head (tail (tail g))) e) i)
  ghost_command_inj (tree.assert_ p a) (tree.assert_ p' a') e = λ i. tree.assert_ (place_row.the_row.coded.inj p p' (ap (λ g. head (tail g)) e) i) ((coded_list coded_part).inj a a' (ap (λ g. head (tail (tail g))) e) i)
  ghost_command_inj (tree.declaration p a b c) (tree.declaration p' a' b' c') e = λ i. tree.declaration (place_row.the_row.coded.inj p p' (ap (λ g. head (tail g)) e) i) (coded_sort.inj a a' (ap (λ g. head (tail (tail g))) e) i) (name_row.the_row.coded.inj b b' (ap (λ g. head (tail (tail (tail g)))) e) i) (coded_ghost_expr.inj c c' (ap (λ g. head (tail (tail (tail (tail g))))) e) i)
  ghost_command_inj (tree.assignment p a b) (tree.assignment p' a' b') e = λ i. tree.assignment (place_row.the_row.coded.inj p p' (ap (λ g. head (tail g)) e) i) ((coded_list coded_ℕ).inj a a' (ap (λ g. head (tail (tail g))) e) i) (coded_ghost_expr.inj b b' (ap (λ g. head (tail (tail (tail g)))) e) i)
  ghost_command_inj (tree.call_ p a b) (tree.call_ p' a' b') e = λ i. tree.call_ (place_row.the_row.coded.inj p p' (ap (λ g. head (tail g)) e) i) ((coded_list coded_ℕ).inj a a' (ap (λ g. head (tail (tail g))) e) i) ((coded_list coded_ghost_expr).inj b b' (ap (λ g. head (tail (tail (tail g)))) e) i)
  ghost_command_inj (tree.if_ p a b) (tree.if_ p' a' b') e = λ i. tree.if_ (place_row.the_row.coded.inj p p' (ap (λ g. head (tail g)) e) i) (coded_ghost_expr.inj a a' (ap (λ g. head (tail (tail g))) e) i) (ghost_command_injs b b' (ap (λ g. head (tail (tail (tail g)))) e) i)
  ghost_command_inj (tree.if_else p a b c) (tree.if_else p' a' b' c') e = λ i. tree.if_else (place_row.the_row.coded.inj p p' (ap (λ g. head (tail g)) e) i) (coded_ghost_expr.inj a a' (ap (λ g. head (tail (tail g))) e) i) (ghost_command_injs b b' (ap (λ g. head (tail (tail (tail g)))) e) i) (ghost_command_injs c c' (ap (λ g. head (tail (tail (tail (tail g))))) e) i)
  ghost_command_inj (tree.switch_ p a b) (tree.switch_ p' a' b') e = λ i. tree.switch_ (place_row.the_row.coded.inj p p' (ap (λ g. head (tail g)) e) i) (coded_ghost_expr.inj a a' (ap (λ g. head (tail (tail g))) e) i) (command_case_injs b b' (ap (λ g. head (tail (tail (tail g)))) e) i)
  ghost_command_inj (tree.block p a) (tree.block p' a') e = λ i. tree.block (place_row.the_row.coded.inj p p' (ap (λ g. head (tail g)) e) i) (ghost_command_injs a a' (ap (λ g. head (tail (tail g))) e) i)
  ghost_command_inj x y e = absurd (omega (arith, ap tag e))

  -- lists that are stored alike are the same
  pub ghost_command_injs : (x y : GhostCommandTrees) → ghost_command_codes x ≡ ghost_command_codes y → x ≡ y
  ghost_command_injs (more_ghost_command x xs) (more_ghost_command y ys) e = λ i. more_ghost_command (ghost_command_inj x y (ap head e) i) (ghost_command_injs xs ys (ap tail e) i)
  ghost_command_injs no_ghost_command no_ghost_command e = refl
  ghost_command_injs x y e = cc

  -- what is stored alike is the same
  pub command_case_inj : (x y : CommandCaseTree) → command_case_code x ≡ command_case_code y → x ≡ y
  command_case_inj (tree.command_case p a b) (tree.command_case p' a' b') e = λ i. tree.command_case (place_row.the_row.coded.inj p p' (ap (λ g. head (tail g)) e) i) (case_pattern_row.the_row.coded.inj a a' (ap (λ g. head (tail (tail g))) e) i) (ghost_command_injs b b' (ap (λ g. head (tail (tail (tail g)))) e) i)

  -- lists that are stored alike are the same
  pub command_case_injs : (x y : CommandCaseTrees) → command_case_codes x ≡ command_case_codes y → x ≡ y
  command_case_injs (more_command_case x xs) (more_command_case y ys) e = λ i. more_command_case (command_case_inj x y (ap head e) i) (command_case_injs xs ys (ap tail e) i)
  command_case_injs no_command_case no_command_case e = refl
  command_case_injs x y e = cc

-- its code
abbrev pub coded_ghost_command : Coded GhostCommandTree
coded_ghost_command = record { code = ghost_command_code; inj = ghost_command_inj }

-- the code of lists of these
abbrev pub coded_ghost_command_list : Coded (List GhostCommandTree)
coded_ghost_command_list = coded_list coded_ghost_command

-- its code
abbrev pub coded_command_case : Coded CommandCaseTree
coded_command_case = record { code = command_case_code; inj = command_case_inj }

-- the code of lists of these
abbrev pub coded_command_case_list : Coded (List CommandCaseTree)
coded_command_case_list = coded_list coded_command_case
