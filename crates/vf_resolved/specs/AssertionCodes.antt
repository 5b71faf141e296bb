-- Written by tools/gen_syntax.py: change it there.
-- How the logic stores assertions.
use Rattle.std.proofs.Common.{◌≡◌, ℕ, List, ap, refl, arith}
use Rattle.std.specs.Coded.{Coded, coded_ℕ, coded_list, coded_option}
use base.Stored.{Gv, gnil, gnum, gcons, num as number_in}
use Rattle.vf_resolved.specs.contracts.head.CellField as cell_field_row
use Rattle.vf_resolved.specs.contracts.head.Head as head_row
use Rattle.vf_resolved.specs.contracts.pattern.Pattern as pattern_row
use Rattle.vf_base.specs.contracts.place.Place as place_row
use Rattle.vf_resolved.specs.contracts.pattern.Share as share_row
use Rattle.vf_resolved.specs.contracts.pattern.Slot as slot_row
use Rattle.vf_formula.specs.Codes.{coded_term}
use Rattle.vf_resolved.specs.TruthCodes.{coded_truth}
use Rattle.vf_resolved.specs.AssertionTree.{PartTree, PartTrees, no_part, more_part, BranchTree, BranchTrees, no_branch, more_branch}
use Rattle.vf_resolved.specs.AssertionTree as tree
use Rattle.vf_resolved.specs.Stores.{head, tail, tag}

abbrev mutual
  -- how it is stored
  pub part_code : PartTree → Gv
  part_code (tree.pure p a) = gcons (gnum 0) (gcons (place_row.the_row.coded.code p) (gcons (coded_truth.code a) gnil))
  part_code (tree.empty_ p) = gcons (gnum 1) (gcons (place_row.the_row.coded.code p) gnil)
  part_code (tree.group p a) = gcons (gnum 2) (gcons (place_row.the_row.coded.code p) (gcons (part_codes a) gnil))
  part_code (tree.conditional p a b c) = gcons (gnum 3) (gcons (place_row.the_row.coded.code p) (gcons (coded_truth.code a) (gcons (part_codes b) (gcons (part_codes c) gnil))))
  part_code (tree.switch_ p a b) = gcons (gnum 4) (gcons (place_row.the_row.coded.code p) (gcons (coded_term.code a) (gcons (branch_codes b) gnil)))
  part_code (tree.cell p a b c d) = gcons (gnum 5) (gcons (place_row.the_row.coded.code p) (gcons ((coded_option share_row.the_row.coded).code a) (gcons (coded_term.code b) (gcons (cell_field_row.the_row.coded.code c) (gcons (pattern_row.the_row.coded.code d) gnil)))))
  part_code (tree.chunk p a b c) = gcons (gnum 6) (gcons (place_row.the_row.coded.code p) (gcons ((coded_option share_row.the_row.coded).code a) (gcons (head_row.the_row.coded.code b) (gcons ((coded_list pattern_row.the_row.coded).code c) gnil))))

  -- how a list of these is stored
  pub part_codes : PartTrees → Gv
  part_codes no_part = gnil
  part_codes (more_part x xs) = gcons (part_code x) (part_codes xs)

  -- how it is stored
  pub branch_code : BranchTree → Gv
  branch_code (tree.branch p a b c d) = gcons (gnum 0) (gcons (place_row.the_row.coded.code p) (gcons ((coded_list coded_ℕ).code a) (gcons (coded_ℕ.code b) (gcons ((coded_list slot_row.the_row.coded).code c) (gcons (part_codes d) gnil)))))

  -- how a list of these is stored
  pub branch_codes : BranchTrees → Gv
  branch_codes no_branch = gnil
  branch_codes (more_branch x xs) = gcons (branch_code x) (branch_codes xs)

mutual
  -- what is stored alike is the same
  pub part_inj : (x y : PartTree) → part_code x ≡ part_code y → x ≡ y
  part_inj (tree.pure p a) (tree.pure p' a') e = λ i. tree.pure (place_row.the_row.coded.inj p p' (ap (λ g. head (tail g)) e) i) (coded_truth.inj a a' (ap (λ g. head (tail (tail g))) e) i)
  part_inj (tree.empty_ p) (tree.empty_ p') e = λ i. tree.empty_ (place_row.the_row.coded.inj p p' (ap (λ g. head (tail g)) e) i)
  part_inj (tree.group p a) (tree.group p' a') e = λ i. tree.group (place_row.the_row.coded.inj p p' (ap (λ g. head (tail g)) e) i) (part_injs a a' (ap (λ g. head (tail (tail g))) e) i)
  part_inj (tree.conditional p a b c) (tree.conditional p' a' b' c') e = λ i. tree.conditional (place_row.the_row.coded.inj p p' (ap (λ g. head (tail g)) e) i) (coded_truth.inj a a' (ap (λ g. head (tail (tail g))) e) i) (part_injs b b' (ap (λ g. head (tail (tail (tail g)))) e) i) (part_injs c c' (ap (λ g. head (tail (tail (tail (tail g))))) e) i)
  part_inj (tree.switch_ p a b) (tree.switch_ p' a' b') e = λ i. tree.switch_ (place_row.the_row.coded.inj p p' (ap (λ g. head (tail g)) e) i) (coded_term.inj a a' (ap (λ g. head (tail (tail g))) e) i) (branch_injs b b' (ap (λ g. head (tail (tail (tail g)))) e) i)
  part_inj (tree.cell p a b c d) (tree.cell p' a' b' c' d') e = λ i. tree.cell (place_row.the_row.coded.inj p p' (ap (λ g. head (tail g)) e) i) ((coded_option share_row.the_row.coded).inj a a' (ap (λ g. head (tail (tail g))) e) i) (coded_term.inj b b' (ap (λ g. head (tail (tail (tail g)))) e) i) (cell_field_row.the_row.coded.inj c c' (ap (λ g. head (tail (tail (tail (tail g))))) e) i) (pattern_row.the_row.coded.inj d d' (ap (λ g. head (tail (tail (tail (tail (tail g)))))) e) i)
  part_inj (tree.chunk p a b c) (tree.chunk p' a' b' c') e = λ i. tree.chunk (place_row.the_row.coded.inj p p' (ap (λ g. head (tail g)) e) i) ((coded_option share_row.the_row.coded).inj a a' (ap (λ g. head (tail (tail g))) e) i) (head_row.the_row.coded.inj b b' (ap (λ g. head (tail (tail (tail g)))) e) i) ((coded_list pattern_row.the_row.coded).inj c c' (ap (λ g. head (tail (tail (tail (tail g))))) e) i)
  part_inj x y e = absurd (omega (arith, ap tag e))

  -- lists that are stored alike are the same
  pub part_injs : (x y : PartTrees) → part_codes x ≡ part_codes y → x ≡ y
  part_injs (more_part x xs) (more_part y ys) e = λ i. more_part (part_inj x y (ap head e) i) (part_injs xs ys (ap tail e) i)
  part_injs no_part no_part e = refl
  part_injs x y e = cc

  -- what is stored alike is the same
  pub branch_inj : (x y : BranchTree) → branch_code x ≡ branch_code y → x ≡ y
  branch_inj (tree.branch p a b c d) (tree.branch p' a' b' c' d') e = λ i. tree.branch (place_row.the_row.coded.inj p p' (ap (λ g. head (tail g)) e) i) ((coded_list coded_ℕ).inj a a' (ap (λ g. head (tail (tail g))) e) i) (coded_ℕ.inj b b' (ap (λ g. head (tail (tail (tail g)))) e) i) ((coded_list slot_row.the_row.coded).inj c c' (ap (λ g. head (tail (tail (tail (tail g))))) e) i) (part_injs d d' (ap (λ g. head (tail (tail (tail (tail (tail g)))))) e) i)

  -- lists that are stored alike are the same
  pub branch_injs : (x y : BranchTrees) → branch_codes x ≡ branch_codes y → x ≡ y
  branch_injs (more_branch x xs) (more_branch y ys) e = λ i. more_branch (branch_inj x y (ap head e) i) (branch_injs xs ys (ap tail e) i)
  branch_injs no_branch no_branch e = refl
  branch_injs x y e = cc

-- its code
abbrev pub coded_part : Coded PartTree
coded_part = record { code = part_code; inj = part_inj }

-- the code of lists of these
abbrev pub coded_part_list : Coded (List PartTree)
coded_part_list = coded_list coded_part

-- its code
abbrev pub coded_branch : Coded BranchTree
coded_branch = record { code = branch_code; inj = branch_inj }

-- the code of lists of these
abbrev pub coded_branch_list : Coded (List BranchTree)
coded_branch_list = coded_list coded_branch
