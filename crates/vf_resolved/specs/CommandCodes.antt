-- Written by tools/gen_syntax.py: change it there.
-- How the logic stores ghost commands.
use Rattle.std.proofs.Common.{◌≡◌, ℕ, List, ap, refl, arith}
use Rattle.std.specs.Coded.{Coded, coded_ℕ, coded_list, coded_option}
use base.Stored.{Gv, gnil, gnum, gcons, num as number_in}
use Rattle.vf_resolved.specs.contracts.pattern.Argument as argument_row
use Rattle.vf_resolved.specs.contracts.head.Head as head_row
use Rattle.vf_resolved.specs.contracts.pattern.Pattern as pattern_row
use Rattle.vf_base.specs.contracts.place.Place as place_row
use Rattle.vf_resolved.specs.contracts.pattern.Share as share_row
use Rattle.vf_resolved.specs.contracts.pattern.Slot as slot_row
use Rattle.vf_resolved.specs.AssertionCodes.{coded_part}
use Rattle.vf_formula.specs.Codes.{coded_term}
use Rattle.vf_resolved.specs.TruthCodes.{coded_truth}
use Rattle.vf_resolved.specs.CommandTree.{CommandTree, CommandTrees, no_command, more_command, CommandBranchTree, CommandBranchTrees, no_command_branch, more_command_branch}
use Rattle.vf_resolved.specs.CommandTree as tree
use Rattle.vf_resolved.specs.Stores.{head, tail, tag}

abbrev mutual
  -- how it is stored
  pub command_code : CommandTree → Gv
  command_code (tree.open_ p a b c) = gcons (gnum 0) (gcons (place_row.the_row.coded.code p) (gcons ((coded_option share_row.the_row.coded).code a) (gcons (head_row.the_row.coded.code b) (gcons ((coded_list pattern_row.the_row.coded).code c) gnil))))
  command_code (tree.close_ p a b c) = gcons (gnum 1) (gcons (place_row.the_row.coded.code p) (gcons ((coded_option share_row.the_row.coded).code a) (gcons (head_row.the_row.coded.code b) (gcons ((coded_list argument_row.the_row.coded).code c) gnil))))
  command_code (tree.leak_ p a) = gcons (gnum 2) (gcons (place_row.the_row.coded.code p) (gcons ((coded_list coded_part).code a) gnil))
  command_code (tree.assert_ p a) = gcons (gnum 3) (gcons (place_row.the_row.coded.code p) (gcons ((coded_list coded_part).code a) gnil))
  command_code (tree.set p a b) = gcons (gnum 4) (gcons (place_row.the_row.coded.code p) (gcons (coded_term.code a) (gcons (coded_term.code b) gnil)))
  command_code (tree.call_ p a b) = gcons (gnum 5) (gcons (place_row.the_row.coded.code p) (gcons ((coded_list coded_ℕ).code a) (gcons ((coded_list coded_term).code b) gnil)))
  command_code (tree.call_real p) = gcons (gnum 6) (gcons (place_row.the_row.coded.code p) gnil)
  command_code (tree.if_ p a b c) = gcons (gnum 7) (gcons (place_row.the_row.coded.code p) (gcons (coded_truth.code a) (gcons (command_codes b) (gcons (command_codes c) gnil))))
  command_code (tree.switch_ p a b) = gcons (gnum 8) (gcons (place_row.the_row.coded.code p) (gcons (coded_term.code a) (gcons (command_branch_codes b) gnil)))
  command_code (tree.block p a) = gcons (gnum 9) (gcons (place_row.the_row.coded.code p) (gcons (command_codes a) gnil))

  -- how a list of these is stored
  pub command_codes : CommandTrees → Gv
  command_codes no_command = gnil
  command_codes (more_command x xs) = gcons (command_code x) (command_codes xs)

  -- how it is stored
  pub command_branch_code : CommandBranchTree → Gv
  command_branch_code (tree.command_branch p a b c d) = gcons (gnum 0) (gcons (place_row.the_row.coded.code p) (gcons ((coded_list coded_ℕ).code a) (gcons (coded_ℕ.code b) (gcons ((coded_list slot_row.the_row.coded).code c) (gcons (command_codes d) gnil)))))

  -- how a list of these is stored
  pub command_branch_codes : CommandBranchTrees → Gv
  command_branch_codes no_command_branch = gnil
  command_branch_codes (more_command_branch x xs) = gcons (command_branch_code x) (command_branch_codes xs)

mutual
  -- what is stored alike is the same
  pub command_inj : (x y : CommandTree) → command_code x ≡ command_code y → x ≡ y
  command_inj (tree.open_ p a b c) (tree.open_ p' a' b' c') e = λ i. tree.open_ (place_row.the_row.coded.inj p p' (ap (λ g. head (tail g)) e) i) ((coded_option share_row.the_row.coded).inj a a' (ap (λ g. head (tail (tail g))) e) i) (head_row.the_row.coded.inj b b' (ap (λ g. head (tail (tail (tail g)))) e) i) ((coded_list pattern_row.the_row.coded).inj c c' (ap (λ g. head (tail (tail (tail (tail g))))) e) i)
  command_inj (tree.close_ p a b c) (tree.close_ p' a' b' c') e = λ i. tree.close_ (place_row.the_row.coded.inj p p' (ap (λ g. head (tail g)) e) i) ((coded_option share_row.the_row.coded).inj a a' (ap (λ g. head (tail (tail g))) e) i) (head_row.the_row.coded.inj b b' (ap (λ g. head (tail (tail (tail g)))) e) i) ((coded_list argument_row.the_row.coded).inj c c' (ap (λ g. head (tail (tail (tail (tail g))))) e) i)
  command_inj (tree.leak_ p a) (tree.leak_ p' a') e = λ i. tree.leak_ (place_row.the_row.coded.inj p p' (ap (λ g. head (tail g)) e) i) ((coded_list coded_part).inj a a' (ap (λ g. head (tail (tail g))) e) i)
  command_inj (tree.assert_ p a) (tree.assert_ p' a') e = λ i. tree.assert_ (place_row.the_row.coded.inj p p' (ap (λ g. head (tail g)) e) i) ((coded_list coded_part).inj a a' (ap (λ g. head (tail (tail g))) e) i)
  command_inj (tree.set p a b) (tree.set p' a' b') e = λ i. tree.set (place_row.the_row.coded.inj p p' (ap (λ g. head (tail g)) e) i) (coded_term.inj a a' (ap (λ g. head (tail (tail g))) e) i) (coded_term.inj b b' (ap (λ g. head (tail (tail (tail g)))) e) i)
  command_inj (tree.call_ p a b) (tree.call_ p' a' b') e = λ i. tree.call_ (place_row.the_row.coded.inj p p' (ap (λ g. head (tail g)) e) i) ((coded_list coded_ℕ).inj a a' (ap (λ g. head (tail (tail g))) e) i) ((coded_list coded_term).inj b b' (ap (λ g. head (tail (tail (tail g)))) e) i)
  command_inj (tree.call_real p) (tree.call_real p') e = λ i. tree.call_real (place_row.the_row.coded.inj p p' (ap (λ g. head (tail g)) e) i)
  command_inj (tree.if_ p a b c) (tree.if_ p' a' b' c') e = λ i. tree.if_ (place_row.the_row.coded.inj p p' (ap (λ g. head (tail g)) e) i) (coded_truth.inj a a' (ap (λ g. head (tail (tail g))) e) i) (command_injs b b' (ap (λ g. head (tail (tail (tail g)))) e) i) (command_injs c c' (ap (λ g. head (tail (tail (tail (tail g))))) e) i)
  command_inj (tree.switch_ p a b) (tree.switch_ p' a' b') e = λ i. tree.switch_ (place_row.the_row.coded.inj p p' (ap (λ g. head (tail g)) e) i) (coded_term.inj a a' (ap (λ g. head (tail (tail g))) e) i) (command_branch_injs b b' (ap (λ g. head (tail (tail (tail g)))) e) i)
  command_inj (tree.block p a) (tree.block p' a') e = λ i. tree.block (place_row.the_row.coded.inj p p' (ap (λ g. head (tail g)) e) i) (command_injs a a' (ap (λ g. head (tail (tail g))) e) i)
  command_inj x y e = absurd (omega (arith, ap tag e))

  -- lists that are stored alike are the same
  pub command_injs : (x y : CommandTrees) → command_codes x ≡ command_codes y → x ≡ y
  command_injs (more_command x xs) (more_command y ys) e = λ i. more_command (command_inj x y (ap head e) i) (command_injs xs ys (ap tail e) i)
  command_injs no_command no_command e = refl
  command_injs x y e = cc

  -- what is stored alike is the same
  pub command_branch_inj : (x y : CommandBranchTree) → command_branch_code x ≡ command_branch_code y → x ≡ y
  command_branch_inj (tree.command_branch p a b c d) (tree.command_branch p' a' b' c' d') e = λ i. tree.command_branch (place_row.the_row.coded.inj p p' (ap (λ g. head (tail g)) e) i) ((coded_list coded_ℕ).inj a a' (ap (λ g. head (tail (tail g))) e) i) (coded_ℕ.inj b b' (ap (λ g. head (tail (tail (tail g)))) e) i) ((coded_list slot_row.the_row.coded).inj c c' (ap (λ g. head (tail (tail (tail (tail g))))) e) i) (command_injs d d' (ap (λ g. head (tail (tail (tail (tail (tail g)))))) e) i)

  -- lists that are stored alike are the same
  pub command_branch_injs : (x y : CommandBranchTrees) → command_branch_codes x ≡ command_branch_codes y → x ≡ y
  command_branch_injs (more_command_branch x xs) (more_command_branch y ys) e = λ i. more_command_branch (command_branch_inj x y (ap head e) i) (command_branch_injs xs ys (ap tail e) i)
  command_branch_injs no_command_branch no_command_branch e = refl
  command_branch_injs x y e = cc

-- its code
abbrev pub coded_command : Coded CommandTree
coded_command = record { code = command_code; inj = command_inj }

-- the code of lists of these
abbrev pub coded_command_list : Coded (List CommandTree)
coded_command_list = coded_list coded_command

-- its code
abbrev pub coded_command_branch : Coded CommandBranchTree
coded_command_branch = record { code = command_branch_code; inj = command_branch_inj }

-- the code of lists of these
abbrev pub coded_command_branch_list : Coded (List CommandBranchTree)
coded_command_branch_list = coded_list coded_command_branch
