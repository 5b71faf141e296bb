-- Written by tools/gen_syntax.py: change it there.
-- How the logic stores truth values.
use Rattle.std.proofs.Common.{◌≡◌, ℕ, List, ap, refl, arith}
use Rattle.std.specs.Coded.{Coded, coded_ℕ, coded_bool, coded_list, coded_option}
use base.Stored.{Gv, gnil, gnum, gcons, num as number_in}
use Rattle.vf_core.specs.contracts.words.Comparison as comparison_row
use Rattle.vf_formula.specs.Codes.{coded_term}
use Rattle.vf_resolved.specs.TruthTree.{TruthTree}
use Rattle.vf_resolved.specs.TruthTree as tree
use Rattle.vf_resolved.specs.Stores.{head, tail, tag}

abbrev mutual
  -- how it is stored
  pub truth_code : TruthTree → Gv
  truth_code (tree.value a) = gcons (gnum 0) (gcons (coded_term.code a) gnil)
  truth_code (tree.comparison a b c d) = gcons (gnum 1) (gcons (comparison_row.the_row.coded.code a) (gcons (coded_bool.code b) (gcons (truth_code c) (gcons (truth_code d) gnil))))
  truth_code (tree.not_ a) = gcons (gnum 2) (gcons (truth_code a) gnil)
  truth_code (tree.and_ a b) = gcons (gnum 3) (gcons (truth_code a) (gcons (truth_code b) gnil))
  truth_code (tree.or_ a b) = gcons (gnum 4) (gcons (truth_code a) (gcons (truth_code b) gnil))
  truth_code (tree.choice a b c) = gcons (gnum 5) (gcons (truth_code a) (gcons (truth_code b) (gcons (truth_code c) gnil)))

mutual
  -- what is stored alike is the same
  pub truth_inj : (x y : TruthTree) → truth_code x ≡ truth_code y → x ≡ y
  truth_inj (tree.value a) (tree.value a') e = λ i. tree.value (coded_term.inj a a' (ap (λ g. head (tail g)) e) i)
  truth_inj (tree.comparison a b c d) (tree.comparison a' b' c' d') e = λ i. tree.comparison (comparison_row.the_row.coded.inj a a' (ap (λ g. head (tail g)) e) i) (coded_bool.inj b b' (ap (λ g. head (tail (tail g))) e) i) (truth_inj c c' (ap (λ g. head (tail (tail (tail g)))) e) i) (truth_inj d d' (ap (λ g. head (tail (tail (tail (tail g))))) e) i)
  truth_inj (tree.not_ a) (tree.not_ a') e = λ i. tree.not_ (truth_inj a a' (ap (λ g. head (tail g)) e) i)
  truth_inj (tree.and_ a b) (tree.and_ a' b') e = λ i. tree.and_ (truth_inj a a' (ap (λ g. head (tail g)) e) i) (truth_inj b b' (ap (λ g. head (tail (tail g))) e) i)
  truth_inj (tree.or_ a b) (tree.or_ a' b') e = λ i. tree.or_ (truth_inj a a' (ap (λ g. head (tail g)) e) i) (truth_inj b b' (ap (λ g. head (tail (tail g))) e) i)
  truth_inj (tree.choice a b c) (tree.choice a' b' c') e = λ i. tree.choice (truth_inj a a' (ap (λ g. head (tail g)) e) i) (truth_inj b b' (ap (λ g. head (tail (tail g))) e) i) (truth_inj c c' (ap (λ g. head (tail (tail (tail g)))) e) i)
  truth_inj x y e = absurd (omega (arith, ap tag e))

-- its code
abbrev pub coded_truth : Coded TruthTree
coded_truth = record { code = truth_code; inj = truth_inj }
