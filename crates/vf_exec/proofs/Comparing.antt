-- The literals of comparisons of small numbers.
use Rattle.std.proofs.Common.{◌≡◌, ◌∙◌, ap, pos, ◌^◌, ◌&&◌, true, cond, arith}
use Rattle.std.specs.Prelude.{ℤ, neg_ℤ, ◌+ℤ◌, ◌-ℤ◌, ◌*ℤ◌, ◌≤ℤ◌, int_le, Bool}
use Rattle.std.proofs.lemmas.Int.{ints}
use Rattle.std.proofs.lemmas.Bool.{and_from}
use Rattle.vf_tree.specs.Core.{Comparison, Equal, LessEqual}
use Rattle.vf_closure.specs.Terms.{number}
use Rattle.vf_closure.specs.Literals.{Literal, AtMost, Difference}
use Rattle.vf_normal.specs.Sums.{is_small, constant}
use Rattle.vf_normal.specs.Comparisons.{difference_literal, literal_of}
use Rattle.vf_exec.specs.Literals.{at_most_of, equal_of}
use Rattle.vf_exec.specs.Small.{IsSmall}

is_small_where : (z : ℤ) → IsSmall z → is_small z ≡ true
is_small_where z s =
    let low : neg_ℤ (pos (2 ^ 90)) ≤ℤ z = s.0 in
    let high : z ≤ℤ pos (2 ^ 90) = s.1 in
    and_from (int_le (neg_ℤ (pos (2 ^ 90))) z) (int_le z (pos (2 ^ 90))) (grind (arith, ints)) (grind (arith, ints))

taken : (b : Bool) (x y : Literal) → b ≡ true → cond b x y ≡ x
taken b x y is = ap (λ c. cond c x y) is

-- a comparison of small numbers goes by their difference
by_difference : (op : Comparison) (a b : ℤ) → IsSmall a → IsSmall b → literal_of op (number a) (number b) ≡ difference_literal op (constant a) (constant b)
by_difference op a b s t = taken (is_small a && is_small b) _ _ (and_from (is_small a) (is_small b) (is_small_where a s) (is_small_where b t))

turned : (a b : ℤ) → neg_ℤ (a +ℤ (neg_ℤ (pos 1) *ℤ b)) ≡ b -ℤ a
turned a b = omega (arith, ints)

pub at_most_is : (a b : ℤ) → IsSmall a → IsSmall b → at_most_of a b ≡ AtMost (number (pos 0)) (number (pos 0)) (b -ℤ a)
at_most_is a b s t = by_difference LessEqual a b s t ∙ ap (λ z. AtMost (number (pos 0)) (number (pos 0)) z) (turned a b)

pub equal_is : (a b : ℤ) → IsSmall a → IsSmall b → equal_of a b ≡ Difference (number (pos 0)) (number (pos 0)) (b -ℤ a)
equal_is a b s t = by_difference Equal a b s t ∙ ap (λ z. Difference (number (pos 0)) (number (pos 0)) z) (turned a b)
