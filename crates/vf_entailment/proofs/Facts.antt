-- Literals say what they hold of.
use Rattle.std.proofs.Common.{◌≡◌, ◌↔◌, Bool, true, false, not, refl, sym, subst, arith}
use Rattle.std.specs.Prelude.{ℤ, ◌+ℤ◌, ◌-ℤ◌, ◌≤ℤ◌, int_le}
use Rattle.std.specs.Ordering.{int_eq}
use Rattle.std.proofs.lemmas.Int.{ints}
use Rattle.std.proofs.lemmas.Bool.Decides.{Decides-int_eq}
use Rattle.vf_model.specs.Values.{number_of}
use Rattle.vf_meaning.specs.Valuations.{Valuation, is_same}
use Rattle.vf_meaning.specs.GhostValues.{Interpretation, value_of}
use Rattle.vf_meaning.proofs.Values.{tells_values}
use Rattle.vf_closure.specs.Terms.{Term}
use Rattle.vf_closure.specs.Values.{value}
use Rattle.vf_closure.specs.Literals.{Equal, NotEqual, AtMost, Difference, NotDifference, False}
use Rattle.vf_entailment.specs.Meant.{meant}
use Rattle.vf_entailment.specs.Laws.{LiteralsAreFacts}
use Rattle.vf_entailment.proofs.Values.{terms_meant}

-- a test and its denial
denied : {A : Type 0} (b : Bool) → (b ≡ true) ↔ A → (not b ≡ true) ↔ (A → ⊥)
denied true e = (λ h. absurd cc, λ n. absurd (n (e.0 refl)))
denied false e = (λ h a. let f = e.1 a in cc, λ n. refl)

at_most : (a b c : ℤ) → (int_le (a -ℤ b) c ≡ true) ↔ (a ≤ℤ (b +ℤ c))
at_most a b c = (λ h. grind (arith, ints), λ h. grind (arith, ints))

apart : (a b c : ℤ) → (int_eq (a -ℤ b) c ≡ true) ↔ (a ≡ b +ℤ c)
apart a b c = (λ h. let e = (Decides-int_eq (a -ℤ b) c).0 h in omega (arith, ints, e), λ h. (Decides-int_eq (a -ℤ b) c).1 (omega (arith, ints, h)))

module _ (i : Interpretation) (v : Valuation) where
  equal_said : (a b : Term) → (is_same (value_of i v (meant a)) (value_of i v (meant b)) ≡ true) ↔ (value i v a ≡ value i v b)
  equal_said a b =
      subst (λ x. (is_same x (value_of i v (meant b)) ≡ true) ↔ (value i v a ≡ value i v b)) (sym (terms_meant i v a))
      (subst (λ y. (is_same (value i v a) y ≡ true) ↔ (value i v a ≡ value i v b)) (sym (terms_meant i v b)) (tells_values (value i v a) (value i v b)))

  at_most_said : (p n : Term) (c : ℤ) → (int_le (number_of (value_of i v (meant p)) -ℤ number_of (value_of i v (meant n))) c ≡ true) ↔ (number_of (value i v p) ≤ℤ (number_of (value i v n) +ℤ c))
  at_most_said p n c =
      subst (λ x. (int_le (number_of x -ℤ number_of (value_of i v (meant n))) c ≡ true) ↔ (number_of (value i v p) ≤ℤ (number_of (value i v n) +ℤ c))) (sym (terms_meant i v p))
      (subst (λ y. (int_le (number_of (value i v p) -ℤ number_of y) c ≡ true) ↔ (number_of (value i v p) ≤ℤ (number_of (value i v n) +ℤ c))) (sym (terms_meant i v n)) (at_most (number_of (value i v p)) (number_of (value i v n)) c))

  difference_said : (p n : Term) (c : ℤ) → (int_eq (number_of (value_of i v (meant p)) -ℤ number_of (value_of i v (meant n))) c ≡ true) ↔ (number_of (value i v p) ≡ number_of (value i v n) +ℤ c)
  difference_said p n c =
      subst (λ x. (int_eq (number_of x -ℤ number_of (value_of i v (meant n))) c ≡ true) ↔ (number_of (value i v p) ≡ number_of (value i v n) +ℤ c)) (sym (terms_meant i v p))
      (subst (λ y. (int_eq (number_of (value i v p) -ℤ number_of y) c ≡ true) ↔ (number_of (value i v p) ≡ number_of (value i v n) +ℤ c)) (sym (terms_meant i v n)) (apart (number_of (value i v p)) (number_of (value i v n)) c))

pub literals_said : LiteralsAreFacts
literals_said i v (Equal a b) = equal_said i v a b
literals_said i v (NotEqual a b) = denied (is_same (value_of i v (meant a)) (value_of i v (meant b))) (equal_said i v a b)
literals_said i v (AtMost p n c) = at_most_said i v p n c
literals_said i v (Difference p n c) = difference_said i v p n c
literals_said i v (NotDifference p n c) = denied (int_eq (number_of (value_of i v (meant p)) -ℤ number_of (value_of i v (meant n))) c) (difference_said i v p n c)
literals_said i v False = (λ h. absurd cc, λ h. absurd h)
