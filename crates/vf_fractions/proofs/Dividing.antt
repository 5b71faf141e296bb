-- Dividing by an odd part.
use Rattle.std.proofs.Common.{◌≡◌, ℕ, zero, ◌+◌, ◌-◌, ◌*◌, ◌/◌, ◌%◌, ◌^◌, ◌<◌, ◌≤◌, Bool, true, false, cond, refl, sym, ap, ap₂, subst, ◌∙◌, arith}
use Rattle.std.specs.Prelude.{◌==◌, Option, Some, None}
use Rattle.std.proofs.lemmas.Bool.Decides.{nat_tests}
use Rattle.vf_model.specs.Values.{Dyadic}
use Rattle.vf_meaning.specs.Fractions.{numerator, exponent, reduced}
use Rattle.vf_fractions.specs.declared.dyadic.Quotient.TheVariants.{Fraction, NoForm, NotDyadic}
use Rattle.vf_fractions.specs.Kept.{HasForm}
use Rattle.vf_fractions.specs.Arithmetic.{odd_part, halvings, quotient, told}
use Rattle.vf_fractions.proofs.Lowest.{told_kept, told_not_kept, told_not}

-- a divisor whose odd part and halvings are known
module _ (a b : Dyadic) (o z : ℕ) (is : o ≡ odd_part (numerator b)) (halved : z ≡ halvings (numerator b)) where
  by_test : (t : Bool) (r : Option Dyadic) → (numerator a % o == 0) ≡ t → r ≡ cond t (Some (reduced (numerator a / o * 2 ^ exponent b) (exponent a + z))) None → quotient a b ≡ r
  by_test t r f g =
      sym (λ i. cond (numerator a % is i == 0) (Some (reduced (numerator a / is i * 2 ^ exponent b) (exponent a + halved i))) None)
      ∙ ap (λ x. cond x (Some (reduced (numerator a / o * 2 ^ exponent b) (exponent a + z))) None) f ∙ sym g

  no_test : (x : ℕ) → (x ≡ 0 → ⊥) → (x == 0) ≡ false
  no_test x h = grind (arith, nat_tests)

  pub no_quotient : (k : ℕ) → k ≡ numerator a → (k % o ≡ 0 → ⊥) → NotDyadic ≡ told (quotient a b)
  no_quotient k f h = told_not (quotient a b) (by_test false None (no_test (numerator a % o) (subst (λ x. x % o ≡ 0 → ⊥) f h)) refl)

  pub a_quotient : (k n m : ℕ) → k ≡ numerator a → k % o ≡ 0 → n ≡ k / o * 2 ^ exponent b → m ≡ exponent a + z → quotient a b ≡ Some (reduced n m)
  a_quotient k n m f h g i =
      let none : numerator a % o ≡ 0 = subst (λ x. x % o ≡ 0) f h in
      by_test true (Some (reduced n m)) (ap (λ x. x == 0) none) (ap₂ (λ x y. Some (reduced x y)) (g ∙ ap (λ x. x / o * 2 ^ exponent b) f) i)

  pub quotient_kept : (k n m : ℕ) (x : Dyadic) → k ≡ numerator a → k % o ≡ 0 → n ≡ k / o * 2 ^ exponent b → m ≡ exponent a + z → x ≡ reduced n m → HasForm x → Fraction x ≡ told (quotient a b)
  quotient_kept k n m x f h g i same form = told_kept (quotient a b) x (reduced n m) (a_quotient k n m f h g i) same form

  pub quotient_not_kept : (k n m : ℕ) → k ≡ numerator a → k % o ≡ 0 → n ≡ k / o * 2 ^ exponent b → m ≡ exponent a + z → (HasForm (reduced n m) → ⊥) → NoForm ≡ told (quotient a b)
  quotient_not_kept k n m f h g i form = told_not_kept (quotient a b) (reduced n m) (a_quotient k n m f h g i) form

-- a part of a number is not greater
pub part_below : (k o : ℕ) → 0 < o → k < 2 ^ 63 → k / o < 2 ^ 63
part_below k o h g = below k (k / o) o h (omega (arith, h)) g
  where
    below : (k q o : ℕ) → 0 < o → o * q ≤ k → k < 2 ^ 63 → q < 2 ^ 63
    below k q o h l g = grind arith

-- and is above 0 where nothing remains
pub part_above : (k o : ℕ) → 0 < o → 0 < k → k % o ≡ 0 → 0 < k / o
part_above k o h g e = above k (k / o) o g (omega (arith, h, e))
  where
    above : (k q o : ℕ) → 0 < k → o * q ≡ k → 0 < q
    above k zero o g e = absurd (omega (arith, g, e))
    above k (Rattle.std.proofs.Common.suc q) o g e = omega arith

pub ruleset dividing = (no_quotient, quotient_kept, quotient_not_kept, part_below, part_above)
