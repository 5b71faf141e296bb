-- Fractions in lowest terms.
use Rattle.std.proofs.Common.{◌≡◌, ℕ, zero, suc, ◌+◌, ◌<◌, ◌≤◌, ◌-◌, ◌*◌, ◌/◌, ◌%◌, ◌^◌, Bool, true, false, cond, refl, sym, ◌∙◌, ap, ap₂, subst, arith}
use Rattle.std.specs.Prelude.{◌==◌, ◌&&◌, nat_lt, nat_le, Option, Some, None, MatchOption, IsNone}
use Rattle.std.proofs.lemmas.Bool.{and_from}
use Rattle.std.proofs.lemmas.Bool.Decides.{nat_tests}
use Rattle.std.proofs.Common.{pow_pos}
use Rattle.std.proofs.Math.Pow.{pow_mono}
use Rattle.std.proofs.lemmas.Nat.{shl_whole, mul-lt}
use Rattle.vf_model.specs.Values.{Dyadic, Whole, Odd}
use Rattle.vf_meaning.specs.Fractions.{numerator, exponent, reduced, nought, half, AtMost}
use Rattle.vf_meaning.proofs.Fractions.{reduced_low}
use Rattle.vf_fractions.specs.declared.dyadic.Quotient.TheVariants.{Fraction, NoForm, NotDyadic}
use Rattle.vf_fractions.specs.Arithmetic.{difference, told}
use Rattle.vf_fractions.specs.Kept.{IsLowest, lowest, IsKept, HasForm, has_form, formed, lowest_numerator, lowest_exponent}

-- what is in lowest terms is reduced
pub reduced_lowest : (k m : ℕ) → IsLowest k m → reduced k m ≡ lowest k m
reduced_lowest k zero h = refl
reduced_lowest k (suc m) h = ap (λ x. cond (x == 0) (reduced (k / 2) m) (Odd (k / 2) m)) h

pub share_kept : (k m : ℕ) → IsLowest k m → HasForm (lowest k m) → IsKept k m
share_kept k m h s =
    let n = lowest_numerator k m h in
    let e = lowest_exponent k m in
    record { positive = omega (arith, n, s.positive); numerator = omega (arith, n, s.numerator); exponent = omega (arith, e, s.exponent) }

pub kept_share : (k m : ℕ) → IsLowest k m → IsKept k m → HasForm (lowest k m)
kept_share k m h s =
    let n = lowest_numerator k m h in
    let e = lowest_exponent k m in
    record { positive = omega (arith, n, s.positive); numerator = omega (arith, n, s.numerator); exponent = omega (arith, e, s.exponent) }

-- a fraction in lowest terms that is not kept
pub not_kept : (n e k m : ℕ) → reduced n e ≡ reduced k m → IsLowest n e → (IsKept n e → ⊥) → HasForm (reduced k m) → ⊥
not_kept n e k m same h past s = past (share_kept n e h (subst HasForm (sym same ∙ reduced_lowest n e h) s))

-- a fraction in lowest terms that is kept
pub is_kept : (n e k m : ℕ) → reduced n e ≡ reduced k m → IsLowest n e → IsKept n e → (lowest n e ≡ reduced k m) × HasForm (lowest n e)
is_kept n e k m same h s = (sym (reduced_lowest n e h) ∙ same, kept_share n e h s)

-- a number is even or odd
pub odd_lowest : (k m : ℕ) → (k % 2 ≡ 0 → ⊥) → IsLowest k m
odd_lowest k zero h = tt
odd_lowest k (suc m) h = omega (arith, h)

-- reducing lowers the numerator, and leaves it above 0
reduced_below : (k m : ℕ) → numerator (reduced k m) ≤ k
reduced_below k zero = omega arith
reduced_below k (suc m) = by (k % 2 == 0) refl (reduced_below (k / 2) m)
  where
    by : (b : Bool) → (k % 2 == 0) ≡ b → numerator (reduced (k / 2) m) ≤ k / 2 → numerator (cond b (reduced (k / 2) m) (Odd (k / 2) m)) ≤ k
    by true e h = omega (arith, h)
    by false e h = grind (arith, nat_tests)

reduced_above : (k m : ℕ) → 0 < k → 0 < numerator (reduced k m)
reduced_above k zero h = h
reduced_above k (suc m) h = by (k % 2 == 0) refl (reduced_above (k / 2) m)
  where
    by : (b : Bool) → (k % 2 == 0) ≡ b → (0 < k / 2 → 0 < numerator (reduced (k / 2) m)) → 0 < numerator (cond b (reduced (k / 2) m) (Odd (k / 2) m))
    by true e g =
        let above : 0 < k / 2 = grind (arith, nat_tests) in
        g above
    by false e g = omega arith

-- what is within the limits is within them when it is reduced
pub kept_reduced : (k m : ℕ) → IsKept k m → HasForm (reduced k m)
kept_reduced k m s =
    record {
      positive = reduced_above k m s.positive;
      numerator = omega (arith, reduced_below k m, s.numerator);
      exponent = omega (arith, reduced_low k m, s.exponent);
    }

-- one step of reducing
pub halved : (k m : ℕ) → 0 < m → k % 2 ≡ 0 → reduced k m ≡ reduced (k / 2) (m - 1)
halved k zero h e = absurd (omega (arith, h))
halved k (suc m) h e =
    let same : suc m - 1 ≡ m = omega arith in
    ap (λ x. cond (x == 0) (reduced (k / 2) m) (Odd (k / 2) m)) e ∙ ap (reduced (k / 2)) (sym same)

-- a fraction within the limits is kept
pub none_kept : (o : Option Dyadic) (k m : ℕ) → MatchOption o (HasForm (reduced k m) → ⊥) (λ d. (d ≡ reduced k m) × HasForm d) → IsKept k m → IsNone o → ⊥
none_kept None k m h s n = h (kept_reduced k m s)
none_kept (Some d) k m h s n = cc

-- ---- numerators over finer denominators
-- within the limits nothing is shifted out
pub shifted : (n e : ℕ) → n < 2 ^ 63 → e ≤ 60 → (n * 2 ^ e) % 2 ^ 128 ≡ n * 2 ^ e
shifted n e h g = shl_whole n 63 e 128 h (omega (arith, g))

pub shifted_below : (n e : ℕ) → n < 2 ^ 63 → e ≤ 60 → n * 2 ^ e < 2 ^ 123
shifted_below n e h g = times_below n (2 ^ e) h (powers e g)
  where
    powers : (e : ℕ) → e ≤ 60 → 2 ^ e ≤ 2 ^ 60
    powers e g = grind (arith, pow_mono)

    times_below : (n p : ℕ) → n < 2 ^ 63 → p ≤ 2 ^ 60 → n * p < 2 ^ 123
    times_below n p h g = grind arith

pub shifted_above : (n e : ℕ) → 0 < n → 0 < n * 2 ^ e
shifted_above n e h = times_above n (2 ^ e) h (pow_pos e)
  where
    times_above : (n p : ℕ) → 0 < n → 0 < p → 0 < n * p
    times_above n p h g = grind arith

-- ---- products
pub multiplied_below : (a b : ℕ) → a < 2 ^ 63 → b < 2 ^ 63 → a * b < 2 ^ 126
multiplied_below a b h g = mul-lt a b (2 ^ 63) (2 ^ 63) h g

pub multiplied_above : (a b : ℕ) → 0 < a → 0 < b → 0 < a * b
multiplied_above a b h g = grind arith

-- ---- differences
reduced_nought : (m : ℕ) → reduced 0 m ≡ Whole 0
reduced_nought zero = refl
reduced_nought (suc m) = reduced_nought m

pub nought_left : (a b : Dyadic) → AtMost a b → difference a b ≡ nought
nought_left a b h =
    let none : numerator a * 2 ^ exponent b - numerator b * 2 ^ exponent a ≡ 0 = omega (arith, h) in
    ap (λ k. reduced k (exponent a + exponent b)) none ∙ reduced_nought (exponent a + exponent b)

-- where a fraction is not greater nothing is left
nothing_left : (a b : Dyadic) → numerator a * 2 ^ exponent b ≤ numerator b * 2 ^ exponent a → HasForm (difference a b) → ⊥
nothing_left a b h form =
    let no : HasForm nought = subst HasForm (nought_left a b h) form in
    let above = no.positive in absurd (omega (arith, above))

-- ---- whether there is a form
pub has_form_where : (d : Dyadic) → HasForm d → has_form d ≡ true
has_form_where d h =
    let above = h.positive in
    let below = h.numerator in
    let low = h.exponent in
    and_from (nat_lt 0 (numerator d)) (nat_lt (numerator d) (2 ^ 63) && nat_le (exponent d) 60) (grind (arith, nat_tests))
    (and_from (nat_lt (numerator d) (2 ^ 63)) (nat_le (exponent d) 60) (grind (arith, nat_tests)) (grind (arith, nat_tests)))

both_first : (x y : Bool) → (x && y) ≡ true → x ≡ true
both_first true y e = refl
both_first false y e = cc

both_second : (x y : Bool) → (x && y) ≡ true → y ≡ true
both_second true y e = e
both_second false y e = cc

is_above : (n : ℕ) → nat_lt 0 n ≡ true → 0 < n
is_above n e = grind (arith, nat_tests)

is_below : (n : ℕ) → nat_lt n (2 ^ 63) ≡ true → n < 2 ^ 63
is_below n e = grind (arith, nat_tests)

is_low : (n : ℕ) → nat_le n 60 ≡ true → n ≤ 60
is_low n e = grind (arith, nat_tests)

pub has_form_from : (d : Dyadic) → has_form d ≡ true → HasForm d
has_form_from d e =
    let rest = both_second (nat_lt 0 (numerator d)) (nat_lt (numerator d) (2 ^ 63) && nat_le (exponent d) 60) e in
    record {
      positive = is_above (numerator d) (both_first (nat_lt 0 (numerator d)) (nat_lt (numerator d) (2 ^ 63) && nat_le (exponent d) 60) e);
      numerator = is_below (numerator d) (both_first (nat_lt (numerator d) (2 ^ 63)) (nat_le (exponent d) 60) rest);
      exponent = is_low (exponent d) (both_second (nat_lt (numerator d) (2 ^ 63)) (nat_le (exponent d) 60) rest);
    }

-- an answer that is there exactly where a fraction has a form
pub formed_from : (o : Option Dyadic) (x : Dyadic) → MatchOption o (HasForm x → ⊥) (λ d. (d ≡ x) × HasForm d) → o ≡ formed x
formed_from None x h = by (has_form x) refl
  where
    by : (b : Bool) → has_form x ≡ b → None ≡ cond b (Some x) None
    by true e = absurd (h (has_form_from x e))
    by false e = refl
formed_from (Some d) x h =
    ap Some h.0 ∙ sym (ap (λ b. cond b (Some x) None) (has_form_where x (subst HasForm h.0 h.1)))

-- nothing is answered where there is no form
none_formed : (x : Dyadic) → (HasForm x → ⊥) → None ≡ formed x
none_formed x h = formed_from None x h

pub none_left : (a b : Dyadic) (n e k m x y : ℕ) → n ≡ numerator a → e ≡ exponent b → k ≡ numerator b → m ≡ exponent a → x ≡ n * 2 ^ e → y ≡ k * 2 ^ m → x ≤ y → None ≡ formed (difference a b)
none_left a b n e k m x y f g h i p q l =
    let first : x ≡ numerator a * 2 ^ exponent b = p ∙ ap₂ (λ u v. u * 2 ^ v) f g in
    let second : y ≡ numerator b * 2 ^ exponent a = q ∙ ap₂ (λ u v. u * 2 ^ v) h i in
    none_formed (difference a b) (nothing_left a b (omega (arith, first, second, l)))

-- ---- halves
-- one halving more
pub half_is : (o : Option Dyadic) (a : Dyadic) (n e : ℕ) → n ≡ numerator a → e ≡ exponent a → MatchOption o (HasForm (reduced n (e + 1)) → ⊥) (λ d. (d ≡ reduced n (e + 1)) × HasForm d) → o ≡ formed (half a)
half_is o a n e f g h =
    let next : e + 1 ≡ suc (exponent a) = omega (arith, g) in
    formed_from o (half a) (subst (λ r. MatchOption o (HasForm r → ⊥) (λ d. (d ≡ r) × HasForm d)) (ap₂ reduced f next) h)

-- ---- quotients
-- what is kept of a quotient, or is not
pub told_kept : (o : Option Dyadic) (x r : Dyadic) → o ≡ Some r → x ≡ r → HasForm x → Fraction x ≡ told o
told_kept o x r e f h =
    let is : Fraction x ≡ told (Some r) = ap Fraction f ∙ sym (ap (λ b. cond b (Fraction r) NoForm) (has_form_where r (subst HasForm f h))) in
    is ∙ ap told (sym e)

pub told_not_kept : (o : Option Dyadic) (r : Dyadic) → o ≡ Some r → (HasForm r → ⊥) → NoForm ≡ told o
told_not_kept o r e h = by (has_form r) refl ∙ ap told (sym e)
  where
    by : (b : Bool) → has_form r ≡ b → NoForm ≡ cond b (Fraction r) NoForm
    by true g = absurd (h (has_form_from r g))
    by false g = refl

pub told_not : (o : Option Dyadic) → o ≡ None → NotDyadic ≡ told o
told_not o e = ap told (sym e)
