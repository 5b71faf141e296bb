-- Fractions in lowest terms.
use Rattle.std.proofs.Common.{◌≡◌, ℕ, zero, suc, ◌<◌, ◌≤◌, ◌-◌, ◌/◌, ◌%◌, Bool, true, false, cond, refl, sym, ◌∙◌, ap, subst, arith}
use Rattle.std.specs.Prelude.{◌==◌, Option, Some, None, MatchOption, IsNone}
use Rattle.std.proofs.lemmas.Bool.Decides.{nat_tests}
use Rattle.vf_model.specs.Values.{Dyadic, Odd}
use Rattle.vf_meaning.specs.Fractions.{numerator, reduced}
use Rattle.vf_meaning.proofs.Fractions.{reduced_low}
use Rattle.vf_formula.specs.Fractions.{IsLowest, lowest, IsKept, IsShare, lowest_numerator, lowest_exponent}

-- what is in lowest terms is reduced
pub reduced_lowest : (k m : ℕ) → IsLowest k m → reduced k m ≡ lowest k m
reduced_lowest k zero h = refl
reduced_lowest k (suc m) h = ap (λ x. cond (x == 0) (reduced (k / 2) m) (Odd (k / 2) m)) h

pub share_kept : (k m : ℕ) → IsLowest k m → IsShare (lowest k m) → IsKept k m
share_kept k m h s =
    let n = lowest_numerator k m h in
    let e = lowest_exponent k m in
    record { positive = omega (arith, n, s.positive); numerator = omega (arith, n, s.numerator); exponent = omega (arith, e, s.exponent) }

pub kept_share : (k m : ℕ) → IsLowest k m → IsKept k m → IsShare (lowest k m)
kept_share k m h s =
    let n = lowest_numerator k m h in
    let e = lowest_exponent k m in
    record { positive = omega (arith, n, s.positive); numerator = omega (arith, n, s.numerator); exponent = omega (arith, e, s.exponent) }

-- a fraction in lowest terms that is not kept
pub not_kept : (n e k m : ℕ) → reduced n e ≡ reduced k m → IsLowest n e → (IsKept n e → ⊥) → IsShare (reduced k m) → ⊥
not_kept n e k m same h past s = past (share_kept n e h (subst IsShare (sym same ∙ reduced_lowest n e h) s))

-- a fraction in lowest terms that is kept
pub is_kept : (n e k m : ℕ) → reduced n e ≡ reduced k m → IsLowest n e → IsKept n e → (lowest n e ≡ reduced k m) × IsShare (lowest n e)
is_kept n e k m same h s = (sym (reduced_lowest n e h) ∙ same, kept_share n e h s)

-- a number is even or odd
pub odd_lowest : (k m : ℕ) → (k % 2 ≡ 0 → ⊥) → IsLowest k m
odd_lowest k zero h = tt
odd_lowest k (suc m) h = omega (arith, h)

-- reducing lowers the numerator, and leaves it above 0
reduced_below : (k m : ℕ) → numerator (reduced k m) ≤ k
reduced_below k zero = omega arith
reduced_below k (suc m) = by (k % 2 == 0) refl (reduced_below (k / 2) m)
  where
    by : (b : Bool) → (k % 2 == 0) ≡ b → numerator (reduced (k / 2) m) ≤ k / 2 → numerator (cond b (reduced (k / 2) m) (Odd (k / 2) m)) ≤ k
    by true e h = omega (arith, h)
    by false e h = grind (arith, nat_tests)

reduced_above : (k m : ℕ) → 0 < k → 0 < numerator (reduced k m)
reduced_above k zero h = h
reduced_above k (suc m) h = by (k % 2 == 0) refl (reduced_above (k / 2) m)
  where
    by : (b : Bool) → (k % 2 == 0) ≡ b → (0 < k / 2 → 0 < numerator (reduced (k / 2) m)) → 0 < numerator (cond b (reduced (k / 2) m) (Odd (k / 2) m))
    by true e g =
        let above : 0 < k / 2 = grind (arith, nat_tests) in
        g above
    by false e g = omega arith

-- what is within the limits is within them when it is reduced
pub kept_reduced : (k m : ℕ) → IsKept k m → IsShare (reduced k m)
kept_reduced k m s =
    record {
      positive = reduced_above k m s.positive;
      numerator = omega (arith, reduced_below k m, s.numerator);
      exponent = omega (arith, reduced_low k m, s.exponent);
    }

-- one step of reducing
pub halved : (k m : ℕ) → 0 < m → k % 2 ≡ 0 → reduced k m ≡ reduced (k / 2) (m - 1)
halved k zero h e = absurd (omega (arith, h))
halved k (suc m) h e =
    let same : suc m - 1 ≡ m = omega arith in
    ap (λ x. cond (x == 0) (reduced (k / 2) m) (Odd (k / 2) m)) e ∙ ap (reduced (k / 2)) (sym same)

-- a fraction within the limits is kept
pub none_kept : (o : Option Dyadic) (k m : ℕ) → MatchOption o (IsShare (reduced k m) → ⊥) (λ d. (d ≡ reduced k m) × IsShare d) → IsKept k m → IsNone o → ⊥
none_kept None k m h s n = h (kept_reduced k m s)
none_kept (Some d) k m h s n = cc
