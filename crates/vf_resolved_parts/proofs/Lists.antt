-- Patterns, values and factors, one by one.
use Rattle.std.proofs.Common.{◌≡◌, ℕ, zero, suc, ◌+◌, ◌≤◌, Bool, List, [], ◌∷◌, ◌++◌, length, min, drop, Some, slice_get, refl, sym, ap, ap₂, ◌∙◌, arith}
use Rattle.vf_closure.specs.Terms.{Term}
use Rattle.vf_sorts.specs.Sorts.{Sort}
use Rattle.vf_syntax.specs.declared.pattern.FactorLink.{FactorLink}
use Rattle.vf_syntax.specs.declared.pattern.Pattern.{Pattern}
use Rattle.vf_sorting.proofs.Lists.{left_at}
use Rattle.vf_terms.specs.Settings.{Setting}
use Rattle.vf_terms.specs.Readings.{in_front}
use Rattle.vf_terms.specs.declared.reading.Reading.{Reading}
use Rattle.vf_terms.specs.declared.reading.Row.{Row}
use Rattle.vf_resolved.specs.declared.pattern.Argument.{Argument}
use Rattle.vf_resolved.specs.declared.pattern.Factor as factors
use Rattle.vf_resolved.specs.declared.pattern.Pattern as resolved
use Rattle.vf_resolved_parts.specs.Patterns.{ArgumentsRead, PatternRead, PatternsRead, argument_in_front, argument_of, arguments_read, pattern_in_front, pattern_read, patterns_read, value_read, values_read}
use Rattle.vf_resolved_parts.specs.Shares.{FactorRead, FactorsRead, factor_in_front, factor_read, links_read}
use Rattle.vf_resolved_parts.specs.declared.progress.Progress.{Progress}

append_one : {A : Type 0} (xs ys : List A) (x : A) → (xs ++ x ∷ []) ++ ys ≡ xs ++ x ∷ ys
append_one [] ys x = refl
append_one (y ∷ xs) ys x = ap (λ zs. y ∷ zs) (append_one xs ys x)

append_none : {A : Type 0} (xs : List A) → xs ++ [] ≡ xs
append_none [] = refl
append_none (x ∷ xs) = ap (λ ys. x ∷ ys) (append_none xs)

-- ---- patterns
-- patterns in front of others
abbrev pub put_patterns : List resolved.Pattern → PatternsRead → PatternsRead
put_patterns xs r = record { patterns = xs ++ r.patterns; progress = r.progress }

one_pattern : (xs : List resolved.Pattern) (y : resolved.Pattern) (r : PatternsRead) → put_patterns (xs ++ y ∷ []) r ≡ put_patterns xs (record { patterns = y ∷ r.patterns; progress = r.progress })
one_pattern xs y r = λ i. record { patterns = append_one xs r.patterns y i; progress = r.progress }

-- one pattern more
pub more_patterns : (s : Setting) (m : ℕ) (ts : List Sort) (xs : List Pattern) (i : ℕ) (g g' : Progress) (t : Sort) (x : Pattern) (before : List resolved.Pattern) (y : resolved.Pattern) (w : PatternsRead)
    → slice_get ts i ≡ Some t → slice_get xs i ≡ Some x → pattern_read s m t g x ≡ record { pattern = y; progress = g' }
    → put_patterns before (patterns_read s m (drop i ts) g (drop i xs)) ≡ w
    → put_patterns (before ++ y ∷ []) (patterns_read s m (drop (i + 1) ts) g' (drop (i + 1) xs)) ≡ w
more_patterns s m ts xs i g g' t x before y w e f is h =
    one_pattern before y (patterns_read s m (drop (i + 1) ts) g' (drop (i + 1) xs))
    ∙ sym (ap (λ (z : PatternRead). put_patterns before (pattern_in_front z (patterns_read s m (drop (i + 1) ts) z.progress (drop (i + 1) xs)))) is)
    ∙ sym (ap₂ (λ us ys. put_patterns before (patterns_read s m us g ys)) (left_at ts i t e) (left_at xs i x f))
    ∙ h

no_patterns : (s : Setting) (m : ℕ) (g : Progress) (ts : List Sort) → patterns_read s m ts g [] ≡ record { patterns = []; progress = g }
no_patterns s m g [] = refl
no_patterns s m g (t ∷ ts) = refl

patterns_end : (s : Setting) (m : ℕ) (g : Progress) (ts : List Sort) (xs : List Pattern) (i : ℕ) → min (length xs) (length ts) ≤ i → patterns_read s m (drop i ts) g (drop i xs) ≡ record { patterns = []; progress = g }
patterns_end s m g [] xs zero h = refl
patterns_end s m g (t ∷ ts) [] zero h = refl
patterns_end s m g (t ∷ ts) (x ∷ xs) zero h = absurd (omega (arith, h))
patterns_end s m g [] xs (suc i) h = refl
patterns_end s m g (t ∷ ts) [] (suc i) h = no_patterns s m g (drop i ts)
patterns_end s m g (t ∷ ts) (x ∷ xs) (suc i) h = patterns_end s m g ts xs i (omega (arith, h))

-- no pattern more
pub all_patterns : (s : Setting) (m : ℕ) (ts : List Sort) (xs : List Pattern) (i : ℕ) (g : Progress) (before : List resolved.Pattern) (w : PatternsRead) → min (length xs) (length ts) ≤ i
    → put_patterns before (patterns_read s m (drop i ts) g (drop i xs)) ≡ w → w ≡ record { patterns = before; progress = g }
all_patterns s m ts xs i g before w l h =
    sym h ∙ ap (put_patterns before) (patterns_end s m g ts xs i l) ∙ (λ j. record { patterns = append_none before j; progress = g })

-- ---- values
-- terms in front of a row
abbrev pub put_terms : List Term → Row → Row
put_terms ts r = record { terms = ts ++ r.terms; next = r.next }

one_term : (ts : List Term) (t : Term) (r : Row) → put_terms (ts ++ t ∷ []) r ≡ put_terms ts (record { terms = t ∷ r.terms; next = r.next })
one_term ts t r = λ i. record { terms = append_one ts r.terms t i; next = r.next }

-- one value more
pub more_values : (s : Setting) (ts : List Sort) (xs : List Pattern) (i u : ℕ) (t : Sort) (x : Pattern) (before : List Term) (y : Reading) (w : Row)
    → slice_get ts i ≡ Some t → slice_get xs i ≡ Some x → y ≡ value_read s t u x
    → put_terms before (values_read s (drop i ts) u (drop i xs)) ≡ w
    → put_terms (before ++ y.term ∷ []) (values_read s (drop (i + 1) ts) y.next (drop (i + 1) xs)) ≡ w
more_values s ts xs i u t x before y w e f is h =
    one_term before y.term (values_read s (drop (i + 1) ts) y.next (drop (i + 1) xs))
    ∙ ap (λ (z : Reading). put_terms before (in_front z (values_read s (drop (i + 1) ts) z.next (drop (i + 1) xs)))) is
    ∙ sym (ap₂ (λ us ys. put_terms before (values_read s us u ys)) (left_at ts i t e) (left_at xs i x f))
    ∙ h

no_values : (s : Setting) (u : ℕ) (ts : List Sort) → values_read s ts u [] ≡ record { terms = []; next = u }
no_values s u [] = refl
no_values s u (t ∷ ts) = refl

values_end : (s : Setting) (u : ℕ) (ts : List Sort) (xs : List Pattern) (i : ℕ) → min (length xs) (length ts) ≤ i → values_read s (drop i ts) u (drop i xs) ≡ record { terms = []; next = u }
values_end s u [] xs zero h = refl
values_end s u (t ∷ ts) [] zero h = refl
values_end s u (t ∷ ts) (x ∷ xs) zero h = absurd (omega (arith, h))
values_end s u [] xs (suc i) h = refl
values_end s u (t ∷ ts) [] (suc i) h = no_values s u (drop i ts)
values_end s u (t ∷ ts) (x ∷ xs) (suc i) h = values_end s u ts xs i (omega (arith, h))

-- no value more
pub all_values : (s : Setting) (ts : List Sort) (xs : List Pattern) (i : ℕ) (r w : Row) → min (length xs) (length ts) ≤ i
    → put_terms r.terms (values_read s (drop i ts) r.next (drop i xs)) ≡ w → r ≡ w
all_values s ts xs i r w l h =
    sym (ap (put_terms r.terms) (values_end s r.next ts xs i l) ∙ (λ j. record { terms = append_none r.terms j; next = r.next })) ∙ h

-- ---- values of sorts
-- values in front of others
abbrev pub put_arguments : List Argument → ArgumentsRead → ArgumentsRead
put_arguments xs r = record { arguments = xs ++ r.arguments; next = r.next }

one_argument : (xs : List Argument) (y : Argument) (r : ArgumentsRead) → put_arguments (xs ++ y ∷ []) r ≡ put_arguments xs (record { arguments = y ∷ r.arguments; next = r.next })
one_argument xs y r = λ i. record { arguments = append_one xs r.arguments y i; next = r.next }

-- one value more, of a sort
pub more_arguments : (s : Setting) (ts : List Sort) (xs : List Pattern) (i u : ℕ) (t : Sort) (x : Pattern) (before : List Argument) (y : Reading) (z : Argument) (w : ArgumentsRead)
    → slice_get ts i ≡ Some t → slice_get xs i ≡ Some x → y ≡ value_read s t u x → z ≡ argument_of s t y.term
    → put_arguments before (arguments_read s (drop i ts) u (drop i xs)) ≡ w
    → put_arguments (before ++ z ∷ []) (arguments_read s (drop (i + 1) ts) y.next (drop (i + 1) xs)) ≡ w
more_arguments s ts xs i u t x before y z w e f is at h =
    one_argument before z (arguments_read s (drop (i + 1) ts) y.next (drop (i + 1) xs))
    ∙ ap (λ a. put_arguments before (argument_in_front a (arguments_read s (drop (i + 1) ts) y.next (drop (i + 1) xs)))) at
    ∙ ap (λ (r : Reading). put_arguments before (argument_in_front (argument_of s t r.term) (arguments_read s (drop (i + 1) ts) r.next (drop (i + 1) xs)))) is
    ∙ sym (ap₂ (λ us ys. put_arguments before (arguments_read s us u ys)) (left_at ts i t e) (left_at xs i x f))
    ∙ h

no_arguments : (s : Setting) (u : ℕ) (ts : List Sort) → arguments_read s ts u [] ≡ record { arguments = []; next = u }
no_arguments s u [] = refl
no_arguments s u (t ∷ ts) = refl

arguments_end : (s : Setting) (u : ℕ) (ts : List Sort) (xs : List Pattern) (i : ℕ) → min (length xs) (length ts) ≤ i → arguments_read s (drop i ts) u (drop i xs) ≡ record { arguments = []; next = u }
arguments_end s u [] xs zero h = refl
arguments_end s u (t ∷ ts) [] zero h = refl
arguments_end s u (t ∷ ts) (x ∷ xs) zero h = absurd (omega (arith, h))
arguments_end s u [] xs (suc i) h = refl
arguments_end s u (t ∷ ts) [] (suc i) h = no_arguments s u (drop i ts)
arguments_end s u (t ∷ ts) (x ∷ xs) (suc i) h = arguments_end s u ts xs i (omega (arith, h))

-- no value more
pub all_arguments : (s : Setting) (ts : List Sort) (xs : List Pattern) (i u : ℕ) (before : List Argument) (w : ArgumentsRead) → min (length xs) (length ts) ≤ i
    → put_arguments before (arguments_read s (drop i ts) u (drop i xs)) ≡ w → w ≡ record { arguments = before; next = u }
all_arguments s ts xs i u before w l h =
    sym h ∙ ap (put_arguments before) (arguments_end s u ts xs i l) ∙ (λ j. record { arguments = append_none before j; next = u })

-- ---- factors
-- factors in front of others
abbrev pub put_factors : List factors.Factor → FactorsRead → FactorsRead
put_factors xs r = record { factors = xs ++ r.factors; next = r.next }

one_factor : (xs : List factors.Factor) (y : factors.Factor) (r : FactorsRead) → put_factors (xs ++ y ∷ []) r ≡ put_factors xs (record { factors = y ∷ r.factors; next = r.next })
one_factor xs y r = λ i. record { factors = append_one xs r.factors y i; next = r.next }

-- one factor more
pub more_factors : (s : Setting) (ls : List FactorLink) (i u u' : ℕ) (l : FactorLink) (before : List factors.Factor) (y : factors.Factor) (w : FactorsRead)
    → slice_get ls i ≡ Some l → factor_read s u l.divides l.factor ≡ record { factor = y; next = u' }
    → put_factors before (links_read s u (drop i ls)) ≡ w
    → put_factors (before ++ y ∷ []) (links_read s u' (drop (i + 1) ls)) ≡ w
more_factors s ls i u u' l before y w e is h =
    one_factor before y (links_read s u' (drop (i + 1) ls))
    ∙ sym (ap (λ (z : FactorRead). put_factors before (factor_in_front z (links_read s z.next (drop (i + 1) ls)))) is)
    ∙ sym (ap (λ ks. put_factors before (links_read s u ks)) (left_at ls i l e))
    ∙ h
