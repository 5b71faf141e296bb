-- Whether sorts are the first type parameters, told one by one.
use Rattle.std.proofs.Common.{◌≡◌, ◌≢◌, ℕ, ◌+◌, ◌≤◌, Bool, true, false, ◌&&◌, List, [], ◌∷◌, length, drop, Some, None, slice_get, refl, sym, ap, ◌∙◌, arith}
use Rattle.vf_sorts.specs.Sorts.{Sort, row}
use Rattle.vf_datatypes.specs.Arguments.{are_parameters, has_none, is_parameter}
use Rattle.vf_datatypes.proofs.Lists.{left_at, left_end, left_none}

at : (ts : List Sort) (i : ℕ) (t : Sort) → slice_get ts i ≡ Some t → are_parameters i (drop i ts) ≡ (is_parameter i t && are_parameters (i + 1) (drop (i + 1) ts))
at ts i t h = ap (are_parameters i) (left_at ts i t h)

-- one more is its parameter
pub parameters_more : (ts : List Sort) (i : ℕ) (t : Sort) (whole : Bool) → slice_get ts i ≡ Some t → is_parameter i t ≡ true → are_parameters i (drop i ts) ≡ whole → are_parameters (i + 1) (drop (i + 1) ts) ≡ whole
parameters_more ts i t whole h yes_ kept = sym (at ts i t h ∙ ap (λ b. b && are_parameters (i + 1) (drop (i + 1) ts)) yes_) ∙ kept

-- one is not
pub parameters_stop : (ts : List Sort) (i : ℕ) (t : Sort) (whole : Bool) → slice_get ts i ≡ Some t → is_parameter i t ≡ false → are_parameters i (drop i ts) ≡ whole → false ≡ whole
parameters_stop ts i t whole h no_ kept = sym (at ts i t h ∙ ap (λ b. b && are_parameters (i + 1) (drop (i + 1) ts)) no_) ∙ kept

-- none stands at an index
pub parameters_here : (ts : List Sort) (i : ℕ) (whole : Bool) → slice_get ts i ≡ None → are_parameters i (drop i ts) ≡ whole → true ≡ whole
parameters_here ts i whole h kept = sym (ap (are_parameters i) (left_none ts i h)) ∙ kept

-- all are
pub parameters_end : (ts : List Sort) (i : ℕ) (whole : Bool) → length ts ≤ i → are_parameters i (drop i ts) ≡ whole → true ≡ whole
parameters_end ts i whole h kept = sym (ap (are_parameters i) (left_end ts i h)) ∙ kept

-- there are no parts
pub no_parts : (ts : List Sort) → length ts ≡ 0 → has_none (row ts) ≡ true
no_parts [] h = refl
no_parts (t ∷ ts) h = absurd (omega (arith, h))

-- there are some
pub some_parts : (ts : List Sort) → length ts ≢ 0 → has_none (row ts) ≡ false
some_parts [] h = absurd (h refl)
some_parts (t ∷ ts) h = refl
