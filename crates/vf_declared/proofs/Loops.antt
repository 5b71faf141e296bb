-- Loops over lists of numbers.
use Rattle.std.proofs.Common.{◌≡◌, ℕ, ◌+◌, ◌≤◌, Bool, true, false, ◌||◌, List, length, drop, Some, None, slice_get, sym, ap, ◌∙◌}
use Rattle.std.proofs.lemmas.Bool.{eq-eqb, ne_eqb}
use Rattle.vf_declared.specs.declared.scope.Scope.{Scope}
use Rattle.vf_declared.specs.Scopes.{has, sees, is_visible}
use Rattle.vf_declared.proofs.Lists.{left_at, left_none, left_end}

-- the number stands at the item
pub has_here : (xs : List ℕ) (i : ℕ) (x n : ℕ) → slice_get xs i ≡ Some x → x ≡ n → has (drop i xs) n ≡ true
has_here xs i x n h e = ap (λ ys. has ys n) (left_at xs i x h) ∙ ap (λ b. b || has (drop (i + 1) xs) n) (eq-eqb x n e)

-- the number stands behind the item or nowhere
pub has_more : (xs : List ℕ) (i : ℕ) (x n : ℕ) (whole : Bool) → slice_get xs i ≡ Some x → (x ≡ n → ⊥) → has (drop i xs) n ≡ whole → has (drop (i + 1) xs) n ≡ whole
has_more xs i x n whole h e kept = sym (ap (λ ys. has ys n) (left_at xs i x h) ∙ ap (λ b. b || has (drop (i + 1) xs) n) (ne_eqb x n e)) ∙ kept

-- no number stands at an index
pub has_none : (xs : List ℕ) (i : ℕ) (n : ℕ) → slice_get xs i ≡ None → has (drop i xs) n ≡ false
has_none xs i n h = ap (λ ys. has ys n) (left_none xs i h)

-- the list is done
pub has_end : (xs : List ℕ) (i : ℕ) (n : ℕ) → length xs ≤ i → has (drop i xs) n ≡ false
has_end xs i n h = ap (λ ys. has ys n) (left_end xs i h)

-- the file is seen
pub visible_here : (s : Scope) (from : ℕ) (xs : List ℕ) (i : ℕ) (x : ℕ) → slice_get xs i ≡ Some x → sees s from x ≡ true → is_visible s from (drop i xs) ≡ true
visible_here s from xs i x h e = ap (is_visible s from) (left_at xs i x h) ∙ ap (λ b. b || is_visible s from (drop (i + 1) xs)) e

-- a file behind it is seen or none
pub visible_more : (s : Scope) (from : ℕ) (xs : List ℕ) (i : ℕ) (x : ℕ) (whole : Bool) → slice_get xs i ≡ Some x → sees s from x ≡ false → is_visible s from (drop i xs) ≡ whole → is_visible s from (drop (i + 1) xs) ≡ whole
visible_more s from xs i x whole h e kept = sym (ap (is_visible s from) (left_at xs i x h) ∙ ap (λ b. b || is_visible s from (drop (i + 1) xs)) e) ∙ kept

-- no file stands at an index
pub visible_none : (s : Scope) (from : ℕ) (xs : List ℕ) (i : ℕ) → slice_get xs i ≡ None → is_visible s from (drop i xs) ≡ false
visible_none s from xs i h = ap (is_visible s from) (left_none xs i h)

-- the list is done
pub visible_end : (s : Scope) (from : ℕ) (xs : List ℕ) (i : ℕ) → length xs ≤ i → is_visible s from (drop i xs) ≡ false
visible_end s from xs i h = ap (is_visible s from) (left_end xs i h)
