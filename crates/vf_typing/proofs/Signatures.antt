-- Loops over two lists of types.
use Rattle.std.proofs.Common.{◌≡◌, ℕ, zero, suc, ◌+◌, Bool, true, false, ◌&&◌, List, [], ◌∷◌, length, drop, Some, None, slice_get, ◌≤◌, refl, sym, ap, ◌∙◌, arith}
use Rattle.vf_declared.specs.declared.ctype.CType.{CType}
use Rattle.vf_declared.specs.Types.{same_type, same_types}
use Rattle.vf_typing.proofs.Lists.{left_at}

-- lists of two lengths are not the same
pub same_length : (xs ys : List CType) → (length xs ≡ length ys → ⊥) → same_types xs ys ≡ false
same_length [] [] h = absurd (h refl)
same_length [] (y ∷ ys) h = refl
same_length (x ∷ xs) [] h = refl
same_length (x ∷ xs) (y ∷ ys) h = behind (same_type x y) (same_types xs ys) (same_length xs ys (λ e. h (ap suc e)))
  where
    behind : (a b : Bool) → b ≡ false → (a && b) ≡ false
    behind true b e = e
    behind false b e = refl

-- the lists are done together
pub same_done : (xs ys : List CType) (i : ℕ) → length xs ≡ length ys → slice_get ys i ≡ None → same_types (drop i xs) (drop i ys) ≡ true
same_done [] [] zero h n = refl
same_done [] [] (suc i) h n = refl
same_done [] (y ∷ ys) i h n = absurd (omega arith)
same_done (x ∷ xs) [] i h n = absurd (omega arith)
same_done (x ∷ xs) (y ∷ ys) zero h n = absurd cc
same_done (x ∷ xs) (y ∷ ys) (suc i) h n = same_done xs ys i (omega arith) n

-- the same, of the first
pub same_done_first : (xs ys : List CType) (i : ℕ) → length xs ≡ length ys → slice_get xs i ≡ None → same_types (drop i xs) (drop i ys) ≡ true
same_done_first [] [] zero h n = refl
same_done_first [] [] (suc i) h n = refl
same_done_first [] (y ∷ ys) i h n = absurd (omega arith)
same_done_first (x ∷ xs) [] i h n = absurd (omega arith)
same_done_first (x ∷ xs) (y ∷ ys) zero h n = absurd cc
same_done_first (x ∷ xs) (y ∷ ys) (suc i) h n = same_done_first xs ys i (omega arith) n

-- the same, behind the end
pub same_end : (xs ys : List CType) (i : ℕ) → length xs ≡ length ys → length xs ≤ i → same_types (drop i xs) (drop i ys) ≡ true
same_end [] [] zero h n = refl
same_end [] [] (suc i) h n = refl
same_end [] (y ∷ ys) i h n = absurd (omega arith)
same_end (x ∷ xs) [] i h n = absurd (omega arith)
same_end (x ∷ xs) (y ∷ ys) zero h n = absurd (omega arith)
same_end (x ∷ xs) (y ∷ ys) (suc i) h n = same_end xs ys i (omega arith) (omega arith)

-- two types at an index, and what is left behind them
pub same_at : (xs ys : List CType) (i : ℕ) (x y : CType) → slice_get xs i ≡ Some x → slice_get ys i ≡ Some y → same_types (drop i xs) (drop i ys) ≡ (same_type x y && same_types (drop (i + 1) xs) (drop (i + 1) ys))
same_at xs ys i x y h k = (λ j. same_types (left_at xs i x h j) (left_at ys i y k j))

-- two types differ
pub same_differs : (xs ys : List CType) (i : ℕ) (x y : CType) → slice_get xs i ≡ Some x → slice_get ys i ≡ Some y → same_type x y ≡ false → same_types (drop i xs) (drop i ys) ≡ false
same_differs xs ys i x y h k e = same_at xs ys i x y h k ∙ ap (λ b. b && same_types (drop (i + 1) xs) (drop (i + 1) ys)) e

-- two types are the same
pub same_more : (xs ys : List CType) (i : ℕ) (x y : CType) (whole : Bool) → slice_get xs i ≡ Some x → slice_get ys i ≡ Some y → same_type x y ≡ true → same_types (drop i xs) (drop i ys) ≡ whole → same_types (drop (i + 1) xs) (drop (i + 1) ys) ≡ whole
same_more xs ys i x y whole h k e kept = sym (same_at xs ys i x y h k ∙ ap (λ b. b && same_types (drop (i + 1) xs) (drop (i + 1) ys)) e) ∙ kept
