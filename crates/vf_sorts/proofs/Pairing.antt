-- Sorts of two lists, place by place.
use Rattle.std.proofs.Common.{◌≡◌, ℕ, zero, suc, ◌+◌, ◌<◌, List, [], ◌∷◌, ◌++◌, append_assoc, drop, length, reverse, Some, None, refl, sym, ap, ap₂, ◌∙◌, arith}
use Rattle.std.specs.Prelude.{slice_get}
use mathlib.Core.List.{reverse-cons}
use Rattle.vf_sorts.specs.declared.pair.Pair.{Pair}
use Rattle.vf_sorts.specs.Sorts.{Sort}
use Rattle.vf_sorts.specs.Pairs.{paired}

-- the sorts at a place come before those behind them
paired_from : (xs ys : List Sort) (i : ℕ) (x y : Sort) → slice_get xs i ≡ Some x → slice_get ys i ≡ Some y → drop i (paired xs ys) ≡ record { left = x; right = y } ∷ drop (i + 1) (paired xs ys)
paired_from [] ys i x y h k = absurd cc
paired_from (a ∷ xs) [] i x y h k = absurd cc
paired_from (a ∷ xs) (b ∷ ys) zero x y h k =
    let p : a ≡ x = cc in
    let q : b ≡ y = cc in
    ap₂ (λ (l r : Sort). record { left = l; right = r } ∷ paired xs ys) p q
paired_from (a ∷ xs) (b ∷ ys) (suc i) x y h k = let step : suc i + 1 ≡ suc (i + 1) = omega arith in rw step (paired_from xs ys i x y h k)

-- none are left behind as many as there are
pub paired_none : (xs ys : List Sort) → drop (length xs) (paired xs ys) ≡ []
paired_none [] ys = refl
paired_none (x ∷ xs) [] = refl
paired_none (x ∷ xs) (y ∷ ys) = paired_none xs ys

pub appended_before : (start pairs then_pairs : List Pair) (xs ys : List Sort) (i : ℕ) (x y : Sort) (p : Pair) → slice_get xs i ≡ Some x → slice_get ys i ≡ Some y → p ≡ record { left = x; right = y }
    → pairs ≡ start ++ reverse (drop (i + 1) (paired xs ys)) → then_pairs ≡ pairs ++ p ∷ [] → then_pairs ≡ start ++ reverse (drop i (paired xs ys))
appended_before start pairs then_pairs xs ys i x y p h k is before e =
    e ∙ ap₂ (λ (ps : List Pair) (q : Pair). ps ++ q ∷ []) before is
    ∙ append_assoc start (reverse (drop (i + 1) (paired xs ys))) (record { left = x; right = y } ∷ [])
    ∙ ap (λ (ps : List Pair). start ++ ps) (sym (reverse-cons (record { left = x; right = y }) (drop (i + 1) (paired xs ys))))
    ∙ ap (λ (ps : List Pair). start ++ reverse ps) (sym (paired_from xs ys i x y h k))

-- there is a sort at each place in front of as many as there are
pub is_there : (xs : List Sort) (i : ℕ) → i < length xs → slice_get xs i ≡ None → ⊥
is_there [] i lt e = omega (arith, lt)
is_there (x ∷ xs) zero lt e = cc
is_there (x ∷ xs) (suc i) lt e = is_there xs i (omega (arith, lt)) e
