-- Lists that are walked by the numbers of their elements.
use Rattle.std.proofs.Common.{◌≡◌, ℕ, zero, suc, ◌+◌, ◌<◌, List, [], ◌∷◌, ◌++◌, length, take, get_or, Some, sym, ap, append_assoc, ◌∙◌, arith}
use Rattle.std.specs.Prelude.{slice_get}
use Rattle.std.specs.List.{flat_map}
use Rattle.std.specs.Option.{option_map}
use Rattle.std.proofs.lemmas.List.{append-nil}
use Rattle.std.proofs.lemmas.Option.{slice_get-get_or}
use Rattle.std.proofs.lemmas.List.Concat.{flat_map-append}
use Rattle.vf_manifest.proofs.Cutting.{some_is, none_some, next}

-- one element more was passed
pub take_more : {A : Type 0} (xs : List A) (i : ℕ) (x : A) → slice_get xs i ≡ Some x → take (i + 1) xs ≡ take i xs ++ x ∷ []
take_more [] i x e = absurd (none_some x e)
take_more (y ∷ ys) zero x e = ap (λ z. z ∷ []) (some_is y x e)
take_more (y ∷ ys) (suc i) x e = ap (λ n. take n (y ∷ ys)) (next i) ∙ ap (λ t. y ∷ t) (take_more ys i x e)

-- what was put behind a text for one element more
pub one_more : {A : Type 0} (f : A → List ℕ) (h out new : List ℕ) (xs : List A) (i : ℕ) → i < length xs → out ≡ h ++ flat_map f (take i xs)
    → option_map (λ x. out ++ f x) (slice_get xs i) ≡ Some new → new ≡ h ++ flat_map f (take (i + 1) xs)
one_more f h out new [] i within so e = absurd (let none : ⊥ = omega arith in none)
one_more f h out new (y ∷ ys) i within so e =
    let d = slice_get-get_or (y ∷ ys) i y within in
    let x = get_or (y ∷ ys) i y in
    sym (some_is (out ++ f x) new (sym (ap (option_map (λ x. out ++ f x)) d) ∙ e))
    ∙ ap (λ o. o ++ f x) so ∙ append_assoc h (flat_map f (take i (y ∷ ys))) (f x)
    ∙ ap (λ t. h ++ (flat_map f (take i (y ∷ ys)) ++ t)) (sym (append-nil (f x)))
    ∙ ap (λ t. h ++ t) (sym (flat_map-append f (take i (y ∷ ys)) (x ∷ []))) ∙ ap (λ t. h ++ flat_map f t) (sym (take_more (y ∷ ys) i x d))
