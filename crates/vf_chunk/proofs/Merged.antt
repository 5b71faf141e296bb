-- Arguments of merged chunks, one after another.
use Rattle.std.proofs.Common.{◌≡◌, ℕ, zero, suc, ◌+◌, ◌<◌, ◌≤◌, List, [], ◌∷◌, ◌++◌, drop, length, get_or, refl, sym, ap, ◌∙◌, add-one, arith, append_assoc}
use Rattle.std.proofs.Math.Seq.{drop-cons}
use Rattle.std.proofs.Math.ListN.{drop_of_length-le}
use Rattle.std.proofs.lemmas.List.{append-nil}
use Rattle.vf_chunk.specs.declared.chunk.Argument.{Argument}
use Rattle.vf_chunk.specs.Chunks.{merged_argument, merged_first, merged_arguments}

rest_of : {A : Type 0} (xs : List A) (i : ℕ) (x : A) → i < length xs → x ≡ get_or xs i x → drop i xs ≡ x ∷ drop (i + 1) xs
rest_of xs i x low is = rw add-one (drop-cons xs i x low ∙ ap (λ y. y ∷ drop (suc i) xs) (sym is))

pub first_there : (x y : Argument) (ys : List Argument) (i : ℕ) → i < length ys → y ≡ get_or ys i y → merged_argument x y ≡ merged_first x (drop i ys)
first_there x y ys i low is = ap (merged_first x) (sym (rest_of ys i y low is))

pub first_past : (x : Argument) (ys : List Argument) (i : ℕ) → length ys ≤ i → x ≡ merged_first x (drop i ys)
first_past x ys i high = ap (merged_first x) (sym (drop_of_length-le ys high))

none : (k : ℕ) → drop {A = Argument} k [] ≡ []
none zero = refl
none (suc k) = refl

dropped : (zs : List Argument) (n : ℕ) → drop 1 (drop n zs) ≡ drop (n + 1) zs
dropped [] n = ap (drop 1) (none n) ∙ none 1 ∙ sym (none (n + 1))
dropped (z ∷ zs) zero = refl
dropped (z ∷ zs) (suc n) =
    let e : suc n + 1 ≡ suc (n + 1) = omega arith in
    dropped zs n ∙ ap (λ k. drop k (z ∷ zs)) (sym e)

pub merged_step : (xs ys all more r : List Argument) (i : ℕ) (x y : Argument) → i < length xs → x ≡ get_or xs i x → y ≡ merged_first x (drop i ys) → more ≡ all ++ y ∷ [] → all ++ merged_arguments (drop i xs) (drop i ys) ≡ r → more ++ merged_arguments (drop (i + 1) xs) (drop (i + 1) ys) ≡ r
merged_step xs ys all more r i x y low is e f h =
    ap (λ zs. zs ++ merged_arguments (drop (i + 1) xs) (drop (i + 1) ys)) f
    ∙ append_assoc all (y ∷ []) (merged_arguments (drop (i + 1) xs) (drop (i + 1) ys))
    ∙ ap (λ zs. all ++ y ∷ merged_arguments (drop (i + 1) xs) zs) (sym (dropped ys i))
    ∙ ap (λ z. all ++ z ∷ merged_arguments (drop (i + 1) xs) (drop 1 (drop i ys))) e
    ∙ ap (λ zs. all ++ merged_arguments zs (drop i ys)) (sym (rest_of xs i x low is))
    ∙ h

pub merged_end : (xs ys all r : List Argument) (i : ℕ) → length xs ≤ i → all ++ merged_arguments (drop i xs) (drop i ys) ≡ r → all ≡ r
merged_end xs ys all r i high h =
    sym (append-nil all) ∙ ap (λ zs. all ++ merged_arguments zs (drop i ys)) (sym (drop_of_length-le xs high)) ∙ h
