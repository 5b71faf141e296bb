-- Loops over lists: what is left of a list goes behind others, and names are compared with those of parameters.
use Rattle.std.proofs.Common.{◌≡◌, ℕ, ◌+◌, ◌≤◌, true, false, if◌then◌else◌, List, [], ◌∷◌, ◌++◌, length, drop, Option, Some, None, slice_get, refl, sym, ap, ◌∙◌}
use Rattle.std.proofs.lemmas.List.{append_assoc, append-nil}
use Rattle.std.specs.Str.{bytes_eq}
use Rattle.vf_base.specs.declared.place.Place.{Place}
use Rattle.vf_syntax.specs.declared.item.GhostParameter.{GhostParameter}
use Rattle.vf_walk.proofs.Lists.{left_at, left_none, left_end}
use Rattle.vf_lemma_items.specs.Kept.{first_renamed}

-- one more item is behind the others
pub added_more : {A : Type 0} (xs ys zs whole : List A) (i : ℕ) (x y : A) → slice_get xs i ≡ Some x → y ≡ x → zs ≡ ys ++ y ∷ [] → ys ++ drop i xs ≡ whole → zs ++ drop (i + 1) xs ≡ whole
added_more xs ys zs whole i x y h e is kept =
    ap (λ l. l ++ drop (i + 1) xs) (is ∙ ap (λ z. ys ++ z ∷ []) e)
    ∙ append_assoc ys (x ∷ []) (drop (i + 1) xs)
    ∙ sym (ap (λ l. ys ++ l) (left_at xs i x h))
    ∙ kept

-- no item stands at an index
pub added_none : {A : Type 0} (xs ys whole : List A) (i : ℕ) → slice_get xs i ≡ None → ys ++ drop i xs ≡ whole → ys ≡ whole
added_none xs ys whole i h kept = sym (ap (λ l. ys ++ l) (left_none xs i h) ∙ append-nil ys) ∙ kept

-- the list is done
pub added_end : {A : Type 0} (xs ys whole : List A) (i : ℕ) → length xs ≤ i → ys ++ drop i xs ≡ whole → ys ≡ whole
added_end xs ys whole i h kept = sym (ap (λ l. ys ++ l) (left_end xs i h) ∙ append-nil ys) ∙ kept

-- what names and parameters that are left come to, where one of each stands first
renamed_at : (ns : List (List ℕ)) (gs : List GhostParameter) (i : ℕ) (n : List ℕ) (g : GhostParameter) → slice_get ns i ≡ Some n → slice_get gs i ≡ Some g → first_renamed (drop i ns) (drop i gs) ≡ (if bytes_eq n g.name.text then first_renamed (drop (i + 1) ns) (drop (i + 1) gs) else Some g.name.place)
renamed_at ns gs i n g h k = ap (λ xs. first_renamed xs (drop i gs)) (left_at ns i n h) ∙ ap (λ ys. first_renamed (n ∷ drop (i + 1) ns) ys) (left_at gs i g k)

-- a parameter has another name
pub renamed_here : (ns : List (List ℕ)) (gs : List GhostParameter) (i : ℕ) (n : List ℕ) (g : GhostParameter) → slice_get ns i ≡ Some n → slice_get gs i ≡ Some g → bytes_eq n g.name.text ≡ false → first_renamed (drop i ns) (drop i gs) ≡ Some g.name.place
renamed_here ns gs i n g h k e = renamed_at ns gs i n g h k ∙ ap (λ b. if b then first_renamed (drop (i + 1) ns) (drop (i + 1) gs) else Some g.name.place) e

-- a parameter has the same name
pub renamed_more : (ns : List (List ℕ)) (gs : List GhostParameter) (i : ℕ) (n : List ℕ) (g : GhostParameter) (whole : Option Place) → slice_get ns i ≡ Some n → slice_get gs i ≡ Some g → bytes_eq n g.name.text ≡ true → first_renamed (drop i ns) (drop i gs) ≡ whole → first_renamed (drop (i + 1) ns) (drop (i + 1) gs) ≡ whole
renamed_more ns gs i n g whole h k e kept = sym (renamed_at ns gs i n g h k ∙ ap (λ b. if b then first_renamed (drop (i + 1) ns) (drop (i + 1) gs) else Some g.name.place) e) ∙ kept

-- nothing is renamed where there are no parameters
renamed_nothing : (ns : List (List ℕ)) → first_renamed ns [] ≡ None
renamed_nothing [] = refl
renamed_nothing (n ∷ ns) = refl

-- no parameter stands at an index
pub renamed_none : (ns : List (List ℕ)) (gs : List GhostParameter) (i : ℕ) → slice_get gs i ≡ None → first_renamed (drop i ns) (drop i gs) ≡ None
renamed_none ns gs i h = ap (λ ys. first_renamed (drop i ns) ys) (left_none gs i h) ∙ renamed_nothing (drop i ns)

-- no name stands at an index
pub renamed_nameless : (ns : List (List ℕ)) (gs : List GhostParameter) (i : ℕ) → slice_get ns i ≡ None → first_renamed (drop i ns) (drop i gs) ≡ None
renamed_nameless ns gs i h = ap (λ xs. first_renamed xs (drop i gs)) (left_none ns i h)

-- the list is done
pub renamed_end : (ns : List (List ℕ)) (gs : List GhostParameter) (i : ℕ) → length gs ≤ i → first_renamed (drop i ns) (drop i gs) ≡ None
renamed_end ns gs i h = ap (λ ys. first_renamed (drop i ns) ys) (left_end gs i h) ∙ renamed_nothing (drop i ns)
