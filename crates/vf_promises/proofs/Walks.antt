-- Loops along the items of a unit.
use Rattle.std.proofs.Common.{◌≡◌, ℕ, suc, ◌+◌, ◌<◌, List, ◌∷◌, ◌++◌, length, drop, get_or, sym, ap, ◌∙◌, append_assoc, add-one}
use Rattle.std.proofs.Math.Seq.{drop-cons}
use Rattle.vf_syntax.specs.declared.item.Item.{Item}
use Rattle.vf_promises.specs.Required.{along, known_with}

-- one item more, by the names that are known in front of it
pub along_more : {A : Type 0} (give : List (List ℕ) → Item → List A) (xs ys : List Item) (at : ℕ) (x : Item) (known later : List (List ℕ)) (old new whole : List A) → ys ≡ xs → at < length ys → x ≡ get_or ys at x → new ≡ old ++ give known x → later ≡ known_with known x
    → old ++ along give known (drop at xs) ≡ whole → new ++ along give later (drop (at + 1) xs) ≡ whole
along_more give xs ys at x known later old new whole same within is added learnt before =
    let split : drop at ys ≡ x ∷ drop (at + 1) ys = drop-cons ys at x within ∙ ap (λ y. y ∷ drop (suc at) ys) (sym is) ∙ ap (λ n. x ∷ drop n ys) (sym (add-one at)) in
    let rest = along give later (drop (at + 1) xs) in
    ap (λ l. l ++ rest) added
    ∙ append_assoc old (give known x) rest
    ∙ ap (λ k. old ++ (give known x ++ along give k (drop (at + 1) xs))) learnt
    ∙ ap (λ l. old ++ (give known x ++ along give (known_with known x) (drop (at + 1) l))) (sym same)
    ∙ ap (λ l. old ++ along give known l) (sym split)
    ∙ ap (λ l. old ++ along give known (drop at l)) same
    ∙ before
