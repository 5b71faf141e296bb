-- Nodes are erased one after another.
use Rattle.std.proofs.Common.{◌≡◌, ℕ, ◌+◌, ◌≤◌, List, [], ◌∷◌, ◌++◌, length, take, drop, Some, slice_get, sym, ap, ◌∙◌, append_assoc}
use Rattle.std.proofs.lemmas.List.{append-nil}
use Rattle.vf_steps.specs.Tree.{NodeTree}
use Rattle.vf_functions.specs.Erased.{erased_behind, erased_node}
use Rattle.vf_lower.proofs.Lists.{left_at, left_end}
use Rattle.vf_erase.proofs.Fronts.{front_more}

-- one more node
pub erased_more : (ns : List NodeTree) (i : ℕ) (n : NodeTree) (kept now whole : List NodeTree) → slice_get ns i ≡ Some n → now ≡ kept ++ erased_node (take i ns) n (drop (i + 1) ns) → kept ++ erased_behind (take i ns) (drop i ns) ≡ whole → now ++ erased_behind (take (i + 1) ns) (drop (i + 1) ns) ≡ whole
erased_more ns i n kept now whole h step so =
    let rest = erased_behind (take i ns ++ n ∷ []) (drop (i + 1) ns) in
    let one = erased_node (take i ns) n (drop (i + 1) ns) in
    (λ j. step j ++ erased_behind (front_more ns i n h j) (drop (i + 1) ns)) ∙ append_assoc kept one rest ∙ ap (λ xs. kept ++ erased_behind (take i ns) xs) (sym (left_at ns i n h)) ∙ so

-- no node is left
pub erased_end : (ns : List NodeTree) (i : ℕ) (kept : List NodeTree) → length ns ≤ i → kept ++ erased_behind (take i ns) (drop i ns) ≡ kept
erased_end ns i kept h = ap (λ xs. kept ++ erased_behind (take i ns) xs) (left_end ns i h) ∙ append-nil kept
