-- Steps are made one after another.
use Rattle.std.proofs.Common.{◌≡◌, ℕ, zero, suc, ◌+◌, ◌≤◌, List, [], ◌∷◌, ◌++◌, length, drop, Some, slice_get, option_map, refl, sym, ap, ◌∙◌, append_assoc, arith}
use Rattle.std.specs.Prelude.{option_to_list}
use Rattle.std.proofs.lemmas.List.{append-nil}
use Rattle.vf_tree.specs.Core.{StepTree}
use Rattle.vf_steps.specs.Core.{Identities, step_tree}
use Rattle.vf_steps.specs.declared.action.Node.{Node}
use Rattle.vf_steps.specs.Shown.{node_of, nodes_of}
use Rattle.vf_steps.specs.Tree.{NodeTree}
use Rattle.vf_flow.specs.Steps.{renumbered, steps_from}

-- what is left at a node begins with it
left_at : {A : Type 0} (xs : List A) (i : ℕ) (x : A) → slice_get xs i ≡ Some x → drop i xs ≡ x ∷ drop (i + 1) xs
left_at [] i x h = absurd cc
left_at (y ∷ xs) zero x h = let e : y ≡ x = cc in rw e refl
left_at (y ∷ xs) (suc i) x h = let step : suc i + 1 ≡ suc (i + 1) = omega arith in rw step (left_at xs i x h)

-- nothing is left behind the end
left_end : {A : Type 0} (xs : List A) (i : ℕ) → length xs ≤ i → drop i xs ≡ []
left_end [] zero h = refl
left_end [] (suc i) h = refl
left_end (x ∷ xs) zero h = absurd (omega arith)
left_end (x ∷ xs) (suc i) h = left_end xs i (omega arith)

-- one more node
pub steps_more : (d : Identities) (f : ℕ → ℕ) (ns : List NodeTree) (i : ℕ) (n : NodeTree) (made now whole : List StepTree) → slice_get ns i ≡ Some n → now ≡ made ++ option_to_list (option_map (renumbered f) (step_tree d i n.action)) → made ++ steps_from d f i (drop i ns) ≡ whole → now ++ steps_from d f (i + 1) (drop (i + 1) ns) ≡ whole
steps_more d f ns i n made now whole h step so =
    let one = option_to_list (option_map (renumbered f) (step_tree d i n.action)) in
    let rest = steps_from d f (i + 1) (drop (i + 1) ns) in
    ap (λ xs. xs ++ rest) step ∙ append_assoc made one rest ∙ ap (λ xs. made ++ steps_from d f i xs) (sym (left_at ns i n h)) ∙ so

-- no node is left
pub steps_end : (d : Identities) (f : ℕ → ℕ) (ns : List NodeTree) (i : ℕ) (made whole : List StepTree) → length ns ≤ i → made ++ steps_from d f i (drop i ns) ≡ whole → made ≡ whole
steps_end d f ns i made whole h so = sym (append-nil made) ∙ ap (λ xs. made ++ steps_from d f i xs) (sym (left_end ns i h)) ∙ so

-- by equal numbers the steps are equal
pub steps_same : (d : Identities) (f g : ℕ → ℕ) (i : ℕ) (ns : List NodeTree) → ((k : ℕ) → f k ≡ g k) → steps_from d f i ns ≡ steps_from d g i ns
steps_same d f g i ns h = λ j. steps_from d (λ k. h k j) i ns

-- what a node of the code shows at an index
pub shown_at : (xs : List Node) (i : ℕ) (x : Node) → slice_get xs i ≡ Some x → slice_get (nodes_of xs) i ≡ Some (node_of x)
shown_at [] i x h = absurd cc
shown_at (y ∷ ys) zero x h = let e : y ≡ x = cc in ap (λ z. Some (node_of z)) e
shown_at (y ∷ ys) (suc i) x h = shown_at ys i x h
