-- The classes that are kept aside at each step, so that it can be taken back.
use Rattle.std.specs.Prelude.{◌≡◌, ℕ, ◌<◌, ◌++◌, ◌⊎◌, List, [], ◌∷◌, length, map, take, Contains, slice_index}
use Rattle.vf_table.specs.declared.node.Node.{Node}
use Rattle.vf_congruence.specs.Congruence.{Congruent, WereMerged}
use Rattle.vf_congruence.specs.Meeting.{IsLeast}
use Rattle.vf_growing.specs.declared.journal.Step.{Step}
use Rattle.vf_growing.specs.declared.journal.Step.TheVariants.{Term, Merge}
use Rattle.vf_growing.specs.declared.journal.Moved.{Moved}
use Rattle.vf_growing.specs.declared.journal.Layer.{Layer}
use Rattle.vf_growing.specs.Steps.{terms_of, merges_of, all_but_last, Growth}

-- among the classes that were kept is that of a term
pub record IsMoved (moved : List Moved) (term : ℕ) : Type 0 where
  pub kept : Moved
  pub found : Contains moved kept
  pub is : kept.term ≡ term

-- terms that the last step did not move are equal after it only where they were equal before it
abbrev pub OnlyMovedMeet : Growth → List Moved → Type 0
OnlyMovedMeet growth moved =
    (x y : ℕ) → x < terms_of (all_but_last growth.steps) → y < terms_of (all_but_last growth.steps) → (IsMoved moved x → ⊥) → (IsMoved moved y → ⊥) →
    Congruent growth.nodes (WereMerged growth.merged) x y → Congruent (take (terms_of (all_but_last growth.steps)) growth.nodes) (WereMerged (merges_of (all_but_last growth.steps))) x y

-- the classes that were kept are those before of all terms that stand in another after
pub record AreMoved (before : List ℕ) (moved : List Moved) (after : List ℕ) : Type 0 where
  pub old : (m : Moved) → Contains moved m → (m.term < length before) × (m.class ≡ slice_index before m.term)
  pub others : (k : ℕ) → k < length before → IsMoved moved k ⊎ (slice_index after k ≡ slice_index before k)

-- the classes are those of the least congruence of the merged pairs, and the number of each is below that of the terms
pub record IsState (nodes : List Node) (merged : List (ℕ × ℕ)) (classes : List ℕ) : Type 0 where
  pub least : IsLeast nodes merged classes
  pub numbers : (k : ℕ) → k < length classes → slice_index classes k < length classes

-- the steps of some layers
abbrev pub steps_of : List Layer → List Step
steps_of layers = map (λ l. l.step) layers

-- the terms, the merged pairs and the classes after the steps of some layers, and each layer tells how the classes before its step were
pub data IsHistory : List Layer → List Node → List (ℕ × ℕ) → List ℕ → Type 0 where
  begun : IsHistory [] [] [] []
  grown : {layers : List Layer} {nodes : List Node} {merged : List (ℕ × ℕ)} {classes classes' : List ℕ} (l : Layer) (node : Node) → IsHistory layers nodes merged classes → l.step ≡ Term → AreMoved classes l.moved.items classes' → IsState (nodes ++ node ∷ []) merged classes' → IsHistory (layers ++ l ∷ []) (nodes ++ node ∷ []) merged classes'
  joined : {layers : List Layer} {nodes : List Node} {merged : List (ℕ × ℕ)} {classes classes' : List ℕ} (l : Layer) (a b : ℕ) → IsHistory layers nodes merged classes → l.step ≡ Merge a b → AreMoved classes l.moved.items classes' → IsState nodes (merged ++ (a, b) ∷ []) classes' → IsHistory (layers ++ l ∷ []) nodes (merged ++ (a, b) ∷ []) classes'

-- the terms, the merged pairs and the classes are those after the steps of the layers
pub record AreKept (layers : List Layer) (nodes : List Node) (merged : List (ℕ × ℕ)) (classes : List ℕ) : Type 0 where
  pub history : IsHistory layers nodes merged classes
  pub least : IsLeast nodes merged classes
  pub terms : length nodes ≡ terms_of (steps_of layers)
  pub pairs : merged ≡ merges_of (steps_of layers)
