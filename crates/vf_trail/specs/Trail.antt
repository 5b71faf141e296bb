-- Paths of a trail, and their laws.
use Rattle.std.specs.Prelude.{◌≡◌, ℕ, ◌+◌, ◌≤◌, ◌==◌, if◌then◌else◌, List, [], ◌∷◌, ◌++◌, length, reverse, Some, slice_get}
use Rattle.vf_trail.specs.Falls.{ParentsFall}

-- the facts from the root to a node, first pushed first, where the trail's facts stand newest first
abbrev pub path_in : {L : Type 0} → List (ℕ × L) → ℕ → List L
path_in [] node = []
path_in (newest ∷ older) node = if node == length older + 1 then path_in older newest.0 ++ newest.1 ∷ [] else path_in older node

-- the facts from the root to a node, first pushed first
unfoldable pub path_of : {L : Type 0} → List (ℕ × L) → ℕ → List L
path_of facts node = path_in (reverse facts) node

-- more facts leave the path of every node that was there, and a new node's path is its parent's with the new fact at the end
pub record PathsStay (L : Type 0) : Type 0 where
  pub kept : (facts more : List (ℕ × L)) (node : ℕ) → node ≤ length facts → path_of (facts ++ more) node ≡ path_of facts node
  pub added : (facts : List (ℕ × L)) (parent : ℕ) (fact : L) → path_of (facts ++ (parent, fact) ∷ []) (length facts + 1) ≡ path_of facts parent ++ fact ∷ []

-- the root's path is empty, and a fact's path is its parent's with the fact at the end
pub record PathsStep (L : Type 0) : Type 0 where
  pub root : (facts : List (ℕ × L)) → path_of facts 0 ≡ []
  pub step : (facts : List (ℕ × L)) (index parent : ℕ) (fact : L) → ParentsFall facts → slice_get facts index ≡ Some (parent, fact) → path_of facts (index + 1) ≡ path_of facts parent ++ fact ∷ []
