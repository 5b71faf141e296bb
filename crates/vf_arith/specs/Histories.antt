-- The distances that are kept aside at each step, so that it can be taken back.
use Rattle.std.specs.Prelude.{◌≡◌, ℕ, ◌*◌, ◌<◌, ◌≤◌, ◌^◌, ◌==◌, ◌++◌, ◌⊎◌, if◌then◌else◌, Bool, false, IsTrue, IsFalse, ℤ, pos, ◌≤ℤ◌, List, [], ◌∷◌, length, map, Contains, Option, Some, None}
use Rattle.vf_arith.specs.declared.bounds.Edge.{Edge}
use Rattle.vf_arith.specs.declared.bounds.Step.{Step}
use Rattle.vf_arith.specs.declared.journal.Saved.{Saved}
use Rattle.vf_arith.specs.declared.journal.Layer.{Layer}
use Rattle.vf_arith.specs.Paths.{Path, HasNegativeCycle, IsSmall, Network}
use Rattle.vf_arith.specs.Steps.{points_of, bounds_of, all_but_last}
use Rattle.vf_arith.specs.Matrices.{AreDistances, distance, entry, lesser, over_edge}

-- among the distances that were kept is that of two points
pub record IsSaved (saved : List Saved) (x y : ℕ) : Type 0 where
  pub kept : Saved
  pub found : Contains saved kept
  pub left : kept.x ≡ x
  pub right : kept.y ≡ y

-- a path from x to y whose weight is at most c
pub record HasPathUnder (edges : List Edge) (x y : ℕ) (c : ℤ) : Type 0 where
  pub total : ℤ
  pub path : Path edges x y total
  pub under : total ≤ℤ c

-- two points of which no distance was kept had as short a path before the last step
abbrev pub OnlySavedShorten : Network → List Saved → Type 0
OnlySavedShorten network saved =
    (x y : ℕ) (c : ℤ) → x < network.size → y < network.size → (IsSaved saved x y → ⊥) → Path network.edges x y c → HasPathUnder (bounds_of (all_but_last network.steps)) x y c

-- a distance of the matrix that the way over an edge shortens
pub record IsShortened (size : ℕ) (matrix before : List (Option ℤ)) (most : ℤ) (after : List (Option ℤ)) (s : Saved) : Type 0 where
  pub left : s.x < size
  pub right : s.y < size
  pub old : s.distance ≡ distance size matrix s.x s.y
  pub shorter : lesser s.distance (over_edge (entry before s.x) most (entry after s.y)) ≡ over_edge (entry before s.x) most (entry after s.y)

-- the distance of two points among those below size, and beyond them 0 from a point to itself and none between two
pub record IsDistanceIn (size : ℕ) (d : ℕ → ℕ → Option ℤ) (x y : ℕ) (o : Option ℤ) : Type 0 where
  pub inside : x < size → y < size → o ≡ d x y
  pub beyond : (size ≤ x) ⊎ (size ≤ y) → o ≡ (if x == y then Some (pos 0) else None)

-- d are the distances after some steps, among the points for which there is room, or there is a negative cycle
pub record IsState (width : ℕ) (steps : List Step) (cyclic : Bool) (d : ℕ → ℕ → Option ℤ) : Type 0 where
  pub room : points_of steps ≤ width
  pub points : (e : Edge) → Contains (bounds_of steps) e → (e.from < points_of steps) × (e.to < points_of steps)
  pub small : (e : Edge) → Contains (bounds_of steps) e → IsSmall (2 ^ 100) e.most
  pub exact : IsFalse cyclic → AreDistances width (bounds_of steps) d
  pub bad : IsTrue cyclic → HasNegativeCycle (bounds_of steps)

-- the distances that were kept of d are all in which e differs from it
pub record AreSaved (width : ℕ) (saved : List Saved) (d e : ℕ → ℕ → Option ℤ) : Type 0 where
  pub old : (s : Saved) → Contains saved s → (s.x < width) × (s.y < width) × (s.distance ≡ d s.x s.y)
  pub others : (x y : ℕ) → x < width → y < width → IsSaved saved x y ⊎ (e x y ≡ d x y)

-- the steps of some layers
abbrev pub steps_of : List Layer → List Step
steps_of layers = map (λ l. l.step) layers

-- d are the distances after the steps of some layers, and each layer tells how those before its step were
pub data IsHistory (width : ℕ) : List Layer → Bool → (ℕ → ℕ → Option ℤ) → Type 0 where
  begun : {d : ℕ → ℕ → Option ℤ} → IsState width [] false d → IsHistory width [] false d
  continued : {layers : List Layer} {c c' : Bool} {d d' : ℕ → ℕ → Option ℤ} (l : Layer) → IsHistory width layers c d → l.cyclic ≡ c → AreSaved width l.saved.items d d' → IsState width (steps_of (layers ++ l ∷ [])) c' d' → IsHistory width (layers ++ l ∷ []) c' d'

-- the points, the bounds and the matrix are those after the steps of the layers
pub record AreKept (size width : ℕ) (edges : List Edge) (cyclic : Bool) (matrix : List (Option ℤ)) (layers : List Layer) : Type 0 where
  pub few : width ≤ 2 ^ 24
  pub long : length matrix ≡ width * width
  pub points : size ≡ points_of (steps_of layers)
  pub edges_are : edges ≡ bounds_of (steps_of layers)
  pub history : IsHistory width layers cyclic (distance width matrix)
