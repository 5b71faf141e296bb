-- Graphs: the nodes are the numbers below a count, and the edges stand in two lists, where each begins and where it ends.
use Rattle.std.specs.Prelude.{◌≡◌, ℕ, ◌<◌, Bool, true, false, List, [], ◌∷◌, ◌++◌, length, get_or, slice_index, Contains}
use Rattle.vf_cycles.specs.Reaching.{Reaches}

-- an edge goes from one node to another
pub record Edge (sources targets : List ℕ) (from to : ℕ) : Type 0 where
  pub at : ℕ
  pub within : at < length sources
  pub begins : slice_index sources at ≡ from
  pub ends : slice_index targets at ≡ to

-- two lists tell the edges of a graph with so many nodes
pub record AreEdges (count : ℕ) (sources targets : List ℕ) : Type 0 where
  pub pairs : length sources ≡ length targets
  pub begin : (k : ℕ) → k < length sources → slice_index sources k < count
  pub end : (k : ℕ) → k < length targets → slice_index targets k < count

-- a node is marked
abbrev pub IsMarked : List Bool → ℕ → Type 0
IsMarked marks u = get_or marks u false ≡ true

-- just those nodes are marked that reach themselves
pub record MarksCycles (count : ℕ) (sources targets : List ℕ) (marks : List Bool) : Type 0 where
  pub nodes : length marks ≡ count
  pub reach : (u : ℕ) → IsMarked marks u → Reaches (Edge sources targets) u u
  pub each : (u : ℕ) → u < count → Reaches (Edge sources targets) u u → IsMarked marks u

-- no node reaches itself
abbrev pub HasNoCycle : List ℕ → List ℕ → Type 0
HasNoCycle sources targets = (u : ℕ) → Reaches (Edge sources targets) u u → ⊥

-- no element stands in a list twice
abbrev pub EachOnce : {A : Type 0} → List A → Type 0
EachOnce [] = Unit {0}
EachOnce (x ∷ xs) = (Contains xs x → ⊥) × EachOnce xs

-- each node stands in a list, once, and behind all nodes to which an edge leads from it
pub record IsOrder (count : ℕ) (sources targets order : List ℕ) : Type 0 where
  pub nodes : (u : ℕ) → Contains order u → u < count
  pub each : (u : ℕ) → u < count → Contains order u
  pub once : EachOnce order
  pub back : (before after : List ℕ) (u w : ℕ) → order ≡ before ++ u ∷ after → Edge sources targets u w → Contains before w
