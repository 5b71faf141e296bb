-- Walks in depth through a graph: what is true at each step.
use Rattle.std.specs.Prelude.{◌≡◌, ◌⊎◌, ℕ, ◌+◌, ◌-◌, ◌*◌, ◌<◌, ◌≤◌, Bool, List, [], ◌∷◌, ◌++◌, reverse, length, slice_index, Contains, sum}
use Rattle.vf_cycles.specs.Reaching.{Reaches}
use Rattle.vf_cycles.specs.Graphs.{Edge, AreEdges, IsMarked, EachOnce}
use Rattle.vf_cycles.specs.declared.graph.Graph.{Graph}
use Rattle.vf_cycles.specs.declared.walk.Walk.{Walk}

-- among the first so many edges the last one that begins at a node, counted from 1; where there is none it is 0
pub record IsLast (sources : List ℕ) (u count last : ℕ) : Type 0 where
  pub within : last ≤ count
  pub begins : 0 < last → slice_index sources (last - 1) ≡ u
  pub none : (k : ℕ) → last ≤ k → k < count → slice_index sources k ≡ u → ⊥

-- the edges are chained: for each node its last edge is known, and for each edge the one before it from the same node
pub record AreChained (count : ℕ) (sources last before : List ℕ) : Type 0 where
  pub nodes : length last ≡ count
  pub edges : length before ≡ length sources
  pub lasts : (u : ℕ) → u < count → IsLast sources u (length sources) (slice_index last u)
  pub befores : (k : ℕ) → k < length sources → IsLast sources (slice_index sources k) k (slice_index before k)

-- each node of a list has an edge to the next one
abbrev pub IsPath : List ℕ → List ℕ → List ℕ → Type 0
IsPath sources targets [] = Unit {0}
IsPath sources targets (u ∷ []) = Unit {0}
IsPath sources targets (u ∷ w ∷ ws) = Edge sources targets u w × IsPath sources targets (w ∷ ws)

-- where a node of a list is reached by one behind it, it reaches that one, or that one reaches a node in front of it; these nodes stand in front of all
abbrev pub IsRanked : List ℕ → List ℕ → List ℕ → List ℕ → Type 0
IsRanked sources targets front [] = Unit {0}
IsRanked sources targets front (x ∷ xs) =
    ((y : ℕ) → Contains xs y → Reaches (Edge sources targets) y x
    → Reaches (Edge sources targets) x y ⊎ ((z : ℕ) × Contains front z × Reaches (Edge sources targets) y z))
    × IsRanked sources targets (x ∷ front) xs

-- the nodes that a walk has seen: those that are open, the first one first, and those that are finished, the last one first
abbrev pub seen_nodes : List ℕ → List ℕ → List ℕ
seen_nodes open_ finished = open_ ++ reverse finished

-- what is true of a walk: which nodes are open, finished and seen, and how many edges are left of each node's chain
pub record IsWalk (sources targets open_ finished : List ℕ) (seen : List Bool) (left : List ℕ) : Type 0 where
  pub nodes : length left ≡ length seen
  pub inside : (u : ℕ) → Contains (seen_nodes open_ finished) u → u < length seen
  pub marked : (u : ℕ) → Contains (seen_nodes open_ finished) u → IsMarked seen u
  pub known : (u : ℕ) → IsMarked seen u → Contains (seen_nodes open_ finished) u
  pub once : EachOnce (seen_nodes open_ finished)
  pub path : IsPath sources targets open_
  pub ranked : IsRanked sources targets [] (seen_nodes open_ finished)
  pub within : (u : ℕ) → u < length seen → slice_index left u ≤ length sources
  pub begins : (u : ℕ) → u < length seen → 0 < slice_index left u → slice_index sources (slice_index left u - 1) ≡ u
  pub followed : (k : ℕ) → k < length sources → slice_index left (slice_index sources k) ≤ k → Contains (seen_nodes open_ finished) (slice_index targets k)
  pub done : (u : ℕ) → Contains finished u → slice_index left u ≡ 0

-- what a walk from a root has come to: finished nodes are added behind these, and they and the open ones are the root and nodes that it reaches
pub record IsReached (sources targets : List ℕ) (root : ℕ) (base open_ finished : List ℕ) : Type 0 where
  pub more : List ℕ
  pub parts : finished ≡ base ++ more
  pub rooted : Contains (more ++ open_) root
  pub each : (u : ℕ) → Contains (more ++ open_) u → (u ≡ root) ⊎ Reaches (Edge sources targets) root u

-- the edges of a graph with so many nodes, chained
pub record IsGraph (count : ℕ) (g : Graph) : Type 0 where
  pub edges : AreEdges count g.sources.items g.targets.items
  pub chained : AreChained count g.sources.items g.last.items g.before.items

-- a walk through a graph, with these nodes open
abbrev pub IsWalkOf : Graph → List ℕ → Walk → Type 0
IsWalkOf g open_ w = IsWalk g.sources.items g.targets.items open_ w.finished.items w.seen.items w.left.items

-- what a walk has still to do: twice the edges that are left, and the open nodes
abbrev pub work : List ℕ → List ℕ → ℕ
work open_ left = 2 * sum left + length open_

-- all nodes, in the order in which a walk in depth has finished them
pub record IsFinished (count : ℕ) (sources targets order : List ℕ) : Type 0 where
  pub nodes : (u : ℕ) → Contains order u → u < count
  pub each : (u : ℕ) → u < count → Contains order u
  pub once : EachOnce (reverse order)
  pub ranked : IsRanked sources targets [] (reverse order)

-- what a walk from a node, unless it was seen, adds to the finished nodes, and which nodes are marked then: the new ones, if there is
-- more than one
pub record IsMarkedFrom (sources targets : List ℕ) (root : ℕ) (old_finished finished : List ℕ) (old_marks marks : List Bool) : Type 0 where
  pub more : List ℕ
  pub parts : finished ≡ old_finished ++ more
  pub rooted : Contains finished root
  pub first : (u : ℕ) → Contains more u → Contains more root
  pub each : (u : ℕ) → Contains more u → (u ≡ root) ⊎ Reaches (Edge sources targets) root u
  pub nodes : length marks ≡ length old_marks
  pub kept : (u : ℕ) → IsMarked old_marks u → IsMarked marks u
  pub marked : (u : ℕ) → IsMarked marks u → IsMarked old_marks u ⊎ (Contains more u × (1 < length more))
  pub all : 1 < length more → (u : ℕ) → Contains more u → IsMarked marks u
