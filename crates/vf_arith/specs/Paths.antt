-- Bounds on differences as a weighted graph: an edge from x to y of weight c says x - y <= c, and a path adds up.
use Rattle.std.specs.Prelude.{ℕ, ℤ, pos, neg_ℤ, ◌+ℤ◌, ◌≤ℤ◌, ◌<ℤ◌, List, Contains}
use Rattle.vf_arith.specs.declared.bounds.Edge.{Edge}
use Rattle.vf_arith.specs.declared.bounds.Step.{Step}

-- a path of edges from one point to another, with its weight
pub data Path (edges : List Edge) : ℕ → ℕ → ℤ → Type 0 where
  path_none : {x : ℕ} → Path edges x x (pos 0)
  path_edge : {z : ℕ} {d : ℤ} (e : Edge) → Contains edges e → Path edges e.to z d → Path edges e.from z (e.most +ℤ d)

-- c is the weight of a path from x to y, and no path has less
pub record IsLeast (edges : List Edge) (x y : ℕ) (c : ℤ) : Type 0 where
  pub reached : Path edges x y c
  pub least : (d : ℤ) → Path edges x y d → c ≤ℤ d

-- a path from a point to itself whose weight is below 0
pub record HasNegativeCycle (edges : List Edge) : Type 0 where
  pub point : ℕ
  pub total : ℤ
  pub cycle : Path edges point point total
  pub below : total <ℤ pos 0

-- a number is within plus and minus m
pub record IsSmall (m : ℕ) (z : ℤ) : Type 0 where
  pub low : neg_ℤ (pos m) ≤ℤ z
  pub high : z ≤ℤ pos m

-- What a contract sees of bounds: how many points there are, the bounds that were added in order, both in the order in which they came, and a number that falls wherever two points come within 0
pub record Network : Type 0 where
  pub size : ℕ
  pub edges : List Edge
  pub steps : List Step
  pub weight : ℕ
