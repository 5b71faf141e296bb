-- Matrices of least weights, as in the algorithm of Floyd and Warshall with one edge more at a time.
use Rattle.std.specs.Prelude.{◌≡◌, ℕ, ◌+◌, ◌*◌, ◌<◌, ◌≤◌, ◌^◌, Bool, true, IsTrue, IsFalse, ℤ, pos, ◌+ℤ◌, ◌≤ℤ◌, List, length, Contains, Option, Some, None, int_lt, slice_index_or}
use Rattle.std.specs.Int.{int_min}
use Rattle.vf_arith.specs.declared.bounds.Edge.{Edge}
use Rattle.vf_arith.specs.Paths.{Path, HasNegativeCycle, IsSmall}

-- a distance that is at most c; None is above every number
abbrev pub IsUnder : Option ℤ → ℤ → Type 0
IsUnder None c = ⊥
IsUnder (Some v) c = v ≤ℤ c

-- the lesser of two distances
abbrev pub lesser : Option ℤ → Option ℤ → Option ℤ
lesser None b = b
lesser (Some v) None = Some v
lesser (Some v) (Some w) = Some (int_min v w)

-- the distance over an edge: to it, its weight, and from it
abbrev pub over_edge : Option ℤ → ℤ → Option ℤ → Option ℤ
over_edge None c q = None
over_edge (Some v) c None = None
over_edge (Some v) c (Some w) = Some (v +ℤ c +ℤ w)

-- the entry at a place of a matrix that is kept row by row
abbrev pub entry : List (Option ℤ) → ℕ → Option ℤ
entry matrix k = slice_index_or matrix k None

-- the entry of two points
abbrev pub distance : ℕ → List (Option ℤ) → ℕ → ℕ → Option ℤ
distance size matrix x y = entry matrix (x * size + y)

-- d has the least weights of paths among the points below size
pub record AreDistances (size : ℕ) (edges : List Edge) (d : ℕ → ℕ → Option ℤ) : Type 0 where
  pub sound : (x y : ℕ) (v : ℤ) → x < size → y < size → d x y ≡ Some v → Path edges x y v
  pub own : (x : ℕ) → x < size → d x x ≡ Some (pos 0)
  pub points : (e : Edge) → Contains edges e → (e.from < size) × (e.to < size)
  pub edge : (e : Edge) → Contains edges e → IsUnder (d e.from e.to) e.most
  pub triangle : (x y z : ℕ) (a b : ℤ) → x < size → y < size → z < size → IsUnder (d x y) a → IsUnder (d y z) b → IsUnder (d x z) (a +ℤ b)

-- no distance of two points below size is above the way over a third
abbrev pub ObeyTriangles : ℕ → (ℕ → ℕ → Option ℤ) → Type 0
ObeyTriangles size d = (x y z : ℕ) (a b : ℤ) → x < size → y < size → z < size → IsUnder (d x y) a → IsUnder (d y z) b → IsUnder (d x z) (a +ℤ b)

-- a distance is above 0
abbrev pub is_above : Option ℤ → Bool
is_above None = true
is_above (Some v) = int_lt (pos 0) v

-- the matrix has the least weights, or there is a negative cycle
pub record IsMatrix (size : ℕ) (edges : List Edge) (cyclic : Bool) (matrix : List (Option ℤ)) : Type 0 where
  pub few : size ≤ 2 ^ 24
  pub long : length matrix ≡ size * size
  pub points : (e : Edge) → Contains edges e → (e.from < size) × (e.to < size)
  pub small : (e : Edge) → Contains edges e → IsSmall (2 ^ 100) e.most
  pub exact : IsFalse cyclic → AreDistances size edges (distance size matrix)
  pub bad : IsTrue cyclic → HasNegativeCycle edges

-- each number of a list of distances is small
abbrev pub AreSmall : List (Option ℤ) → Type 0
AreSmall row = (k : ℕ) (v : ℤ) → entry row k ≡ Some v → IsSmall (2 ^ 124) v
