-- Sorts in which no unknown sorts stand, and type parameters with numbers below a count alone.
use Rattle.std.specs.Prelude.{ℕ, ◌<◌, List, [], ◌∷◌}
use Rattle.vf_sorts.specs.declared.sort.Head.{Head}
use Rattle.vf_sorts.specs.declared.sort.Head.TheVariants as heads
use Rattle.vf_sorts.specs.Sorts.{Sort, Sorts, sort, no_sorts, and_sort}
use Rattle.vf_sorts.specs.Told.{AreAlike}
use Rattle.vf_sorts.specs.Unknowns.{Filling}
use Rattle.vf_fixpoint_laws.specs.values.Instances.{Instance, placed}

-- a head is no unknown sort, and a type parameter with a number below a count or over such parts
abbrev pub IsClosedOver : ℕ → Head → Type 0 → Type 0
IsClosedOver m (heads.Parameter i) parts = i < m
IsClosedOver m (heads.Unknown u) parts = ⊥
IsClosedOver m h parts = parts

abbrev mutual
  -- no unknown sort stands in a sort, and no type parameter but those with numbers below a count
  pub IsClosed : ℕ → Sort → Type 0
  IsClosed m (sort h ts) = IsClosedOver m h (AreClosed m ts)

  -- the same of sorts in a row
  pub AreClosed : ℕ → Sorts → Type 0
  AreClosed m no_sorts = Unit {0}
  AreClosed m (and_sort t ts) = IsClosed m t × AreClosed m ts

-- something is so of each sort of a list
abbrev pub Each : (Sort → Type 0) → List Sort → Type 0
Each P [] = Unit {0}
Each P (t ∷ ts) = P t × Each P ts

-- sorts that are alike in place of the type parameters make alike sorts of one that has no others, and no unknown sorts
abbrev pub PlacedAlike : Type 0
PlacedAlike = (g k : Instance) (f h : Filling) (m : ℕ) → ((i : ℕ) → i < m → AreAlike (g i) (k i)) → (t : Sort) → IsClosed m t → AreAlike (placed g f t) (placed k h t)
