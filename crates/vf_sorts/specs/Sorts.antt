-- Sorts of ghost text as pure data: a head over parts.
use Rattle.std.specs.Prelude.{ℕ, ◌+◌, ◌≤◌, List, [], ◌∷◌}
use Rattle.std.proofs.Common.{arith}
use denote.Param.Weighed.{most}
use Rattle.vf_sorts.specs.declared.sort.Head.{Head}

-- a sort is a head over sorts in a row
mutual
  pub data Sort : Type 0 where
    sort : Head → Sorts → Sort

  pub data Sorts : Type 0 where
    no_sorts : Sorts
    and_sort : Sort → Sorts → Sorts

-- the sorts of a list in a row
abbrev pub row : List Sort → Sorts
row [] = no_sorts
row (s ∷ ss) = and_sort s (row ss)

-- how many heads stand in a sort
abbrev mutual
  pub size_of : Sort → ℕ
  size_of (sort h ts) = size_of_row ts + 1

  -- the sizes of sorts in a row, and one more for each of them
  pub size_of_row : Sorts → ℕ
  size_of_row no_sorts = 0
  size_of_row (and_sort t ts) = size_of t + size_of_row ts + 1

-- each sort of a list is smaller than the list
pub most_le-size_of_row : (ts : List Sort) → most (λ t. size_of t + 1) ts ≤ size_of_row (row ts)
most_le-size_of_row [] = omega arith
most_le-size_of_row (t ∷ ts) = omega (arith, most_le-size_of_row ts)
