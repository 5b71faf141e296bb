-- What pointers tell beside that they are pointers.
use Rattle.std.specs.Prelude.{◌≡◌, None}
use Rattle.vf_sorts.specs.declared.sort.Head.{Head}
use Rattle.vf_sorts.specs.declared.sort.Head.TheVariants as heads
use Rattle.vf_sorts.specs.Sorts.{Sort, Sorts, sort, no_sorts, and_sort}

-- a head without what a pointer tells
abbrev pub untold_head : Head → Head
untold_head (heads.Pointer told) = heads.Pointer None
untold_head h = h

abbrev mutual
  -- a sort without what pointers tell
  pub untold : Sort → Sort
  untold (sort h ts) = sort (untold_head h) (untold_all ts)

  -- the same of sorts in a row
  pub untold_all : Sorts → Sorts
  untold_all no_sorts = no_sorts
  untold_all (and_sort t ts) = and_sort (untold t) (untold_all ts)

-- two sorts are one, up to what pointers tell
abbrev pub AreAlike : Sort → Sort → Type 0
AreAlike s t = untold s ≡ untold t

-- a sort with what pointers tell
abbrev pub as_told : Sort → Sort
as_told s = s
