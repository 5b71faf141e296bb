-- Whether rows of sorts are alike, place by place, up to what pointers tell.
use Rattle.std.specs.Prelude.{Bool, true, false, ◌&&◌, List}
use Rattle.vf_sorts.specs.Sorts.{Sort, Sorts, sort, no_sorts, and_sort, row}
use Rattle.vf_sorts.specs.Unifying.{are_heads_alike}

abbrev mutual
  -- whether two sorts are alike
  pub is_alike : Sort → Sort → Bool
  is_alike (sort h ts) (sort g us) = are_heads_alike h g && are_alike ts us

  -- whether sorts in two rows are
  pub are_alike : Sorts → Sorts → Bool
  are_alike no_sorts no_sorts = true
  are_alike no_sorts (and_sort u us) = false
  are_alike (and_sort t ts) no_sorts = false
  are_alike (and_sort t ts) (and_sort u us) = is_alike t u && are_alike ts us

-- the same of two lists
abbrev pub are_same : List Sort → List Sort → Bool
are_same ts us = are_alike (row ts) (row us)
