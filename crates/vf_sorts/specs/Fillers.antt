-- What stands for the unknown sorts, as the definitions see it.
use Rattle.vf_sorts.specs.declared.filling.Filler.{Filler}
use Rattle.vf_sorts.specs.declared.filling.Filler.TheVariants as fillers
use Rattle.vf_sorts.specs.Unknowns.{Filling, any_sort, by_known, only}

-- the sorts that a filler puts in the place of the unknown ones
abbrev pub filling_of : Filler → Filling
filling_of (fillers.Known known) = by_known known.now
filling_of (fillers.Only u s) = only u s.now
filling_of fillers.AnySort = any_sort
