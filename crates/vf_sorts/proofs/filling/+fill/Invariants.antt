use Rattle.std.proofs.Common.{◌≡◌, take}
use Rattle.std.specs.Prelude.{map}
use Rattle.vf_sorts.specs.Unknowns.{filled}
use Rattle.vf_sorts.specs.Fillers.{filling_of}
use Rattle.vf_sorts.proofs.filling.+fill.Given as goal

abbrev pub invariant-all_filled-loop-item : goal.invariant-all_filled-loop-item
invariant-all_filled-loop-item l = l.all ≡ map (filled (filling_of l.filler)) (take l.item-index l.item-items)
