use Rattle.std.proofs.Common.{◌≡◌, take}
use Rattle.std.specs.Prelude.{map}
use Rattle.vf_sorts.specs.Unknowns.{instance}
use Rattle.vf_sorts.proofs.instance.+instance.Given as goal

abbrev pub invariant-instances-loop-item : goal.invariant-instances-loop-item
invariant-instances-loop-item l = l.all ≡ map (instance l.first l.count) (take l.item-index l.item-items)
