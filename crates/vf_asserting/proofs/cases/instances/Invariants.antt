use Rattle.std.proofs.Common.{◌≡◌, map, take}
use Rattle.vf_sorts.specs.Unknowns.{instance}
use Rattle.vf_asserting.proofs.cases.instances.Given as goal

-- those before an index are there
abbrev pub invariant-loop-at : goal.invariant-loop-at
invariant-loop-at l = l.all ≡ map (instance l.fn.first l.fn.count) (take l.at l.fn.sorts)
