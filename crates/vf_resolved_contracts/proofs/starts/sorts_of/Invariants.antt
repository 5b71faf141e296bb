use Rattle.std.proofs.Common.{◌≡◌, ◌++◌, drop, map}
use Rattle.vf_sorting.specs.Schemes.{sort_of_local}
use Rattle.vf_resolved_contracts.proofs.starts.sorts_of.Given as goal

-- the sorts that were told, with those that are left, are all
abbrev pub invariant-loop-at : goal.invariant-loop-at
invariant-loop-at l = l.all ++ map sort_of_local (drop l.at l.locals) ≡ map sort_of_local l.locals
