use Rattle.std.proofs.Common.{◌≡◌, map, take}
use Rattle.vf_sorting.specs.Schemes.{sort_of_type}
use Rattle.vf_commands.proofs.callee.sorts_of_types.Given as goal

-- the sorts of the types before an index are there
abbrev pub invariant-loop-at : goal.invariant-loop-at
invariant-loop-at l = l.sorts ≡ map sort_of_type (take l.at l.fn.types)
