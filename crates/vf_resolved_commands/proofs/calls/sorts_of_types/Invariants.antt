use Rattle.std.proofs.Common.{◌≡◌, map, take}
use Rattle.vf_sorting.specs.Schemes.{sort_of_type}
use Rattle.vf_resolved_commands.proofs.calls.sorts_of_types.Given as goal

-- the sorts of the types before an index are there
abbrev pub invariant-loop-ctype : goal.invariant-loop-ctype
invariant-loop-ctype l = l.sorts ≡ map sort_of_type (take l.ctype-index l.types)
