use Rattle.std.proofs.Common.{◌≡◌, drop}
use Rattle.vf_datatypes.specs.Arguments.{are_parameters}
use Rattle.vf_datatypes.proofs.arguments.are_parameters.Given as goal

-- the sorts that are left tell what all of them tell
abbrev pub invariant-loop-at : goal.invariant-loop-at
invariant-loop-at l = are_parameters l.at (drop l.at l.fn.sorts) ≡ are_parameters 0 l.fn.sorts
