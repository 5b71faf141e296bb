use Rattle.std.proofs.Common.{◌≡◌, drop}
use Rattle.vf_declared.specs.Types.{same_types}
use Rattle.vf_typing.proofs.passing.same_types.Given as goal

-- the types that are left are the same where all are
abbrev pub invariant-loop-at : goal.invariant-loop-at
invariant-loop-at l = same_types (drop l.at l.fn.first) (drop l.at l.fn.second) ≡ same_types l.fn.first l.fn.second
