use Rattle.std.proofs.Common.{◌≡◌, drop}
use Rattle.vf_declared.specs.Scopes.{has}
use Rattle.vf_asserting.proofs.distinct.has_from.Given as goal

-- the number is among those that are left where it is among those from the index on
abbrev pub invariant-loop-at : goal.invariant-loop-at
invariant-loop-at l = has (drop l.at l.fn.numbers) l.fn.number ≡ has (drop l.fn.from l.fn.numbers) l.fn.number
