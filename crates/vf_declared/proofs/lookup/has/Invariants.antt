use Rattle.std.proofs.Common.{◌≡◌, drop}
use Rattle.vf_declared.specs.Scopes.{has}
use Rattle.vf_declared.proofs.lookup.has.Given as goal

-- the number is among those that are left where it is among all
abbrev pub invariant-loop-at : goal.invariant-loop-at
invariant-loop-at l = has (drop l.at l.fn.numbers) l.fn.number ≡ has l.fn.numbers l.fn.number
