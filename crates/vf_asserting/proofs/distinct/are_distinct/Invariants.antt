use Rattle.std.proofs.Common.{◌≡◌, drop}
use Rattle.vf_asserting.specs.Cases.{are_distinct}
use Rattle.vf_asserting.proofs.distinct.are_distinct.Given as goal

-- whether those that are left are distinct tells whether all are
abbrev pub invariant-loop-at : goal.invariant-loop-at
invariant-loop-at l = are_distinct l.fn.numbers ≡ are_distinct (drop l.at l.fn.numbers)
