use Rattle.std.proofs.Common.{◌≡◌, ◌≤◌, take}
use Rattle.vf_defining.proofs.up_to.keep_names.Given as goal

-- the names before an index are there
abbrev pub invariant-loop-at : goal.invariant-loop-at
invariant-loop-at l = record { first : l.front ≡ take l.at l.fn.whole; within : l.at ≤ l.count }
