use Rattle.std.proofs.Common.{◌≡◌, ◌≤◌, take}
use Rattle.vf_defining.proofs.up_to.keep_declarations.Given as goal

-- the declarations before an index are there
abbrev pub invariant-loop-at : goal.invariant-loop-at
invariant-loop-at l = record { first : l.front ≡ take l.at l.fn.whole; within : l.at ≤ l.count }
