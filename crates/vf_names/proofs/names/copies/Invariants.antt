use Rattle.std.proofs.Common.{◌≡◌, take}
use Rattle.vf_names.proofs.names.copies.Given as goal

-- those before an index are there
abbrev pub invariant-loop-at : goal.invariant-loop-at
invariant-loop-at l = l.same.items ≡ take l.at l.fn.names
