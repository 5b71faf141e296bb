use Rattle.std.proofs.Common.{◌≡◌, ◌++◌, take}
use Rattle.vf_binding.proofs.bound.put_names.Given as goal

-- those before an index are there
abbrev pub invariant-loop-at : goal.invariant-loop-at
invariant-loop-at l = l.names ≡ l.fn.names ++ take l.at l.fn.more
