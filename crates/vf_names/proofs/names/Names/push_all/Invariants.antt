use Rattle.std.proofs.Common.{◌≡◌, ◌++◌, take}
use Rattle.vf_names.proofs.names.Names.push_all.Given as goal

-- those before an index are put
abbrev pub invariant-loop-at : goal.invariant-loop-at
invariant-loop-at l = l.self ≡ l.initial.self ++ take l.at l.fn.names
