use Rattle.std.proofs.Common.{◌≡◌, take}
use Rattle.vf_declared.proofs.locals.copies.Given as goal

-- those before an index are there
abbrev pub invariant-loop-at : goal.invariant-loop-at
invariant-loop-at l = l.same ≡ take l.at l.fn.meanings
