use Rattle.std.proofs.Common.{◌≡◌, ◌++◌, replicate, None}
use Rattle.vf_engine.proofs.frames.unset_after.Given as goal

-- so many unset locals stand after the values
abbrev pub invariant-loop-i : goal.invariant-loop-i
invariant-loop-i l = l.locals.items ≡ l.fn.values.items ++ replicate l._i None
