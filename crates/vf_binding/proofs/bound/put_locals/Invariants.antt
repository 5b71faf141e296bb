use Rattle.std.proofs.Common.{◌≡◌, ◌++◌, map, take}
use Rattle.vf_binding.specs.Bound.{bound_local}
use Rattle.vf_binding.proofs.bound.put_locals.Given as goal

-- those before an index are there
abbrev pub invariant-loop-at : goal.invariant-loop-at
invariant-loop-at l = l.locals ≡ l.fn.locals ++ map bound_local (take l.at l.fn.sorts)
