use Rattle.std.proofs.Common.{drop}
use Rattle.vf_cores.specs.Shown.{cores_shown}
use Rattle.vf_cores.proofs.Units.{Reaches}
use Rattle.vf_cores.proofs.items.lower_items.Given as goal

-- whatever the items that are left come to behind the functions so far, all of them come to
abbrev pub invariant-loop-at : goal.invariant-loop-at
invariant-loop-at g l = Reaches (g.A.Annotations.meanings l.fn.annotations) l.fn.items l.initial.scope (cores_shown l.cores.items) (drop l.at l.fn.items) l.scope
