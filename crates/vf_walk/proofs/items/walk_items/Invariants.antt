use Rattle.std.proofs.Common.{drop}
use Rattle.vf_walk.specs.Items.{WalksItems}
use Rattle.vf_walk.proofs.Loops.{Leads}
use Rattle.vf_walk.proofs.items.walk_items.Given as goal

-- whatever the items that are left may come to, all of them may come to
abbrev pub invariant-loop-at : goal.invariant-loop-at
invariant-loop-at g l = Leads (WalksItems (g.A.Annotations.meanings l.fn.annotations) (drop l.at l.fn.items) l.scope) (WalksItems (g.A.Annotations.meanings l.fn.annotations) l.fn.items l.initial.scope)
