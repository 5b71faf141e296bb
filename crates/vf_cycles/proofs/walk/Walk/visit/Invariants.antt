use Rattle.std.proofs.Common.{◌≡◌, length}
use Rattle.vf_cycles.specs.Walks.{IsWalkOf, IsReached, work}
use Rattle.vf_cycles.proofs.walk.Walk.visit.Given as goal

abbrev pub invariant-loop-node : goal.invariant-loop-node
invariant-loop-node l = record {
  walk : IsWalkOf l.graph l.self.opened.items l.self;
  nodes : length l.self.seen.items ≡ length l.fn.self.seen.items;
  reached : IsReached l.graph.sources.items l.graph.targets.items l.root l.fn.self.finished.items l.self.opened.items l.self.finished.items;
}

abbrev pub decreases-loop-node : goal.decreases-loop-node
decreases-loop-node l = work l.self.opened.items l.self.left.items
