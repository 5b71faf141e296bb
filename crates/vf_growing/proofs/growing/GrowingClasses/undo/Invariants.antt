use Rattle.std.proofs.Common.{◌≡◌, ◌≤◌, length, take}
use Rattle.vf_growing.proofs.growing.GrowingClasses.undo.Given as goal

abbrev pub invariant-loop-self : goal.invariant-loop-self
invariant-loop-self l = record {
  mark : l.mark ≤ length l.self.steps;
  steps : l.self.steps ≡ take (length l.self.steps) l.initial.self.steps;
  nodes : l.self.nodes ≡ take (length l.self.nodes) l.initial.self.nodes;
}

abbrev pub decreases-loop-self : goal.decreases-loop-self
decreases-loop-self l = length l.self.steps
