use Rattle.std.proofs.Common.{◌≡◌, ◌≤◌, ℕ, [], length, reverse, take, drop}
use Rattle.std.specs.Prelude.{Contains}
use Rattle.vf_cycles.specs.Reaching.{Reaches}
use Rattle.vf_cycles.specs.Graphs.{Edge, IsMarked}
use Rattle.vf_cycles.specs.Walks.{IsRanked, IsWalkOf}
use Rattle.vf_cycles.proofs.cycles.mark_cycles.Given as goal

abbrev pub invariant-loop-at : goal.invariant-loop-at
invariant-loop-at l = record {
  within : l.at ≤ length l.order;
  walk : IsWalkOf l.graph [] l.walk;
  opened : l.walk.opened.items ≡ [];
  nodes : length l.walk.seen.items ≡ l.count;
  covered : (u : ℕ) → Contains (drop l.at l.order) u → Contains l.walk.finished.items u;
  ranked : IsRanked l.sources l.targets (drop l.at l.order) (reverse (take l.at l.order));
  long : length l.marks.items ≡ l.count;
  loops : (u : ℕ) → Edge l.sources l.targets u u → IsMarked l.marks.items u;
  sound : (u : ℕ) → IsMarked l.marks.items u → Reaches (Edge l.sources l.targets) u u;
  complete : (u : ℕ) → Contains l.walk.finished.items u → Reaches (Edge l.sources l.targets) u u → IsMarked l.marks.items u;
}

abbrev pub decreases-loop-at : goal.decreases-loop-at
decreases-loop-at l = l.at
