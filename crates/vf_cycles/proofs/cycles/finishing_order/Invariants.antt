use Rattle.std.proofs.Common.{◌≡◌, ◌<◌, ℕ, [], length}
use Rattle.std.specs.Prelude.{Contains}
use Rattle.vf_cycles.specs.Walks.{IsWalkOf}
use Rattle.vf_cycles.proofs.cycles.finishing_order.Given as goal

abbrev pub invariant-loop-root : goal.invariant-loop-root
invariant-loop-root l = record {
  walk : IsWalkOf l.graph [] l.walk;
  opened : l.walk.opened.items ≡ [];
  nodes : length l.walk.seen.items ≡ l.count;
  each : (u : ℕ) → u < l.root → Contains l.walk.finished.items u;
}
