use Rattle.std.proofs.Common.{◌≡◌, ℕ, ◌<◌, IsFalse}
use Rattle.vf_arith.specs.Paths.{HasNegativeCycle}
use Rattle.vf_combination.specs.Exchanged.{IsUnmarked, AreQuiet, HaveGoneOn, HaveFollowed, HaveMarked, HaveFallen}
use Rattle.vf_combination.proofs.exchange.settle_beside.Given as goal

abbrev pub invariant-loop-y : goal.invariant-loop-y
invariant-loop-y l = record {
  fine : HasNegativeCycle l.bounds.edges → ⊥;
  on : HaveGoneOn l.initial.classes l.initial.bounds l.classes l.bounds;
  followed : HaveFollowed l.initial.classes l.initial.bounds l.initial.clashed l.classes l.bounds l.clashed;
  marked : HaveMarked l.initial.classes l.initial.bounds l.initial.clashed l.initial.marks l.classes l.bounds l.clashed l.marks;
  quiet : (k : ℕ) → k < l.y → IsUnmarked l.marks l.x → IsUnmarked l.marks k → AreQuiet l.classes l.bounds l.clashed l.x k × AreQuiet l.classes l.bounds l.clashed k l.x;
  same : IsFalse l.given → l.marks ≡ l.initial.marks;
  fallen : HaveFallen l.given l.initial.classes l.initial.bounds l.classes l.bounds;
}
