use Rattle.std.proofs.Common.{ℕ, ◌<◌, IsFalse}
use Rattle.vf_arith.specs.Paths.{HasNegativeCycle}
use Rattle.vf_combination.specs.Exchanged.{IsUnmarked, QuietElsewhere, HaveGoneOn, HaveFollowed, HaveFallen}
use Rattle.vf_combination.proofs.exchange.settle_once.Given as goal

abbrev pub invariant-loop-x : goal.invariant-loop-x
invariant-loop-x l = record {
  fine : HasNegativeCycle l.bounds.edges → ⊥;
  on : HaveGoneOn l.initial.classes l.initial.bounds l.classes l.bounds;
  followed : HaveFollowed l.initial.classes l.initial.bounds l.initial.clashed l.classes l.bounds l.clashed;
  elsewhere : QuietElsewhere l.classes l.bounds l.clashed l.marks;
  unmarked : IsFalse l.given → (k : ℕ) → k < l.x → IsUnmarked l.marks k;
  fallen : HaveFallen l.given l.initial.classes l.initial.bounds l.classes l.bounds;
}
