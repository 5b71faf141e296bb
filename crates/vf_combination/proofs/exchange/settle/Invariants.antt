use Rattle.std.proofs.Common.{◌+◌}
use Rattle.vf_arith.specs.Paths.{HasNegativeCycle}
use Rattle.vf_combination.specs.Exchanged.{QuietElsewhere, HaveGoneOn, HaveFollowed}
use Rattle.vf_combination.proofs.exchange.settle.Given as goal

abbrev pub invariant-loop-bounds : goal.invariant-loop-bounds
invariant-loop-bounds l = record {
  fine : HasNegativeCycle l.bounds.edges → ⊥;
  on : HaveGoneOn l.initial.classes l.initial.bounds l.classes l.bounds;
  followed : HaveFollowed l.initial.classes l.initial.bounds l.initial.clashed l.classes l.bounds l.clashed;
  elsewhere : QuietElsewhere l.classes l.bounds l.clashed l.marks;
}

abbrev pub decreases-loop-bounds : goal.decreases-loop-bounds
decreases-loop-bounds l = l.classes.weight + l.bounds.weight
