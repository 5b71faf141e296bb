-- The sink took the piece up to here.
use Rattle.std.proofs.Common.{length, ◌-◌, ◌≤◌, take}
use Rattle.vf_base.specs.Outside.{Takes}
use Rattle.vf_base.proofs.sink.write_all.Given as goal

abbrev pub invariant-loop-at : goal.invariant-loop-at
invariant-loop-at g l = record {
  within : l.at ≤ length l.piece;
  taken : Takes (g.S.Sink.taken l.initial.out) (g.S.Sink.taken l.out) (take l.at l.piece);
  failures : g.S.Sink.failures l.initial.out ≤ g.S.Sink.failures l.out;
}

abbrev pub decreases-loop-at : goal.decreases-loop-at
decreases-loop-at g l = length l.piece - l.at
