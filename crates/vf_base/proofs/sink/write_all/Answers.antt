use Rattle.std.proofs.Common.{arith}
use Rattle.std.proofs.lemmas.Grind.{common_steps}
use Rattle.vf_base.proofs.Taken.{Takes-take}
use Rattle.vf_base.proofs.sink.write_all.Goals as goal

pub loop-at-preserved : goal.loop-at-preserved
loop-at-preserved g c = record {
  within = grind (arith, common_steps);
  taken = Takes-take (g.S.Sink.taken c.args.out.now) (g.S.Sink.taken c.loop-at.out) (g.S.Sink.taken c.write.new.self) c.loop-at.at c.in_ok-count.count c.args.piece.now c.loop-at.invariant.taken c.in_ok-count.ensures.ok;
  failures = grind (arith, common_steps, c.in_ok-count.ensures.failures_never_fall);
}
