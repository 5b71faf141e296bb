use Rattle.std.proofs.Common.{refl, arith}
use Rattle.vf_defining.proofs.UpTo.{one_more}
use Rattle.vf_defining.proofs.up_to.keep_names.Goals as goal

pub loop-at-preserved : goal.loop-at-preserved
loop-at-preserved c = record {
  first = one_more c.args.whole.now c.loop-at.front c.push.new.self c.loop-at.at c.in-Some.name.now c.in-Some.name.now c.in-Some.ensures c.loop-at.invariant.first refl c.in_ok-push.ensures.pushed;
  within = omega arith;
}
