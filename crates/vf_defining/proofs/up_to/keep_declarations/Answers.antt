use Rattle.std.proofs.Common.{arith}
use Rattle.vf_defining.proofs.UpTo.{one_more}
use Rattle.vf_defining.proofs.up_to.keep_declarations.Goals as goal

pub loop-at-preserved : goal.loop-at-preserved
loop-at-preserved c = record {
  first = one_more c.args.whole.now c.loop-at.front c.push.new.self c.loop-at.at c.in-Some.declaration.now c.in_ok-copy.field-0 c.in-Some.ensures c.loop-at.invariant.first c.in_ok-copy.ensures c.in_ok-push.ensures;
  within = omega arith;
}
