use Rattle.std.proofs.Common.{sym}
use Rattle.vf_asserting.proofs.Lists.{instances_on}
use Rattle.vf_asserting.proofs.cases.instances.Goals as goal

pub loop-at-preserved : goal.loop-at-preserved
loop-at-preserved c = instances_on c.args.first c.args.count c.loop-at.all c.push.new.self c.args.sorts.now c.loop-at.at _ _ (sym c.in-Some.ensures) c.in_ok-sort.ensures c.loop-at.invariant c.in_ok-push.ensures.pushed
