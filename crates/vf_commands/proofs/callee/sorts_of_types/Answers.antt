use Rattle.std.proofs.Common.{sym}
use Rattle.vf_commands.proofs.Calling.{types_more}
use Rattle.vf_commands.proofs.callee.sorts_of_types.Goals as goal

pub loop-at-preserved : goal.loop-at-preserved
loop-at-preserved c = types_more c.loop-at.sorts c.push.new.self c.args.types.now c.loop-at.at _ _ (sym c.in-Some.ensures) c.sort_of_type.ensures c.loop-at.invariant c.in_ok-push.ensures.pushed
