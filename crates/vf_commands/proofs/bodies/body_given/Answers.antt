use Rattle.std.proofs.Common.{sym}
use Rattle.vf_commands.proofs.Walks.{commands_more}
use Rattle.vf_commands.proofs.bodies.body_given.Goals as goal

pub loop-at-preserved : goal.loop-at-preserved
loop-at-preserved c = commands_more c.args.around.now c.args.commands.now c.loop-at.at _ _ _ _ (sym c.in-Some.ensures) c.in_ok-command_given.ensures c.loop-at.invariant
