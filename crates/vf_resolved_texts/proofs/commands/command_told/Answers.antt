use Rattle.vf_resolving.specs.Standings.{standing_of}
use Rattle.vf_resolved_texts.proofs.Steps.{command_told}
use Rattle.vf_resolved_texts.proofs.commands.command_told.Goals as goal

pub returns : goal.returns
returns c = command_told {s = standing_of c.args.standing.now} {u = c.command_known.new.scope} c.in_ok-unknowns.ensures c.in_ok-read.ensures
