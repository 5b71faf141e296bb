use Rattle.vf_parse_command.proofs.CommandsRead.{body_sound}
use Rattle.vf_parse_command.proofs.laws.bodies_are_spelled.Goals as goal

pub returns : goal.returns
returns c = body_sound
