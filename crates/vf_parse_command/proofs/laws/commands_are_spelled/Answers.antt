use Rattle.vf_parse_command.proofs.CommandsRead.{command_sound}
use Rattle.vf_parse_command.proofs.laws.commands_are_spelled.Goals as goal

pub returns : goal.returns
returns c = command_sound
