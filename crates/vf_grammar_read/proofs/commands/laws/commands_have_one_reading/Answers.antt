use Rattle.vf_grammar_read.proofs.commands.CommandsFull.{one_command}
use Rattle.vf_grammar_read.proofs.commands.laws.commands_have_one_reading.Goals as goal

pub returns : goal.returns
returns c = one_command
