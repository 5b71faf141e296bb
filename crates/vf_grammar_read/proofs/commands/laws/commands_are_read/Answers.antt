use Rattle.vf_grammar_read.proofs.commands.CommandsFull.{command_full}
use Rattle.vf_grammar_read.proofs.commands.laws.commands_are_read.Goals as goal

pub returns : goal.returns
returns c = λ d x ts rest h deep none. command_full d x ts rest h deep none
