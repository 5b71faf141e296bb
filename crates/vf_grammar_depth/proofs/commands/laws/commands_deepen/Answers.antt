use Rattle.vf_parse_command.specs.Commands.{command_at}
use Rattle.vf_grammar_depth.proofs.terms.Whole.{answers_deepen_by_two}
use Rattle.vf_grammar_depth.proofs.commands.Whole.{command_rises}
use Rattle.vf_grammar_depth.proofs.commands.laws.commands_deepen.Goals as goal

pub returns : goal.returns
returns c = λ d m ts lt. answers_deepen_by_two command_at command_rises d m ts lt
