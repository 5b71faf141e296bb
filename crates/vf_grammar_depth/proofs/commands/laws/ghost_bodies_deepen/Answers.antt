use Rattle.vf_parse_command.specs.Commands.{body_at}
use Rattle.vf_grammar_depth.proofs.terms.Whole.{answers_deepen_by_two}
use Rattle.vf_grammar_depth.proofs.commands.Whole.{body_rises}
use Rattle.vf_grammar_depth.proofs.commands.laws.ghost_bodies_deepen.Goals as goal

pub returns : goal.returns
returns c = λ d m ts lt. answers_deepen_by_two body_at body_rises d m ts lt
