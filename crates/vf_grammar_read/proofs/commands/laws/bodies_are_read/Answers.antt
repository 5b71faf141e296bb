use Rattle.vf_grammar_read.proofs.commands.CommandsFull.{body_full}
use Rattle.vf_grammar_read.proofs.commands.laws.bodies_are_read.Goals as goal

pub returns : goal.returns
returns c = body_full
