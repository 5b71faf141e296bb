use Rattle.vf_grammar_read.proofs.simple_statements.SimplesFull.{declared_full}
use Rattle.vf_grammar_read.proofs.simple_statements.laws.declared_are_read.Goals as goal

pub returns : goal.returns
returns c = λ t n ts rest h. declared_full t n ts rest h
