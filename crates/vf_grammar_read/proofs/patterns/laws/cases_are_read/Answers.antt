use Rattle.vf_grammar_read.proofs.patterns.PatternsFull.{case_full}
use Rattle.vf_grammar_read.proofs.patterns.laws.cases_are_read.Goals as goal

pub returns : goal.returns
returns c = case_full
