use Rattle.vf_grammar_read.proofs.terms.Behind.{ended}
use Rattle.vf_grammar_read.proofs.patterns.PatternsFull.{pattern_full, patterns_full, any_patterns_full}
use Rattle.vf_grammar_read.proofs.patterns.laws.patterns_are_read.Goals as goal

pub returns-clause-one : goal.returns-clause-one
returns-clause-one c = λ d x ts rest h deep free. pattern_full d x ts rest h deep (ended rest free)

pub returns-clause-listed : goal.returns-clause-listed
returns-clause-listed c = patterns_full

pub returns-clause-any : goal.returns-clause-any
returns-clause-any c = any_patterns_full
