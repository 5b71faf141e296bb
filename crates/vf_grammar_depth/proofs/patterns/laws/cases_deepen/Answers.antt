use Rattle.vf_grammar_depth.proofs.patterns.Never.{never_deep}
use Rattle.vf_grammar_depth.proofs.patterns.Patterns.{case_pattern_deep}
use Rattle.vf_grammar_depth.proofs.patterns.laws.cases_deepen.Goals as goal

pub returns : goal.returns
returns c = λ ts. never_deep case_pattern_deep ts
