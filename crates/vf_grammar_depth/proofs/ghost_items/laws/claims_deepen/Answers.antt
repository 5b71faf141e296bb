use Rattle.vf_grammar_depth.proofs.patterns.Never.{never_deep}
use Rattle.vf_grammar_depth.proofs.ghost_items.Clauses.{claim_deep}
use Rattle.vf_grammar_depth.proofs.ghost_items.laws.claims_deepen.Goals as goal

pub returns : goal.returns
returns c = λ ts. never_deep claim_deep ts
