use Rattle.vf_grammar_depth.proofs.patterns.Never.{never_deep}
use Rattle.vf_grammar_depth.proofs.patterns.Shares.{share_deep, any_share_deep}
use Rattle.vf_grammar_depth.proofs.patterns.laws.shares_deepen.Goals as goal

pub returns : goal.returns
returns c = λ ts. (never_deep share_deep ts, never_deep any_share_deep ts)
