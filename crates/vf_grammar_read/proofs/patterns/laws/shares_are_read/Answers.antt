use Rattle.vf_grammar_read.proofs.patterns.SharesFull.{share_full, any_share_full}
use Rattle.vf_grammar_read.proofs.patterns.laws.shares_are_read.Goals as goal

pub returns-clause-whole : goal.returns-clause-whole
returns-clause-whole c = share_full

pub returns-clause-any : goal.returns-clause-any
returns-clause-any c = any_share_full
