use Rattle.vf_lemmas.proofs.Shares.{written_shares_are_added}
use Rattle.vf_lemmas.proofs.laws.written_shares_are_added.Goals as goal

pub returns : goal.returns
returns c = written_shares_are_added
