use Rattle.vf_lemmas.proofs.Shares.{named_shares_are_halved}
use Rattle.vf_lemmas.proofs.laws.named_shares_are_halved.Goals as goal

pub returns : goal.returns
returns c = named_shares_are_halved
