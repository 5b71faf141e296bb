use Rattle.vf_lemmas.proofs.Shares.{opening_share_goes_lower}
use Rattle.vf_lemmas.proofs.laws.opening_share_goes_lower.Goals as goal

pub returns : goal.returns
returns c = opening_share_goes_lower
