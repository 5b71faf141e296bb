use Rattle.vf_lemmas.proofs.Openings.{opening_goes_lower}
use Rattle.vf_lemmas.proofs.laws.opening_goes_lower.Goals as goal

pub returns : goal.returns
returns c = opening_goes_lower
