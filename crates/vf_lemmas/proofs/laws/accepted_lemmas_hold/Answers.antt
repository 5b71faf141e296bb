use Rattle.vf_lemmas.proofs.Accepted.{accepted_lemmas_hold}
use Rattle.vf_lemmas.proofs.laws.accepted_lemmas_hold.Goals as goal

pub returns : goal.returns
returns c = accepted_lemmas_hold
