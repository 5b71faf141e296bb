use Rattle.vf_linked.proofs.Refined.{refined_lemmas_hold}
use Rattle.vf_linked.proofs.laws.refined_lemmas_hold.Goals as goal

pub returns : goal.returns
returns c = refined_lemmas_hold
