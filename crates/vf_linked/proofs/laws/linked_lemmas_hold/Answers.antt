use Rattle.vf_linked.proofs.Lemmas.{linked_lemmas_hold}
use Rattle.vf_linked.proofs.laws.linked_lemmas_hold.Goals as goal

pub returns : goal.returns
returns c = linked_lemmas_hold
