use Rattle.vf_safety.proofs.ArrayLemmas.{unchanging_lemmas_hold}
use Rattle.vf_safety.proofs.array_laws.unchanging_lemmas_hold.Goals as goal

pub returns : goal.returns
returns c = unchanging_lemmas_hold
