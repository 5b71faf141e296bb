use Rattle.vf_entailment.proofs.Values.{terms_meant}
use Rattle.vf_entailment.proofs.laws.terms_have_their_meaning.Goals as goal

pub returns : goal.returns
returns c = terms_meant
