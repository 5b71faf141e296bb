use Rattle.vf_resolved_meaning.proofs.Truths.{truths_mean_their_terms}
use Rattle.vf_resolved_meaning.proofs.laws.truths_mean_their_terms.Goals as goal

pub returns : goal.returns
returns c = truths_mean_their_terms
