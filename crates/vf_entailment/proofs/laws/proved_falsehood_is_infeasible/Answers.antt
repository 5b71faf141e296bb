use Rattle.vf_entailment.proofs.Entailing.{falsehood_infeasible}
use Rattle.vf_entailment.proofs.laws.proved_falsehood_is_infeasible.Goals as goal

pub returns : goal.returns
returns c = falsehood_infeasible
