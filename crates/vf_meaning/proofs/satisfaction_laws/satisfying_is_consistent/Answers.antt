use Rattle.vf_meaning.proofs.Satisfaction.{satisfying_is_consistent}
use Rattle.vf_meaning.proofs.satisfaction_laws.satisfying_is_consistent.Goals as goal

pub returns : goal.returns
returns c = satisfying_is_consistent
