use Rattle.vf_unit_laws.proofs.Accepted.{accepted_units_answers_entail}
use Rattle.vf_unit_laws.proofs.laws.accepted_units_answers_entail.Goals as goal

pub returns : goal.returns
returns c = accepted_units_answers_entail
