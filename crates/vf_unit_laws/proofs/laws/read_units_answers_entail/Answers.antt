use Rattle.vf_unit_laws.proofs.Accepted.{read_units_answers_entail}
use Rattle.vf_unit_laws.proofs.laws.read_units_answers_entail.Goals as goal

pub returns : goal.returns
returns c = read_units_answers_entail
