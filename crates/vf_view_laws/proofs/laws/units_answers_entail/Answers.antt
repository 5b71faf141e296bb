use Rattle.vf_view_laws.proofs.Order.{units_answers_entail}
use Rattle.vf_view_laws.proofs.laws.units_answers_entail.Goals as goal

pub returns : goal.returns
returns c = units_answers_entail
