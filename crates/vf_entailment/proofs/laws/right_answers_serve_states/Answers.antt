use Rattle.vf_entailment.proofs.Entailing.{right_answers_serve}
use Rattle.vf_entailment.proofs.laws.right_answers_serve_states.Goals as goal

pub returns : goal.returns
returns c = right_answers_serve
