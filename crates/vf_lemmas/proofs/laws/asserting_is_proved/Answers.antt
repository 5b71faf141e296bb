use Rattle.vf_lemmas.proofs.Calls.{asserting_is_proved}
use Rattle.vf_lemmas.proofs.laws.asserting_is_proved.Goals as goal

pub returns : goal.returns
returns c = asserting_is_proved
