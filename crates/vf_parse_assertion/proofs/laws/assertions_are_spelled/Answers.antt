use Rattle.vf_parse_assertion.proofs.PartsRead.{assertion_sound}
use Rattle.vf_parse_assertion.proofs.laws.assertions_are_spelled.Goals as goal

pub returns : goal.returns
returns c = assertion_sound
