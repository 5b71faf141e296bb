use Rattle.vf_sound.proofs.Runs.{tests_hold_throughout}
use Rattle.vf_sound.proofs.laws.tests_hold_throughout.Goals as goal

pub returns : goal.returns
returns c = tests_hold_throughout
