use Rattle.vf_sound.proofs.Runs.{one_thread_has_no_race}
use Rattle.vf_sound.proofs.laws.one_thread_has_no_race.Goals as goal

pub returns : goal.returns
returns c = one_thread_has_no_race
