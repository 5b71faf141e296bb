use Rattle.vf_sound.proofs.Endings.{safe_runs_show_no_fault}
use Rattle.vf_sound.proofs.laws.safe_runs_show_no_fault.Goals as goal

pub returns : goal.returns
returns c = safe_runs_show_no_fault
