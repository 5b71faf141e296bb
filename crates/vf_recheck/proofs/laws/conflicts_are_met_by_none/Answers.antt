use Rattle.vf_recheck.proofs.Sound.{met_by_none}
use Rattle.vf_recheck.proofs.laws.conflicts_are_met_by_none.Goals as goal

pub returns : goal.returns
returns c = met_by_none
