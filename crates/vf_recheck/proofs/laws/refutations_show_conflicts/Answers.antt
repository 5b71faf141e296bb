use Rattle.vf_recheck.proofs.Following.{refutation_shows}
use Rattle.vf_recheck.proofs.laws.refutations_show_conflicts.Goals as goal

pub returns : goal.returns
returns c = refutation_shows
