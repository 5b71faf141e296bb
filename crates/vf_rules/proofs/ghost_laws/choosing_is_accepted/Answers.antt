use Rattle.vf_rules.proofs.GhostLaws.{choosing_is_accepted}
use Rattle.vf_rules.proofs.ghost_laws.choosing_is_accepted.Goals as goal

pub returns : goal.returns
returns c = choosing_is_accepted
