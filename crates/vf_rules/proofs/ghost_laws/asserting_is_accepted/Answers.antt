use Rattle.vf_rules.proofs.GhostLaws.{asserting_is_accepted}
use Rattle.vf_rules.proofs.ghost_laws.asserting_is_accepted.Goals as goal

pub returns : goal.returns
returns c = asserting_is_accepted
