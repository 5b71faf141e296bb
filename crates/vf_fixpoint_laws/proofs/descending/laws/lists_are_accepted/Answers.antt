use Rattle.vf_fixpoint_laws.proofs.descending.Example.{lists_are_accepted}
use Rattle.vf_fixpoint_laws.proofs.descending.laws.lists_are_accepted.Goals as goal

pub returns : goal.returns
returns c = lists_are_accepted
