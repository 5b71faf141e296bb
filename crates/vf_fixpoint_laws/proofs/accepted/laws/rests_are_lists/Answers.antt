use Rattle.vf_fixpoint_laws.proofs.accepted.Example.{rests_are_lists}
use Rattle.vf_fixpoint_laws.proofs.accepted.laws.rests_are_lists.Goals as goal

pub returns : goal.returns
returns c = rests_are_lists
