use Rattle.vf_fixpoint_laws.proofs.definable.Example.{later_names_do_not_count}
use Rattle.vf_fixpoint_laws.proofs.definable.later_names_do_not_count.Goals as goal

pub returns : goal.returns
returns c = later_names_do_not_count
