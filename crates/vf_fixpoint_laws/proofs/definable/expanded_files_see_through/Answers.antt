use Rattle.vf_fixpoint_laws.proofs.definable.Expanded.{expanded_files_see_through}
use Rattle.vf_fixpoint_laws.proofs.definable.expanded_files_see_through.Goals as goal

pub returns : goal.returns
returns c = expanded_files_see_through
