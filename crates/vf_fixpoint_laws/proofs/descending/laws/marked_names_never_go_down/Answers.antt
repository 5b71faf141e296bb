use Rattle.vf_fixpoint_laws.proofs.descending.Marked.{marked_names_never_go_down}
use Rattle.vf_fixpoint_laws.proofs.descending.laws.marked_names_never_go_down.Goals as goal

pub returns : goal.returns
returns c = marked_names_never_go_down
