use Rattle.vf_fixpoint_laws.proofs.well_declared.Marked.{marked_names_share_identities}
use Rattle.vf_fixpoint_laws.proofs.well_declared.marked_names_share_identities.Goals as goal

pub returns : goal.returns
returns c = marked_names_share_identities
