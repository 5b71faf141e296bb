use Rattle.vf_fixpoint_laws.proofs.identifiers.Accepted.{plain_names}
use Rattle.vf_fixpoint_laws.proofs.identifiers.read_units_have_plain_names.Goals as goal

pub returns : goal.returns
returns c = plain_names
