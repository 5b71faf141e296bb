use Rattle.vf_unit_laws.proofs.Accepted.{accepted_definitions_are_theirs}
use Rattle.vf_unit_laws.proofs.laws.accepted_definitions_are_theirs.Goals as goal

pub returns : goal.returns
returns c = accepted_definitions_are_theirs
