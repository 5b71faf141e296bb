use Rattle.vf_unit_laws.proofs.Accepted.{read_units_are_accepted}
use Rattle.vf_unit_laws.proofs.laws.read_units_are_accepted.Goals as goal

pub returns : goal.returns
returns c = read_units_are_accepted
