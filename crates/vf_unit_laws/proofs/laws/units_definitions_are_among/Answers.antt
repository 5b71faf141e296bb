use Rattle.vf_unit_laws.proofs.Accepted.{units_definitions_are_among}
use Rattle.vf_unit_laws.proofs.laws.units_definitions_are_among.Goals as goal

pub returns : goal.returns
returns c = units_definitions_are_among
