use Rattle.vf_header_laws.proofs.c_names.Example.{one_header_of_two_units}
use Rattle.vf_header_laws.proofs.c_names.one_header_of_two_units.Goals as goal

pub returns : goal.returns
returns c = one_header_of_two_units
