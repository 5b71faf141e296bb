use Rattle.vf_header_laws.proofs.c_names.Units.{units_show_the_same}
use Rattle.vf_header_laws.proofs.c_names.units_show_the_same.Goals as goal

pub returns : goal.returns
returns c = units_show_the_same
