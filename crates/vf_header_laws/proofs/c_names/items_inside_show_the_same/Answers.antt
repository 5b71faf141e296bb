use Rattle.vf_header_laws.proofs.c_names.Units.{items_inside_show_the_same}
use Rattle.vf_header_laws.proofs.c_names.items_inside_show_the_same.Goals as goal

pub returns : goal.returns
returns c = items_inside_show_the_same
