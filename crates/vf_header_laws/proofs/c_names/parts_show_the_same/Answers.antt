use Rattle.vf_header_laws.proofs.c_names.Parts.{parts_show_the_same}
use Rattle.vf_header_laws.proofs.c_names.parts_show_the_same.Goals as goal

pub returns : goal.returns
returns c = parts_show_the_same
