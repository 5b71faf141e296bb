use Rattle.vf_header_laws.proofs.c_names.Clashes.{items_inside_clash_alone}
use Rattle.vf_header_laws.proofs.c_names.items_inside_clash_alone.Goals as goal

pub returns : goal.returns
returns c = items_inside_clash_alone
