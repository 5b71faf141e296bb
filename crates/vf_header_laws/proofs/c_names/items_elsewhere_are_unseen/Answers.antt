use Rattle.vf_header_laws.proofs.c_names.Elsewhere.{items_elsewhere_are_unseen}
use Rattle.vf_header_laws.proofs.c_names.items_elsewhere_are_unseen.Goals as goal

pub returns : goal.returns
returns c = items_elsewhere_are_unseen
