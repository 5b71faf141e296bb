use Rattle.vf_annotated_headers.proofs.ExpandedUnits.{expanded_units_show_the_same}
use Rattle.vf_annotated_headers.proofs.expanded_units_show_the_same.Goals as goal

pub returns : goal.returns
returns c = expanded_units_show_the_same
