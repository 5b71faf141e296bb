use Rattle.vf_annotated_headers.proofs.AnnotatedUnits.{annotated_units_show_the_same}
use Rattle.vf_annotated_headers.proofs.annotated_units_show_the_same.Goals as goal

pub returns : goal.returns
returns c = annotated_units_show_the_same
