use Rattle.vf_annotated_headers.proofs.AnnotatedUnits.{stripped_items_are_the_same}
use Rattle.vf_annotated_headers.proofs.stripped_items_are_the_same.Goals as goal

pub returns : goal.returns
returns c = stripped_items_are_the_same
