use Rattle.vf_grammar_read.proofs.whole_units.WholeFull.{annotations}
use Rattle.vf_grammar_read.proofs.whole_units.laws.annotations_are_read.Goals as goal

pub returns : goal.returns
returns n = annotations
