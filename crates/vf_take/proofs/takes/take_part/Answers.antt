-- What is taken, and what is left, can be compared.
use Rattle.vf_take.proofs.Kept.{part_kept}
use Rattle.vf_take.proofs.takes.take_part.Goals as goal

pub returns-in-Ok-clause-kept : goal.returns-in-Ok-clause-kept
returns-in-Ok-clause-kept c = part_kept c.args.heap c.as_slice.result.now c.replace.new.self c.args.at c.args.coefficient c.index-as_slice-at.result c.in-Ok.chunk c.in-Ok.rest c.requires.within c.as_slice.ensures c.index-as_slice-at.is c.in-Ok.ensures.parts c.replace.ensures c.requires.compared
