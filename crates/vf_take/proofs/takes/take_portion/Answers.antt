-- What is taken, and what is left, can be compared.
use Rattle.vf_take.specs.declared.wanted.Portion.TheVariants.{Whole}
use Rattle.vf_take.proofs.Kept.{taken_kept}
use Rattle.vf_take.proofs.Parting.{whole_taken}
use Rattle.vf_take.proofs.takes.take_portion.Goals as goal

pub returns-in-Whole-clause-kept : goal.returns-in-Whole-clause-kept
returns-in-Whole-clause-kept c = taken_kept c.args.places c.args.heap c.args.at (Whole c.in-Whole.bound) _ c.requires.compared (whole_taken c.args.places c.args.heap _ c.args.at c.in-Whole.bound _ c.take_out-chunk.ensures.item c.take_out-chunk.ensures.left)
