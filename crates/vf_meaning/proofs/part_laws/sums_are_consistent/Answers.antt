use Rattle.vf_meaning.proofs.Parts.{sums_are_consistent}
use Rattle.vf_meaning.proofs.part_laws.sums_are_consistent.Goals as goal

pub returns : goal.returns
returns c = sums_are_consistent
