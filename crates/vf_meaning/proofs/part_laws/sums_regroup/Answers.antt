use Rattle.vf_meaning.proofs.Parts.{sums_regroup}
use Rattle.vf_meaning.proofs.part_laws.sums_regroup.Goals as goal

pub returns : goal.returns
returns c = sums_regroup
