use Rattle.vf_asking.proofs.Determined.{right_determined}
use Rattle.vf_take.specs.Reads.{reads}
use Rattle.vf_take.proofs.laws.reads_are_determined.Goals as goal

pub returns : goal.returns
returns c = λ places path name p cs. right_determined (reads places path name p cs)
