use Rattle.vf_asking.proofs.Determined.{right_determined}
use Rattle.vf_take.specs.Merges.{takes}
use Rattle.vf_take.proofs.laws.takes_are_determined.Goals as goal

pub returns : goal.returns
returns c = λ places path w cs. right_determined (takes places path w cs)
