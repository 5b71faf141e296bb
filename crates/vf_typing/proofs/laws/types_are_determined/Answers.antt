use Rattle.vf_typing.proofs.Agree.{determined}
use Rattle.vf_typing.proofs.laws.types_are_determined.Goals as goal

pub returns : goal.returns
returns c = determined
