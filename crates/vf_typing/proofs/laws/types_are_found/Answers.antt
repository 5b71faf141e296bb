use Rattle.vf_typing.proofs.Agree.{found_exactly}
use Rattle.vf_typing.proofs.laws.types_are_found.Goals as goal

pub returns : goal.returns
returns c = found_exactly
