use Rattle.vf_examples.proofs.HeldMutex.{held_mutex_is_meant}
use Rattle.vf_examples.proofs.instances.held_mutex_is_meant.Goals as goal

pub returns : goal.returns
returns c = held_mutex_is_meant
