use Rattle.vf_safety.proofs.LeakLaws.{no_block_is_left}
use Rattle.vf_safety.proofs.leak_laws.no_block_is_left.Goals as goal

pub returns : goal.returns
returns c = no_block_is_left
