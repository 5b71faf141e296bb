use Rattle.vf_meaning.proofs.Parts.{sums_turn}
use Rattle.vf_meaning.proofs.part_laws.sums_turn.Goals as goal

pub returns : goal.returns
returns c = sums_turn
