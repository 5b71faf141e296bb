use Rattle.vf_safety.proofs.ArrayLemmas.{rows_have_lengths}
use Rattle.vf_safety.proofs.array_laws.rows_have_lengths.Goals as goal

pub returns : goal.returns
returns c = rows_have_lengths
