use Rattle.vf_safety.proofs.ArrayLemmas.{rows_are_joined}
use Rattle.vf_safety.proofs.array_laws.rows_are_joined.Goals as goal

pub returns : goal.returns
returns c = rows_are_joined
