use Rattle.vf_safety.proofs.ArrayLemmas.{raw_rows_are_joined}
use Rattle.vf_safety.proofs.array_laws.raw_rows_are_joined.Goals as goal

pub returns : goal.returns
returns c = raw_rows_are_joined
