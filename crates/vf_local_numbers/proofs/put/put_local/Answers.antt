use Rattle.vf_lower.proofs.Parts.{does_then}
use Rattle.vf_local_numbers.proofs.put.put_local.Goals as goal

pub returns : goal.returns
returns c = does_then (λ u. tt) _ _ _ _ _ _ _ c.in_ok-outcome.ensures c.put.ensures
