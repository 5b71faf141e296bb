use Rattle.vf_lower.proofs.Parts.{does_then}
use Rattle.vf_bodies.proofs.declaration.lower_return.Goals as goal

pub returns-in_ok-value-in-Some : goal.returns-in_ok-value-in-Some
returns-in_ok-value-in-Some c = rw c.in-Some.is (does_then (λ u. tt) _ _ _ _ _ _ _ c.in_ok-value-in-Some.ensures c.add.ensures)
