use Rattle.vf_lower.proofs.Parts.{does_then}
use Rattle.vf_bodies.proofs.change.changes_field.Goals as goal

pub returns : goal.returns
returns c =
    does_then (λ u. tt) _ _ _ _ _ _ _ c.in_ok-local.ensures (does_then (λ u. tt) _ _ _ _ _ _ _ (rw c.in_ok-again.ensures at c.in_ok-add.ensures)
    (does_then (λ u. tt) _ _ _ _ _ _ _ c.in_ok-value.ensures c.add-2.ensures))
