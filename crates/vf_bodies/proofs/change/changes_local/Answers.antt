use Rattle.std.proofs.Common.{rules}
use Rattle.vf_lower.proofs.Parts.{did_given, does_then}
use Rattle.vf_bodies.proofs.change.changes_local.Goals as goal

pub returns-in_default : goal.returns-in_default
returns-in_default c = did_given _ _ _ (search rules)

pub returns-in_ok-value-in-Read : goal.returns-in_ok-value-in-Read
returns-in_ok-value-in-Read c = rw c.in-Read.is (does_then (λ u. tt) _ _ _ _ _ _ _ c.in_ok-value-in-Read.ensures c.set_local.ensures)
