use Rattle.std.proofs.Common.{rules}
use Rattle.vf_lower.proofs.Parts.{did_given, does_then}
use Rattle.vf_bodies.proofs.simple.unused.Goals as goal

pub returns-in-Awaits : goal.returns-in-Awaits
returns-in-Awaits c = rw c.in-Awaits.is (does_then (λ u. tt) _ _ _ _ _ _ _ c.in_ok-local-in-Awaits.ensures (rw c.into_step.ensures at c.add.ensures))

pub returns : goal.returns
returns c = did_given _ _ _ (search rules)
