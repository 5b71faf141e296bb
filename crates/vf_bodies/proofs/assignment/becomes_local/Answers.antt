use Rattle.std.proofs.Common.{rules}
use Rattle.vf_lower.proofs.Parts.{did_given}
use Rattle.vf_bodies.proofs.assignment.becomes_local.Goals as goal

pub returns-in_default : goal.returns-in_default
returns-in_default c = did_given _ _ _ (search rules)

pub returns-in-Read : goal.returns-in-Read
returns-in-Read c = rw c.in-Read.is c.put_local.ensures
