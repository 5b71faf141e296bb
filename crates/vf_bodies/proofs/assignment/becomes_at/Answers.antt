use Rattle.std.proofs.Common.{rules}
use Rattle.vf_lower.proofs.Parts.{did_given}
use Rattle.vf_bodies.proofs.assignment.becomes_at.Goals as goal

pub returns : goal.returns
returns c = did_given _ _ _ (search rules)

pub returns-in-Load : goal.returns-in-Load
returns-in-Load c = rw c.in-Load.is c.becomes_field.ensures

pub returns-in-LoadAt : goal.returns-in-LoadAt
returns-in-LoadAt c = rw c.in-LoadAt.is c.becomes_element.ensures
