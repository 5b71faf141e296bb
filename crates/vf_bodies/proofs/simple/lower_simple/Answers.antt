use Rattle.vf_bodies.proofs.simple.lower_simple.Goals as goal

pub returns-in-Assignment : goal.returns-in-Assignment
returns-in-Assignment c = rw c.in-Assignment.is c.assignment.ensures

pub returns-in-Call : goal.returns-in-Call
returns-in-Call c = rw c.in-Call.is c.call.ensures
