use Rattle.vf_resolving.specs.Standings.{around_of, standing_of}
use Rattle.vf_resolved_contracts.proofs.Steps.{conditions_told}
use Rattle.vf_resolved_contracts.proofs.contracts.conditions_read.Goals as goal

pub returns : goal.returns
returns c =
    conditions_told c.postcondition_read.result (around_of c.args.before.now) (around_of c.args.after.now) c.args.scope c.args.contract.now c.count_of-parameters.result (standing_of c.in_ok-standing.standing) (standing_of c.assertion_resolved.new.standing) c.in_ok-precondition.precondition
    c.count_of-parameters.ensures c.in_ok-standing.ensures c.in_ok-precondition.ensures c.postcondition_read.ensures
