use Rattle.vf_resolving.specs.Standings.{around_of, standing_of}
use Rattle.vf_resolved_contracts.proofs.Steps.{postcondition_told}
use Rattle.vf_resolved_contracts.proofs.contracts.postcondition_read.Goals as goal

pub returns : goal.returns
returns c =
    postcondition_told (around_of c.args.after.now) c.args.parameters c.args.contract.now c.args.precondition (standing_of c.args.standing) (standing_of c.assertion_resolved.new.standing) (standing_of c.leave.new.standing) c.in_ok-postcondition.postcondition c.visible-count.result c.in_ok-names.names
    c.visible-count.ensures c.in_ok-postcondition.ensures c.leave.ensures c.in_ok-names.ensures
