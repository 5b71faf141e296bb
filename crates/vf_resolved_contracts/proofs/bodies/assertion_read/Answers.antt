use Rattle.vf_resolving.specs.Standings.{around_of, standing_of}
use Rattle.vf_resolved_contracts.proofs.Steps.{body_told}
use Rattle.vf_resolved_contracts.proofs.bodies.assertion_read.Goals as goal

pub returns : goal.returns
returns c =
    body_told (around_of c.args.around.now) c.args.scope c.args.body.now c.count_of-parameters.result (standing_of c.in_ok-standing.standing) (standing_of c.assertion_resolved.new.standing) c.in_ok-assertion.assertion c.in_ok-names.names
    c.count_of-parameters.ensures c.in_ok-standing.ensures c.in_ok-assertion.ensures c.in_ok-names.ensures
