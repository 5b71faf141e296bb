use Rattle.std.proofs.Common.{rules, ◌≡◌, Err}
use Rattle.vf_resolved_contracts.proofs.Steps.{body_fails}
use Rattle.vf_resolved_contracts.proofs.bodies.body_known.Goals as goal

pub returns-in_err-assertion_given : goal.returns-in_err-assertion_given
returns-in_err-assertion_given c =
    let e : c.from_residual.result ≡ Err c.in_err-assertion_given.field-0.0 = search rules in
    body_fails _ c.new-unknowns.ensures c.in_err-assertion_given.ensures e
