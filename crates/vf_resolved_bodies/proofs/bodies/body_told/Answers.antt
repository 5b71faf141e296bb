use Rattle.std.proofs.Common.{rules, ◌≡◌, Err}
use Rattle.vf_resolved_bodies.proofs.Steps.{body_stops, body_tells}
use Rattle.vf_resolved_bodies.proofs.bodies.body_told.Goals as goal

pub returns-in_err-statements_told : goal.returns-in_err-statements_told
returns-in_err-statements_told c =
    let e : c.from_residual-in_err-statements_told.result ≡ Err c.in_err-statements_told.field-0.0 = search rules in
    body_stops _ c.in_ok-reals.ensures c.new-told.ensures c.in_err-statements_told.ensures e

pub returns : goal.returns
returns c = body_tells c.in_ok-reals.ensures c.new-told.ensures c.in_ok-statements_told.ensures
