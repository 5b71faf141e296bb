use Rattle.std.proofs.Common.{rules, ◌≡◌, Err}
use Rattle.vf_resolved_bodies.proofs.Steps.{invariant_refused, loop_told}
use Rattle.vf_resolved_bodies.proofs.statements.tell_invariant.Goals as goal

pub returns-in_err-invariant : goal.returns-in_err-invariant
returns-in_err-invariant c =
    let e : c.from_residual.result ≡ Err c.in_err-invariant.field-0.0 = search rules in
    invariant_refused _ c.in_err-invariant.ensures e

pub returns : goal.returns
returns c = loop_told c.in_ok-invariant.ensures c.in_ok-push.ensures.pushed
