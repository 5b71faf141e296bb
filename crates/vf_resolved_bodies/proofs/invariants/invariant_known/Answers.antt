use Rattle.std.proofs.Common.{rules, ◌≡◌, Err}
use Rattle.vf_resolved_bodies.proofs.Steps.{invariant_fails, invariant_known}
use Rattle.vf_resolved_bodies.proofs.invariants.invariant_known.Goals as goal

pub returns-in_err-assertion_given : goal.returns-in_err-assertion_given
returns-in_err-assertion_given c =
    let e : c.from_residual.result ≡ Err c.in_err-assertion_given.field-0.0 = search rules in
    invariant_fails _ c.requires c.new-unknowns.ensures c.in_err-assertion_given.ensures e

pub returns : goal.returns
returns c = invariant_known c.requires c.len-count.ensures c.new-unknowns.ensures c.in_ok-assertion_given.ensures c.leave.ensures
