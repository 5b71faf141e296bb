use Rattle.std.proofs.Common.{rules, ◌≡◌, Err}
use Rattle.vf_resolved_bodies.proofs.Steps.{invariant_stops, invariant_told}
use Rattle.vf_resolved_bodies.proofs.invariants.invariant_told.Goals as goal

pub returns-in_err-unknowns : goal.returns-in_err-unknowns
returns-in_err-unknowns c =
    let e : c.from_residual.result ≡ Err c.in_err-unknowns.field-0.0 = search rules in
    invariant_stops _ c.in_err-unknowns.ensures e

pub returns : goal.returns
returns c = invariant_told c.around_invariant-context.ensures c.in_ok-unknowns.ensures c.in_ok-read.ensures
