use Rattle.std.proofs.Common.{rules, ◌≡◌, Err}
use Rattle.vf_resolved_contracts.proofs.Steps.{precondition_fails, postcondition_fails, contract_known}
use Rattle.vf_resolved_contracts.proofs.contracts.contract_known.Goals as goal

pub returns-in_err-assertion_given : goal.returns-in_err-assertion_given
returns-in_err-assertion_given c =
    let e : c.from_residual.result ≡ Err c.in_err-assertion_given.field-0.0 = search rules in
    precondition_fails _ c.new-unknowns.ensures c.in_err-assertion_given.ensures e

pub returns-in_err-assertion_given-2 : goal.returns-in_err-assertion_given-2
returns-in_err-assertion_given-2 c =
    let e : c.from_residual-in_err-assertion_given-2.result ≡ Err c.in_err-assertion_given-2.field-0.0 = search rules in
    postcondition_fails _ c.new-unknowns.ensures c.in_ok-assertion_given.ensures c.in_err-assertion_given-2.ensures e

pub returns : goal.returns
returns c = contract_known c.len-count.ensures c.new-unknowns.ensures c.in_ok-assertion_given.ensures c.in_ok-assertion_given-2.ensures c.leave.ensures
