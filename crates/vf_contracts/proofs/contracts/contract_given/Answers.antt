use Rattle.std.proofs.Common.{rules, ◌≡◌, Err}
use Rattle.vf_contracts.proofs.Steps.{postcondition_fails}
use Rattle.vf_contracts.proofs.contracts.contract_given.Goals as goal

pub returns-in_err-assertion_given-2 : goal.returns-in_err-assertion_given-2
returns-in_err-assertion_given-2 c =
    let e : c.from_residual-in_err-assertion_given-2.result ≡ Err c.in_err-assertion_given-2.field-0.0 = search rules in
    postcondition_fails _ c.new-unknowns.ensures c.in_ok-assertion_given.ensures c.in_err-assertion_given-2.ensures e
