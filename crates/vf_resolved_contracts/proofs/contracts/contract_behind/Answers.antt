use Rattle.std.proofs.Common.{ap}
use Rattle.vf_closure.specs.Terms.{Term}
use Rattle.vf_resolving.specs.Standings.{around_of}
use Rattle.vf_resolved_contracts.proofs.Steps.{around_from, contract_behind}
use Rattle.vf_resolved_contracts.proofs.contracts.contract_behind.Goals as goal

pub returns : goal.returns
returns c =
    let a = around_of c.args.before.now in
    let r = c.result_symbol-result in
    contract_behind c.conditions_read.result a (around_from c.args.after.now a.known a.paths r.result a.this_value a.thread) c.args.after.now c.args.contract.now c.args.scope
    (ap (λ (x : Term). around_from c.args.after.now a.known a.paths x a.this_value a.thread) r.ensures) c.conditions_read.ensures
