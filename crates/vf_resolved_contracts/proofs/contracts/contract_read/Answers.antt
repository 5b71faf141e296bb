use Rattle.vf_resolved_contracts.proofs.Steps.{around_from, contract_around, words_told}
use Rattle.vf_resolved_contracts.proofs.contracts.contract_read.Goals as goal

pub returns : goal.returns
returns c =
    let k = c.args.unknowns.now in
    let paths = c.args.paths.now in
    let r = c.result_symbol-result in
    let t = c.this_symbol-this_value in
    let h = c.thread_symbol-thread in
    contract_around c.contract_behind.result (around_from c.args.before.now k paths r.result t.result h.result) c.args.before.now c.args.after.now k paths c.args.contract.now c.args.scope
    (words_told c.args.before.now k paths r.result t.result h.result r.ensures t.ensures h.ensures) c.contract_behind.ensures
