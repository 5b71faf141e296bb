use Rattle.vf_resolved_contracts.proofs.Steps.{around_from, body_around, words_told}
use Rattle.vf_resolved_contracts.proofs.bodies.body_read.Goals as goal

pub returns : goal.returns
returns c =
    let r = c.result_symbol-result in
    let t = c.this_symbol-this_value in
    let h = c.thread_symbol-thread in
    body_around c.assertion_read.result (around_from c.args.context.now c.args.unknowns.now c.args.paths.now r.result t.result h.result) c.args.context.now c.args.unknowns.now c.args.paths.now c.args.body.now c.args.scope
    (words_told c.args.context.now c.args.unknowns.now c.args.paths.now r.result t.result h.result r.ensures t.ensures h.ensures) c.assertion_read.ensures
