use Rattle.std.proofs.Common.{◌≡◌, true, Err, rules}
use Rattle.vf_walk.proofs.Steps.{next_of}
use Rattle.vf_lemma_items.proofs.Steps.{head_stops}
use Rattle.vf_lemma_items.proofs.lemmas.declare_lemma.Goals as goal

pub returns-in_err-head : goal.returns-in_err-head
returns-in_err-head c =
    let is : c.from_residual.result ≡ Err c.in_err-head.field-0.0 = search rules in
    head_stops c.args.scope.now _ true c.args.name.now c.args.types.now c.in_err-head.field-0.0 _ c.in_err-head.ensures is

pub returns : goal.returns
returns c = next_of c.in_ok-head.ensures c.declare_definition.ensures
