use Rattle.std.proofs.Common.{◌≡◌, Err, rules}
use Rattle.vf_syntax.specs.AssertionTree.{part_list}
use Rattle.vf_predicates.proofs.Wholes.{constructor_stops}
use Rattle.vf_predicates.proofs.predicates.declare_constructor_body.Goals as goal

pub returns-in_err-declare_predicate_constructor : goal.returns-in_err-declare_predicate_constructor
returns-in_err-declare_predicate_constructor c =
    let e : c.from_residual.result ≡ Err c.in_err-declare_predicate_constructor.field-0.0 = search rules in
    constructor_stops c.args.name.now c.args.first.now c.args.second.now (part_list c.args.body.now) c.args.scope.now c.declare_predicate_constructor.new.scope _ c.in_err-declare_predicate_constructor.field-0.0 _ c.in_err-declare_predicate_constructor.ensures e
