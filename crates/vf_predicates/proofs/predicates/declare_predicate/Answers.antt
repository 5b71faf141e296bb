use Rattle.vf_predicates.proofs.Wholes.{predicate_comes}
use Rattle.vf_predicates.proofs.predicates.declare_predicate.Goals as goal

pub returns : goal.returns
returns c = predicate_comes c.args.name.now c.args.parameters.now c.args.scope.now c.declare_head.new.scope c.declare_ghost_prototype.new.self c.in_ok-locals.locals c.leave.new.self c.len-count.result c.number_at-number.result c.len-count.ensures c.number_at-number.ensures c.in_ok-declare_head.ensures c.in_ok-locals.ensures c.leave.ensures c.declare_ghost_prototype.ensures
