use Rattle.std.proofs.Common.{◌∙◌, ap, slice_get}
use Rattle.vf_explain.proofs.Reaching.{first_reached}
use Rattle.vf_explain.proofs.bound.go_over.Goals as goal

pub reach-requires-clause-reached : goal.reach-requires-clause-reached
reach-requires-clause-reached c = first_reached c.args.log.now.known c.args.bounds.now.edges c.args.first c.args.reason c.deref_mut.result.now c.in_ok-steps.steps.items c.requires.fine c.requires.reason c.deref_mut.ensures.value c.in_ok-steps.ensures.others

pub reach-requires-clause-begun : goal.reach-requires-clause-begun
reach-requires-clause-begun c = (c.args.reason, ap (λ os. slice_get os c.args.first.to) c.deref_mut.ensures.value ∙ c.in_ok-steps.ensures.first)
