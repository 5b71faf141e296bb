use Rattle.std.proofs.Common.{[]}
use Rattle.vf_log.proofs.Continued.{refute_at_last}
use Rattle.vf_log.proofs.log.Log.refutation.Goals as goal

pub returns : goal.returns
returns c = rw (← c.self.view_is) (rw c.in_ok-push.ensures.items
    (refute_at_last c.self.inside.nodes.items c.self.inside.facts.items c.self.inside.steps.items [] c.self.inside.known.items c.args.last c.self.invariant
    (rw (← c.self.view_is) at c.requires.conflict)))
