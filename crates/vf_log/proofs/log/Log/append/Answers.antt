use Rattle.std.proofs.Common.{[]}
use Rattle.vf_log.proofs.Continued.{derived_more}
use Rattle.vf_log.proofs.log.Log.append.Goals as goal

pub invariant_of-self-in-Ok : goal.invariant_of-self-in-Ok
invariant_of-self-in-Ok c = rw (c.in_ok-push.ensures.items, c.in-Ok.ensures.items)
    (derived_more c.self.inside.nodes.items c.self.inside.facts.items c.self.inside.steps.items [] c.self.inside.known.items c.args.step c.args.derived c.self.invariant
    (rw (← c.self.view_is) at c.requires.derives) c.requires.small)
