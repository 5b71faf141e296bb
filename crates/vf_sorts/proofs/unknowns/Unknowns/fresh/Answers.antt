use Rattle.vf_sorts.proofs.Learning.{resolved_more}
use Rattle.vf_sorts.proofs.unknowns.Unknowns.fresh.Goals as goal

pub invariant_of-self-2 : goal.invariant_of-self-2
invariant_of-self-2 c = resolved_more c.self.inside.known.items c.push.new.self.items c.in_ok-push.ensures.items c.self.invariant
