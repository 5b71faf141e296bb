use Rattle.vf_link.proofs.Marking.{others_more}
use Rattle.vf_link.proofs.requirements.mark_repeats.Goals as goal

pub loop-at-preserved : goal.loop-at-preserved
loop-at-preserved c = others_more c.args.firsts.now c.loop-at.marks.items c.push.new.self.items c.loop-at.at c.loop-at.invariant c.in_ok-push.ensures.items
