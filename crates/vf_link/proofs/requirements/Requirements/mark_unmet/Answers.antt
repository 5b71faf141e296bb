use Rattle.std.proofs.Common.{◌<◌, length, arith}
use Rattle.vf_link.proofs.Marking.{unmet_more}
use Rattle.vf_link.proofs.requirements.Requirements.mark_unmet.Goals as goal

pub loop-at-preserved : goal.loop-at-preserved
loop-at-preserved c =
    let r = c.args.self.now in
    let within : c.loop-at.at < length r.firsts.items = omega (arith, r.firsts.ok.0) in
    unmet_more r.provided r.statements.subjects r.firsts.items c.loop-at.marks.items c.push.new.self.items c.loop-at.at c.index.result.now c.requires within c.index.ensures c.loop-at.invariant c.in_ok-push.ensures.items
