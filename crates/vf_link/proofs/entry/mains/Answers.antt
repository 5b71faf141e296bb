use Rattle.vf_link.proofs.Mains.{mains_more}
use Rattle.vf_link.proofs.entry.mains.Goals as goal

pub loop-at-preserved : goal.loop-at-preserved
loop-at-preserved c =
    let e = c.in_ok-push_mains.ensures in
    record {
      count = mains_more c.args.manifests.now c.loop-at.at _ _ c.loop-at-test.true c.loop-at.invariant.count e.count;
      each = e.each c.loop-at.invariant.each;
    }
