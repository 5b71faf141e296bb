use Rattle.std.proofs.Common.{rules, ◌≡◌, ◌+◌, ◌++◌, ◌∷◌, [], length}
use Rattle.vf_unfolding.proofs.Numbers.{depth_more}
use Rattle.vf_unfolding.proofs.depths.depths.Goals as goal

pub loop-i-preserved : goal.loop-i-preserved
loop-i-preserved c =
    let pushed : c.push.new.self.items ≡ c.loop-i.depths.items ++ c.depth_at.result ∷ [] = search rules in
    let long : length c.push.new.self.items ≡ c.loop-i.i + 1 = search rules in
    record {
      long = long;
      each = depth_more c.args.asked.now c.args.made.now c.args.terms.now c.loop-i.depths.items c.push.new.self.items c.loop-i.i c.depth_at.result pushed c.loop-i.invariant.long c.loop-i.invariant.each c.depth_at.ensures;
    }
