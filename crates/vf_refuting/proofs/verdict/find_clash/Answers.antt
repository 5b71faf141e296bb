use Rattle.std.proofs.Common.{below_more}
use Rattle.vf_ground.specs.Held.{Clash}
use Rattle.vf_refuting.proofs.verdict.find_clash.Goals as goal

pub loop-x-preserved : goal.loop-x-preserved
loop-x-preserved c = λ j k l m. below_more (λ i. Clash c.args.classes.now.nodes c.args.classes.now.merged i k → ⊥) c.loop-x.x (λ i h. c.loop-x.invariant i k h m) (c.in_default.ensures k m) j l
