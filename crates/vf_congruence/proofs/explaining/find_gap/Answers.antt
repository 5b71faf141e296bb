use Rattle.std.proofs.Common.{ℕ, ◌<◌, length, below_more}
use Rattle.vf_congruence.specs.Meeting.{IsSettledAt}
use Rattle.vf_congruence.proofs.explaining.find_gap.Goals as goal

pub loop-a-preserved : goal.loop-a-preserved
loop-a-preserved c = λ k b l m. below_more (λ z. (y : ℕ) → y < length c.args.labels.now → IsSettledAt c.args.nodes.now c.args.labels.now z y) c.loop-a.a (λ z h y i. c.loop-a.invariant z y h i) c.in-None.ensures k l b m
