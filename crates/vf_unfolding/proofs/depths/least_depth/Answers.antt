use Rattle.std.proofs.Common.{arith}
use Rattle.vf_unfolding.proofs.Leasts.{least_small}
use Rattle.vf_unfolding.proofs.depths.least_depth.Goals as goal

pub loop-unfolding-init : goal.loop-unfolding-init
loop-unfolding-init c = record { small = omega arith; rest = let l = least_small c.args.made.now c.args.term.now in omega (arith, l) }
