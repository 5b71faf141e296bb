use Rattle.std.proofs.Common.{arith}
use Rattle.vf_formula.proofs.Splitting.{wide_at}
use Rattle.vf_formula.proofs.comparison.below.Goals as goal

pub put_below-requires : goal.put_below-requires
put_below-requires c = wide_at c.args.atoms.now c.loop-weighted.weighted-index c.weighted-item.result c.requires (omega arith) c.weighted-item.is
