use Rattle.std.proofs.Common.{arith}
use Rattle.vf_formula.proofs.Merging.{all_paired}
use Rattle.vf_formula.proofs.linear.paired.Goals as goal

pub returns : goal.returns
returns c = all_paired c.loop-i.all.items c.loop-i.i c.args.factors.now c.args.terms.now (omega arith) c.loop-i.invariant
