use Rattle.std.proofs.Common.{arith}
use Rattle.vf_formula.proofs.Merging.{all_rows}
use Rattle.vf_formula.proofs.linear.terms.Goals as goal

pub returns : goal.returns
returns c = all_rows c.loop-weighted.all c.loop-weighted.weighted-index c.args.atoms.now (omega arith) c.loop-weighted.invariant
