use Rattle.std.proofs.Common.{sym}
use Rattle.vf_local_numbers.specs.Counting.{counting_of}
use Rattle.vf_local_numbers.proofs.Lists.{parameters_more}
use Rattle.vf_local_numbers.proofs.function.count_list.Goals as goal

pub loop-at-preserved : goal.loop-at-preserved
loop-at-preserved c = parameters_more c.args.list.now c.loop-at.at c.in-Some.typed.now (counting_of c.loop-at.counting) (counting_of c.count_parameter.new.counting) _ (sym c.in-Some.ensures) c.in_ok-count_parameter.ensures c.loop-at.invariant
