use Rattle.vf_combination.proofs.Onward.{bounds_join}
use Rattle.vf_combination.proofs.Marked.{near_join}
use Rattle.vf_combination.proofs.marking.both_marking.Goals as goal

pub returns-clause-on : goal.returns-clause-on
returns-clause-on c = bounds_join c.args.bounds.now c.bound_marking.new.bounds c.bound_marking-2.new.bounds c.in_ok-bound_marking.ensures.on c.in_ok-bound_marking-2.ensures.on

pub returns-clause-marked : goal.returns-clause-marked
returns-clause-marked c = near_join c.args.bounds.now c.args.marks.now c.bound_marking.new.bounds c.bound_marking.new.marks c.bound_marking-2.new.bounds c.bound_marking-2.new.marks c.in_ok-bound_marking.ensures.marked c.in_ok-bound_marking-2.ensures.marked
