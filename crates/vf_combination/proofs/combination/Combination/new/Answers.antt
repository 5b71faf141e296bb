use Rattle.vf_combination.proofs.Levels.{path_none}
use Rattle.vf_combination.proofs.combination.Combination.new.Goals as goal

pub invariant_of-result : goal.invariant_of-result
invariant_of-result c = path_none c.new-2.result c.in_ok-bounds.bounds c.new-3.result.items c.new-4.result.items c.new-2.ensures.nodes c.new-2.ensures.merged c.in_ok-bounds.ensures.0 c.in_ok-bounds.ensures.1 c.new-3.ensures.items c.new-4.ensures.items
