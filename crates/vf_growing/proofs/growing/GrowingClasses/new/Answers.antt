use Rattle.vf_growing.proofs.Steps.{kept_none}
use Rattle.vf_growing.proofs.growing.GrowingClasses.new.Goals as goal

pub invariant_of-result : goal.invariant_of-result
invariant_of-result c = kept_none c.new-4.result.items c.new.result.items c.new-2.result.items c.new-3.result.items c.new-4.ensures.items c.new.ensures.items c.new-2.ensures.items c.new-3.ensures.items
