use Rattle.std.proofs.Common.{arith}
use Rattle.vf_engine.specs.Shelves.{block_on}
use Rattle.vf_engine.proofs.Shelves.{none_on}
use Rattle.vf_engine.proofs.Counts.{counted_none}
use Rattle.vf_engine.proofs.blocks.Blocks.new.Goals as goal

pub invariant_of-result : goal.invariant_of-result
invariant_of-result c = record {
  counted = let few = none_on c.new.result c.new.ensures.low c.new.ensures.beyond in omega (arith, few);
  grouped = counted_none (block_on c.new.result) c.new-2.result.counts.items c.new-2.ensures;
  from_one = omega arith;
  taken = λ k low high. absurd (omega (arith, low, high));
}
