use Rattle.std.proofs.Common.{◌≤◌}
use Rattle.vf_engine.specs.Shelves.{block_on}
use Rattle.vf_engine.specs.Taken.{AreTaken}
use Rattle.vf_engine.proofs.blocks.Blocks.free_in.Given as goal

-- each number before this one is some block's
abbrev pub invariant-loop-number : goal.invariant-loop-number
invariant-loop-number l = record { from_one : 1 ≤ l.number; taken : AreTaken (block_on l.self.shelf) l.number }
