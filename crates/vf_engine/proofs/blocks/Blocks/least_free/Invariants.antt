use Rattle.std.proofs.Common.{◌*◌}
use Rattle.vf_engine.specs.Shelves.{block_on}
use Rattle.vf_engine.specs.Taken.{AreTaken}
use Rattle.vf_engine.proofs.blocks.Blocks.least_free.Given as goal

-- each number before this group is some block's
abbrev pub invariant-loop-group : goal.invariant-loop-group
invariant-loop-group l = AreTaken (block_on l.self.shelf) (512 * l.group)
