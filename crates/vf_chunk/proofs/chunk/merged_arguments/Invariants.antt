use Rattle.std.proofs.Common.{◌≡◌, ◌++◌, drop}
use Rattle.vf_chunk.specs.Chunks.{merged_arguments}
use Rattle.vf_chunk.proofs.chunk.merged_arguments.Given as goal

abbrev pub invariant-loop-index : goal.invariant-loop-index
invariant-loop-index l = l.all ++ merged_arguments (drop l.index l.older) (drop l.index l.younger) ≡ merged_arguments l.older l.younger
