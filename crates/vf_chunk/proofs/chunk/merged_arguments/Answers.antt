use Rattle.vf_chunk.specs.Chunks.{merged_arguments}
use Rattle.vf_chunk.proofs.Merged.{merged_step}
use Rattle.vf_chunk.proofs.chunk.merged_arguments.Goals as goal

pub loop-index-preserved : goal.loop-index-preserved
loop-index-preserved c = merged_step c.args.older.now c.args.younger.now c.loop-index.all c.push.new.self (merged_arguments c.args.older.now c.args.younger.now) c.loop-index.index c.index-older-index.result _ c.loop-index-test.true c.index-older-index.is c.in_ok-merged_first.ensures c.in_ok-push.ensures.pushed c.loop-index.invariant
