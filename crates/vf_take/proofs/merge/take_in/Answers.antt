-- The merged chunk can be compared.
use Rattle.vf_take.proofs.Compared.{merged_compared}
use Rattle.vf_take.proofs.merge.take_in.Goals as goal

pub returns-clause-chunk : goal.returns-clause-chunk
returns-clause-chunk g c = merged_compared c.args.places.statement c.args.older.now c.args.younger.now c.in_ok-chunk.chunk c.in_ok-chunk.ensures c.requires.older c.requires.younger
