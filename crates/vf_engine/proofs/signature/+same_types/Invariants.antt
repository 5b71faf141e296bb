use Rattle.std.proofs.Common.{length}
use Rattle.vf_engine.proofs.signature.+same_types.Given as goal

-- the first list gets shorter
abbrev pub decreases-same_types : goal.decreases-same_types
decreases-same_types l = length l.first.now
