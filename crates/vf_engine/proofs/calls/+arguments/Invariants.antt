use Rattle.std.proofs.Common.{length}
use Rattle.vf_engine.proofs.calls.+arguments.Given as goal

-- the list of arguments gets shorter
abbrev pub decreases-arguments : goal.decreases-arguments
decreases-arguments l = length l.expressions.now
