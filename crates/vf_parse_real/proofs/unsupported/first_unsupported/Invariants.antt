use Rattle.std.proofs.Common.{◌≡◌, length}
use Rattle.vf_parse_real.specs.Unsupported.{first_unsupported}
use Rattle.vf_parse_real.proofs.unsupported.first_unsupported.Given as goal

abbrev pub invariant-loop-left : goal.invariant-loop-left
invariant-loop-left l = first_unsupported l.left ≡ first_unsupported l.tokens

abbrev pub decreases-loop-left : goal.decreases-loop-left
decreases-loop-left l = length l.left
