use Rattle.std.proofs.Common.{rules}
use Rattle.vf_lower.proofs.Parts.{did_given, did_then}
use Rattle.vf_lower.proofs.operand.field.Goals as goal

pub returns : goal.returns
returns c = did_then _ _ _ _ _ _ _ c.in_ok-pointer.ensures (did_given _ _ _ (search rules))
