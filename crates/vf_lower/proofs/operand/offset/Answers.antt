use Rattle.vf_lower.proofs.Parts.{did_give, did_then}
use Rattle.vf_lower.proofs.operand.offset.Goals as goal

pub returns : goal.returns
returns c = did_then _ _ _ _ _ _ _ c.in_ok-local.ensures (did_then _ _ _ _ _ _ _ c.in_ok-add.ensures (did_give _ _))
