use Rattle.vf_steps.specs.Shown.{value_of}
use Rattle.vf_lower.proofs.Parts.{does_then}
use Rattle.vf_lower.proofs.operand.left_passed.Goals as goal

pub returns : goal.returns
returns c = does_then value_of _ _ _ _ _ _ _ c.in_ok-value.ensures c.adapted.ensures
