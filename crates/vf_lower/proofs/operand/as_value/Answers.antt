use Rattle.std.proofs.Common.{rules}
use Rattle.vf_lower.proofs.Parts.{did_given}
use Rattle.vf_lower.proofs.operand.as_value.Goals as goal

pub returns-in-Is : goal.returns-in-Is
returns-in-Is c = did_given _ _ _ (search rules)

pub returns-in-Nothing : goal.returns-in-Nothing
returns-in-Nothing c = did_given _ _ _ (search rules)
