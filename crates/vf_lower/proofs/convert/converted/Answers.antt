use Rattle.std.proofs.Common.{rules}
use Rattle.vf_steps.specs.Shown.{value_of}
use Rattle.vf_lower.proofs.Parts.{does_give}
use Rattle.vf_lower.proofs.convert.converted.Goals as goal

pub returns-else-is_bool-2 : goal.returns-else-is_bool-2
returns-else-is_bool-2 c = does_give value_of _ _ _ _ (search rules) c.widened.ensures
