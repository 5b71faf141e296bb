use Rattle.std.proofs.Common.{rules}
use Rattle.vf_lower.proofs.Parts.{did_given}
use Rattle.vf_lower.proofs.convert.as_truth.Goals as goal

pub returns-in-Integer-Bool : goal.returns-in-Integer-Bool
returns-in-Integer-Bool c = did_given _ _ _ (search rules)
