use Rattle.std.proofs.Common.{rules}
use Rattle.vf_lower.proofs.Parts.{did_given}
use Rattle.vf_lower.proofs.convert.adapted.Goals as goal

pub returns-in-Integer-default : goal.returns-in-Integer-default
returns-in-Integer-default c = did_given _ _ _ (search rules)

pub returns-then-kind : goal.returns-then-kind
returns-then-kind c = did_given _ _ _ (search rules)

pub returns-else-kind : goal.returns-else-kind
returns-else-kind c = did_given _ _ _ (search rules)
