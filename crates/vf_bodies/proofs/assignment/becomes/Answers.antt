use Rattle.std.proofs.Common.{rules}
use Rattle.vf_lower.proofs.Parts.{did_given}
use Rattle.vf_bodies.proofs.assignment.becomes.Goals as goal

pub returns : goal.returns
returns c = did_given _ _ _ (search rules)
