use Rattle.vf_resolved_laws.proofs.Reading.{expressions_keep_sorts}
use Rattle.vf_resolved_laws.proofs.expressions_keep_sorts.Goals as goal

pub returns : goal.returns
returns c = expressions_keep_sorts
