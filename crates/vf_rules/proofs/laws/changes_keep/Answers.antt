use Rattle.vf_rules.proofs.Told.{changes_keep}
use Rattle.vf_rules.proofs.laws.changes_keep.Goals as goal

pub returns : goal.returns
returns c = changes_keep
