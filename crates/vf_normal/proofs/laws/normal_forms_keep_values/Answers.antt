use Rattle.vf_normal.proofs.Kept.{normal_forms_kept}
use Rattle.vf_normal.proofs.laws.normal_forms_keep_values.Goals as goal

pub returns : goal.returns
returns c = normal_forms_kept
