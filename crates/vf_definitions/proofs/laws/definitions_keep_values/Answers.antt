use Rattle.vf_definitions.proofs.Soundness.{definitions_kept}
use Rattle.vf_definitions.proofs.laws.definitions_keep_values.Goals as goal

pub returns : goal.returns
returns c = definitions_kept
