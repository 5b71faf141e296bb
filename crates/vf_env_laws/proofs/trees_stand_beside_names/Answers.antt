use Rattle.vf_env_laws.proofs.Laws.{trees_stand_beside_names}
use Rattle.vf_env_laws.proofs.trees_stand_beside_names.Goals as goal

pub returns : goal.returns
returns c = trees_stand_beside_names
