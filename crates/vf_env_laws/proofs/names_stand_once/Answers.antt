use Rattle.vf_env_laws.proofs.Laws.{names_stand_once}
use Rattle.vf_env_laws.proofs.names_stand_once.Goals as goal

pub returns : goal.returns
returns c = names_stand_once
