use Rattle.vf_env_laws.proofs.Laws.{names_are_declared}
use Rattle.vf_env_laws.proofs.names_are_declared.Goals as goal

pub returns : goal.returns
returns c = names_are_declared
