use Rattle.vf_env_laws.proofs.Laws.{each_name_has_trees}
use Rattle.vf_env_laws.proofs.each_name_has_trees.Goals as goal

pub returns : goal.returns
returns c = each_name_has_trees
