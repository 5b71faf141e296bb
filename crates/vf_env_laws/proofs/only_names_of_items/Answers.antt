use Rattle.vf_env_laws.proofs.Laws.{only_names_of_items}
use Rattle.vf_env_laws.proofs.only_names_of_items.Goals as goal

pub returns : goal.returns
returns c = only_names_of_items
