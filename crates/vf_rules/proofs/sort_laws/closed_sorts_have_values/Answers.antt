use Rattle.vf_rules.proofs.Inhabited.{closed_sorts_have_values}
use Rattle.vf_rules.proofs.sort_laws.closed_sorts_have_values.Goals as goal

pub returns : goal.returns
returns c = closed_sorts_have_values
