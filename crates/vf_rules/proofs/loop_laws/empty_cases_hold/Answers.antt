use Rattle.vf_rules.proofs.Cases.{empty_cases_hold}
use Rattle.vf_rules.proofs.loop_laws.empty_cases_hold.Goals as goal

pub returns : goal.returns
returns c = empty_cases_hold
