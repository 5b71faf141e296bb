use Rattle.vf_fixpoint_laws.proofs.met.Accepted.{read_units_are_met}
use Rattle.vf_fixpoint_laws.proofs.met.laws.read_units_are_met.Goals as goal

pub returns : goal.returns
returns c = read_units_are_met
