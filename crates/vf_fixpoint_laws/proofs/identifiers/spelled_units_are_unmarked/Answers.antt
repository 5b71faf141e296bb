use Rattle.vf_fixpoint_laws.proofs.identifiers.Unmarked.{spelled_unmarked}
use Rattle.vf_fixpoint_laws.proofs.identifiers.spelled_units_are_unmarked.Goals as goal

pub returns : goal.returns
returns c = spelled_unmarked
