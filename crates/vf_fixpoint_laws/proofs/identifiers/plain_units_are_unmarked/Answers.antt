use Rattle.vf_fixpoint_laws.proofs.identifiers.Unmarked.{plain_unmarked}
use Rattle.vf_fixpoint_laws.proofs.identifiers.plain_units_are_unmarked.Goals as goal

pub returns : goal.returns
returns c = plain_unmarked
