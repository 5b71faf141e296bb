use Rattle.vf_fixpoint_laws.proofs.identifiers.Unmarked.{expanded_unmarked}
use Rattle.vf_fixpoint_laws.proofs.identifiers.expanded_units_are_unmarked.Goals as goal

pub returns : goal.returns
returns c = expanded_unmarked
