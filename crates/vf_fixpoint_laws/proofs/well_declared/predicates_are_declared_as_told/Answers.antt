use Rattle.vf_fixpoint_laws.proofs.well_declared.UpTo.{predicates_are_declared_as_told}
use Rattle.vf_fixpoint_laws.proofs.well_declared.predicates_are_declared_as_told.Goals as goal

pub returns : goal.returns
returns c = predicates_are_declared_as_told
