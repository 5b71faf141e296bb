use Rattle.vf_meaning.proofs.Ordered.{listed_fixpoints_meet_equations}
use Rattle.vf_meaning.proofs.fixpoint_laws.listed_fixpoints_meet_equations.Goals as goal

pub returns : goal.returns
returns c = listed_fixpoints_meet_equations
