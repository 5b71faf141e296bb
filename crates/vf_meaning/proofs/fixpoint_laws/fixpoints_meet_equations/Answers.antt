use Rattle.vf_meaning.proofs.Structural.{fixpoints_meet_equations}
use Rattle.vf_meaning.proofs.fixpoint_laws.fixpoints_meet_equations.Goals as goal

pub returns : goal.returns
returns c = fixpoints_meet_equations
