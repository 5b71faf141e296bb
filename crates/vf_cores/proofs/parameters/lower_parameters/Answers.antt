use Rattle.vf_lower.proofs.Parts.{did_give}
use Rattle.vf_bodies.specs.Standing.{standing_of}
use Rattle.vf_cores.proofs.parameters.lower_parameters.Goals as goal

pub returns-in-Void : goal.returns-in-Void
returns-in-Void c = rw c.in-Void.is (did_give c.args.draft.now (standing_of c.args.around.now))
