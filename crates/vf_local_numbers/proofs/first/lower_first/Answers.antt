use Rattle.vf_lower.specs.Statements.{at}
use Rattle.vf_bodies.specs.Standing.{standing_of}
use Rattle.vf_bodies.proofs.Parts.{does_leave}
use Rattle.vf_local_numbers.proofs.first.lower_first.Goals as goal

pub returns-in-Simple : goal.returns-in-Simple
returns-in-Simple c = rw c.in-Simple.is (does_leave _ (at (standing_of c.args.around.now) c.args.place) _ _ _ (rw c.setting.ensures at c.lower_simple.ensures))
