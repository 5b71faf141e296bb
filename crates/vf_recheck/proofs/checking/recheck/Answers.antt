use Rattle.std.proofs.Common.{map}
use Rattle.vf_formula.specs.Literals.{shown_literal}
use Rattle.vf_recheck.proofs.Coming.{sound_of}
use Rattle.vf_recheck.proofs.checking.recheck.Goals as goal

pub returns-clause-sound : goal.returns-clause-sound
returns-clause-sound g c = sound_of (g.U.Unfolder.unfoldings c.args.unfolder.now) (map shown_literal c.args.literals.now) c.args.steps.now c.in_ok-question.question c.recheck_posed.result c.requires c.in_ok-question.ensures c.recheck_posed.ensures
