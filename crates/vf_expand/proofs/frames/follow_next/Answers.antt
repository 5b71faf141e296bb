use Rattle.vf_preproc.specs.Scopes.{scope_of}
use Rattle.vf_preproc.specs.Units.{unit_of}
use Rattle.vf_expand.proofs.Remembering.{keeps_all}
use Rattle.vf_expand.proofs.frames.follow_next.Goals as goal

pub returns-then-current-len-clause-keeps : goal.returns-then-current-len-clause-keeps
returns-then-current-len-clause-keeps c = keeps_all (unit_of c.args.unit.now) (scope_of c.args.current.now.scope)
