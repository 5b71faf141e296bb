use Rattle.vf_rules.proofs.Loops.{entering_keeps}
use Rattle.vf_rules.proofs.loop_laws.entering_keeps.Goals as goal

pub returns : goal.returns
returns c = entering_keeps
