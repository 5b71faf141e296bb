use Rattle.vf_lemmas.proofs.Calls.{calling_keeps}
use Rattle.vf_lemmas.proofs.laws.calling_keeps.Goals as goal

pub returns : goal.returns
returns c = calling_keeps
