use Rattle.vf_resolved_laws.proofs.Binding.{patterns_keep_sorts}
use Rattle.vf_resolved_laws.proofs.patterns_keep_sorts.Goals as goal

pub returns : goal.returns
returns c = patterns_keep_sorts
