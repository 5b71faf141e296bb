use Rattle.std.proofs.Common.{true, [], ◌∙◌}
use Rattle.vf_manifest.specs.declared.signature.Stage.TheVariants.{BeginsOrEnds}
use Rattle.vf_manifest.proofs.Trees.{sorts_run, all_ended}
use Rattle.vf_manifest.proofs.signature.trees_are_read.Goals as goal

pub returns : goal.returns
returns c = λ k ss good. sorts_run k ss good BeginsOrEnds true [] [] tt ∙ all_ended k
