use Rattle.std.proofs.Common.{refl}
use Rattle.vf_mentions.proofs.examples.mentioned_in_examples.Goals as goal

pub returns : goal.returns
returns c = record { initializers = refl; blocks = refl; loops = refl; lemma_calls = refl }
