use Rattle.std.proofs.Common.{refl}
use Rattle.vf_normal.proofs.examples.literals_in_examples.Goals as goal

pub returns : goal.returns
returns c = record { less = refl; greater = refl; at_most = refl; at_least = refl; equal = refl; not_equal = refl; farthest = refl; past = refl }
