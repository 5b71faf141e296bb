use Rattle.std.proofs.Common.{refl}
use Rattle.vf_resolved_meaning.proofs.laws.meant_in_examples.Goals as goal

pub returns : goal.returns
returns c = record {
  created = λ identity at. refl;
  disposed = λ identity at. refl;
  joined = λ identity at. refl;
  shared = λ at s q. refl;
}
