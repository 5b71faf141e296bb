use Rattle.std.proofs.Common.{refl}
use Rattle.std.proofs.lemmas.Result.{IfOk-weaker}
use Rattle.vf_refute.specs.declared.steps.Derived.TheVariants.{AreEqual}
use Rattle.vf_log.proofs.log.Log.symmetric.Goals as goal

pub add-requires : goal.add-requires
add-requires c = record { derives = (AreEqual c.requires.equal.1 c.requires.equal.0, record { left = c.requires.equal.0; right = c.requires.equal.1; equal = c.requires.equal.2; is = refl }, tt) }

pub returns-clause-added : goal.returns-clause-added
returns-clause-added c = IfOk-weaker c.add.result _ _ (λ s h x y k. h (AreEqual y x) (record { left = x; right = y; equal = k; is = refl })) c.add.ensures.added
