use Rattle.std.proofs.Common.{refl}
use Rattle.std.proofs.lemmas.Result.{IfOk-weaker}
use Rattle.vf_refute.specs.declared.steps.Derived.TheVariants.{AreEqual}
use Rattle.vf_log.proofs.log.Log.transitive.Goals as goal

pub add-requires : goal.add-requires
add-requires c = record { derives = (AreEqual c.requires.equal.0 c.requires.equal.2, record { left = c.requires.equal.0; middle = c.requires.equal.1; right = c.requires.equal.2; first = c.requires.equal.3; second = c.requires.equal.4; is = refl }, tt) }

pub returns-clause-added : goal.returns-clause-added
returns-clause-added c = IfOk-weaker c.add.result _ _ (λ s h x y z k l. h (AreEqual x z) (record { left = x; middle = y; right = z; first = k; second = l; is = refl })) c.add.ensures.added
