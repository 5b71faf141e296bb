use Rattle.std.specs.Prelude.{◌+ℤ◌}
use Rattle.std.proofs.Common.{refl}
use Rattle.std.proofs.lemmas.Result.{IfOk-weaker}
use Rattle.vf_refute.specs.declared.steps.Derived.TheVariants.{AreWithin}
use Rattle.vf_log.proofs.log.Log.chain.Goals as goal

pub add-requires : goal.add-requires
add-requires c = record { derives = (AreWithin c.requires.bounds.0 c.requires.bounds.2 (c.requires.bounds.3 +ℤ c.requires.bounds.4), record { x = c.requires.bounds.0; y = c.requires.bounds.1; z = c.requires.bounds.2; c = c.requires.bounds.3; e = c.requires.bounds.4; first = c.requires.bounds.5; second = c.requires.bounds.6; is = refl }, c.requires.bounds.7) }

pub returns-clause-added : goal.returns-clause-added
returns-clause-added c = IfOk-weaker c.add.result _ _ (λ s h x y z u v k l. h (AreWithin x z (u +ℤ v)) (record { x = x; y = y; z = z; c = u; e = v; first = k; second = l; is = refl })) c.add.ensures.added
