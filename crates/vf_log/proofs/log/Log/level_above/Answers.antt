use Rattle.std.proofs.Common.{refl}
use Rattle.std.proofs.lemmas.Result.{IfOk-weaker}
use Rattle.vf_refute.specs.declared.steps.Derived.TheVariants.{AreWithin}
use Rattle.vf_log.proofs.log.Log.level_above.Goals as goal

pub add-requires : goal.add-requires
add-requires c = record { derives = (AreWithin c.requires.level.0 c.requires.level.1 c.requires.level.2, record { x = c.requires.level.0; y = c.requires.level.1; by = c.requires.level.2; level = c.requires.level.3; is = refl }, c.requires.level.4) }

pub returns-clause-added : goal.returns-clause-added
returns-clause-added c = IfOk-weaker c.add.result _ _ (λ s h x y e k. h (AreWithin x y e) (record { x = x; y = y; by = e; level = k; is = refl })) c.add.ensures.added
