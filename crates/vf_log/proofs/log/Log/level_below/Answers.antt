use Rattle.std.specs.Prelude.{neg_ℤ}
use Rattle.std.proofs.Common.{refl}
use Rattle.std.proofs.lemmas.Result.{IfOk-weaker}
use Rattle.vf_refute.specs.declared.steps.Derived.TheVariants.{AreWithin}
use Rattle.vf_log.proofs.log.Log.level_below.Goals as goal

pub add-requires : goal.add-requires
add-requires c = record { derives = (AreWithin c.requires.level.1 c.requires.level.0 (neg_ℤ c.requires.level.2), record { x = c.requires.level.0; y = c.requires.level.1; by = c.requires.level.2; level = c.requires.level.3; is = refl }, c.requires.level.4) }

pub returns-clause-added : goal.returns-clause-added
returns-clause-added c = IfOk-weaker c.add.result _ _ (λ s h x y e k. h (AreWithin y x (neg_ℤ e)) (record { x = x; y = y; by = e; level = k; is = refl })) c.add.ensures.added
