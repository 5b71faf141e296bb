use Rattle.std.specs.Prelude.{neg_ℤ}
use Rattle.std.proofs.Common.{refl}
use Rattle.std.proofs.lemmas.Result.{IfOk-weaker}
use Rattle.vf_refute.specs.declared.steps.Derived.TheVariants.{AreWithin}
use Rattle.vf_log.proofs.log.Log.below.Goals as goal

pub add-requires : goal.add-requires
add-requires c = record { derives = (AreWithin c.requires.offset.0 c.args.a (neg_ℤ c.requires.offset.1), record { other = c.requires.offset.0; by = c.requires.offset.1; offset = c.requires.offset.2; is = refl }, c.requires.offset.3) }

pub returns-clause-added : goal.returns-clause-added
returns-clause-added c = IfOk-weaker c.add.result _ _ (λ s h q e k. h (AreWithin q c.args.a (neg_ℤ e)) (record { other = q; by = e; offset = k; is = refl })) c.add.ensures.added
