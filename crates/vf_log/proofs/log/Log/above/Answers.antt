use Rattle.std.proofs.Common.{refl}
use Rattle.std.proofs.lemmas.Result.{IfOk-weaker}
use Rattle.vf_refute.specs.declared.steps.Derived.TheVariants.{AreWithin}
use Rattle.vf_log.proofs.log.Log.above.Goals as goal

pub add-requires : goal.add-requires
add-requires c = record { derives = (AreWithin c.args.a c.requires.offset.0 c.requires.offset.1, record { other = c.requires.offset.0; by = c.requires.offset.1; offset = c.requires.offset.2; is = refl }, c.requires.offset.3) }

pub returns-clause-added : goal.returns-clause-added
returns-clause-added c = IfOk-weaker c.add.result _ _ (λ s h q e k. h (AreWithin c.args.a q e) (record { other = q; by = e; offset = k; is = refl })) c.add.ensures.added
