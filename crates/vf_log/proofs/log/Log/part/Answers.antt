use Rattle.std.proofs.lemmas.Result.{IfOk-weaker}
use Rattle.vf_refute.specs.declared.steps.Derived.TheVariants.{AreEqual}
use Rattle.vf_log.proofs.log.Log.part.Goals as goal

pub returns-clause-added : goal.returns-clause-added
returns-clause-added c = IfOk-weaker c.add.result _ _ (λ s h p q k. h (AreEqual p q) k) c.add.ensures.added
