use Rattle.std.proofs.Common.{List, sym, subst}
use Rattle.vf_refute.specs.declared.steps.Derived.{Derived}
use Rattle.vf_refute.specs.declared.steps.Derived.TheVariants.{AreEqual}
use Rattle.vf_refute.specs.Refutations.{HasDerived}
use Rattle.vf_reasons.specs.Drafts.{by_denial, without}
use Rattle.vf_reasons.proofs.equalities.found_by.Goals as goal

pub returns-in-Some : goal.returns-in-Some
returns-in-Some c = let h = c.in-Some.ensures in by_denial h.0 (subst (λ (ks : List Derived). HasDerived ks c.in-Some.step (AreEqual c.args.x c.args.y)) c.deref.ensures.value h.1)

pub returns-in-None : goal.returns-in-None
returns-in-None c = without (λ a e h. c.in-None.ensures a e (subst (λ (ks : List Derived). HasDerived ks a (AreEqual c.args.x c.args.y)) (sym c.deref.ensures.value) h))
