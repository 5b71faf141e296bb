use Rattle.std.proofs.Common.{subst, slice_index}
use Rattle.vf_refute.specs.declared.steps.Derived.TheVariants.{AreEqual}
use Rattle.vf_refute.specs.Refutations.{HasDerived}
use Rattle.vf_log.proofs.Continued.{added_has, added_continues, continued_more}
use Rattle.vf_congruence.proofs.explaining.derive_equal.Goals as goal

pub transitive-requires : goal.transitive-requires
transitive-requires c =
    let a = c.args.a in let b = c.args.b in let labels = c.args.labels.now in let steps = c.args.steps.now in
    let h = c.in_ok-back.ensures.added b (slice_index labels b) (c.requires.explained.each b c.requires.right) in
    record {
      equal = (
        a,
        slice_index labels b,
        b,
        subst (λ z. HasDerived c.symmetric.new.self.known (slice_index steps a) (AreEqual a z)) c.requires.one ((added_continues h).kept (slice_index steps a) (AreEqual a (slice_index labels a)) (c.requires.explained.each a c.requires.left)),
        added_has h,
      );
    }

pub returns-clause-derived : goal.returns-clause-derived
returns-clause-derived c =
    let a = c.args.a in let b = c.args.b in let labels = c.args.labels.now in let steps = c.args.steps.now in
    let h = c.in_ok-back.ensures.added b (slice_index labels b) (c.requires.explained.each b c.requires.right) in
    added_has (c.in_ok-step.ensures.added a (slice_index labels b) b
    (subst (λ z. HasDerived c.symmetric.new.self.known (slice_index steps a) (AreEqual a z)) c.requires.one ((added_continues h).kept (slice_index steps a) (AreEqual a (slice_index labels a)) (c.requires.explained.each a c.requires.left)))
    (added_has h))

pub returns-clause-continued : goal.returns-clause-continued
returns-clause-continued c =
    let a = c.args.a in let b = c.args.b in let labels = c.args.labels.now in let steps = c.args.steps.now in
    let h = c.in_ok-back.ensures.added b (slice_index labels b) (c.requires.explained.each b c.requires.right) in
    continued_more (added_continues h) (added_continues (c.in_ok-step.ensures.added a (slice_index labels b) b
    (subst (λ z. HasDerived c.symmetric.new.self.known (slice_index steps a) (AreEqual a z)) c.requires.one ((added_continues h).kept (slice_index steps a) (AreEqual a (slice_index labels a)) (c.requires.explained.each a c.requires.left)))
    (added_has h)))
