use Rattle.std.proofs.Common.{refl, arith, slice_index}
use Rattle.vf_refute.specs.declared.steps.Derived.TheVariants.{AreEqual}
use Rattle.vf_log.proofs.Continued.{added_has, added_continues, continued_more}
use Rattle.vf_congruence.proofs.Meeting.{renamed_falls}
use Rattle.vf_congruence.proofs.Explained.{explained_kept}
use Rattle.vf_congruence.proofs.explaining.join.Goals as goal

pub derive_labels-requires : goal.derive_labels-requires
derive_labels-requires c =
    let a = c.args.a in let b = c.args.b in let labels = c.args.labels.now in let steps = c.args.steps.now in
    let h = c.in_ok-back.ensures.added a b c.requires.step in (
      b,
      a,
      slice_index labels b,
      slice_index labels a,
      (added_continues h).kept (slice_index steps b) (AreEqual b (slice_index labels b)) (c.requires.explained.each b c.requires.right),
      added_has h,
      (added_continues h).kept (slice_index steps a) (AreEqual a (slice_index labels a)) (c.requires.explained.each a c.requires.left),
    )

pub relabel-requires-clause-step : goal.relabel-requires-clause-step
relabel-requires-clause-step c =
    let a = c.args.a in let b = c.args.b in let labels = c.args.labels.now in let steps = c.args.steps.now in
    let h = c.in_ok-back.ensures.added a b c.requires.step in
    c.in_ok-equal.ensures.derived b a (slice_index labels b) (slice_index labels a)
    ((added_continues h).kept (slice_index steps b) (AreEqual b (slice_index labels b)) (c.requires.explained.each b c.requires.right))
    (added_has h)
    ((added_continues h).kept (slice_index steps a) (AreEqual a (slice_index labels a)) (c.requires.explained.each a c.requires.left))

pub relabel-requires-clause-explained : goal.relabel-requires-clause-explained
relabel-requires-clause-explained c =
    explained_kept (continued_more (added_continues (c.in_ok-back.ensures.added c.args.a c.args.b c.requires.step)) c.in_ok-equal.ensures.continued) c.requires.explained

pub returns-in_ok-relabel-clause-continued : goal.returns-in_ok-relabel-clause-continued
returns-in_ok-relabel-clause-continued c =
    continued_more (continued_more (added_continues (c.in_ok-back.ensures.added c.args.a c.args.b c.requires.step)) c.in_ok-equal.ensures.continued) c.in_ok-relabel.ensures.continued

pub returns-in_ok-relabel-clause-falls : goal.returns-in_ok-relabel-clause-falls
returns-in_ok-relabel-clause-falls c =
    renamed_falls _ _ _ _ c.args.b c.relabel.auto.labels c.in_ok-relabel.ensures.moved c.in_ok-relabel.ensures.kept c.requires.right refl c.if-one-other.true

pub returns-in_ok-relabel-2-clause-falls : goal.returns-in_ok-relabel-2-clause-falls
returns-in_ok-relabel-2-clause-falls c =
    renamed_falls _ _ _ _ c.args.a c.relabel-else-one-other.auto.labels c.in_ok-relabel-2.ensures.moved c.in_ok-relabel-2.ensures.kept c.requires.left refl (omega (arith, c.requires.apart))
