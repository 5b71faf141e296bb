use Rattle.vf_refute.specs.declared.steps.Derived.TheVariants.{AreEqual}
use Rattle.vf_log.proofs.Continued.{added_has, added_continues, continued_more}
use Rattle.vf_congruence.proofs.explaining.derive_labels.Goals as goal

pub transitive-requires : goal.transitive-requires
transitive-requires c =
    let r = c.requires in
    let h = c.in_ok-from_one.ensures.added r.0 r.2 r.4 in
    record { equal = (r.2, r.0, r.1, added_has h, (added_continues h).kept c.args.equal (AreEqual r.0 r.1) r.5) }

pub transitive-requires-2 : goal.transitive-requires-2
transitive-requires-2 c =
    let r = c.requires in
    let h = c.in_ok-from_one.ensures.added r.0 r.2 r.4 in
    let k = c.in_ok-across.ensures.added r.2 r.0 r.1 (added_has h) ((added_continues h).kept c.args.equal (AreEqual r.0 r.1) r.5) in
    let both = continued_more (added_continues h) (added_continues k) in
    record { equal = (r.2, r.1, r.3, added_has k, both.kept c.args.to_other (AreEqual r.1 r.3) r.6) }

pub returns-clause-derived : goal.returns-clause-derived
returns-clause-derived c = λ a b one other p q r.
    let h = c.in_ok-from_one.ensures.added a one p in
    let k = c.in_ok-across.ensures.added one a b (added_has h) ((added_continues h).kept c.args.equal (AreEqual a b) q) in
    let both = continued_more (added_continues h) (added_continues k) in
    added_has (c.in_ok-step.ensures.added one b other (added_has k) (both.kept c.args.to_other (AreEqual b other) r))

pub returns-clause-continued : goal.returns-clause-continued
returns-clause-continued c =
    let r = c.requires in
    let h = c.in_ok-from_one.ensures.added r.0 r.2 r.4 in
    let k = c.in_ok-across.ensures.added r.2 r.0 r.1 (added_has h) ((added_continues h).kept c.args.equal (AreEqual r.0 r.1) r.5) in
    let both = continued_more (added_continues h) (added_continues k) in
    continued_more both (added_continues (c.in_ok-step.ensures.added r.2 r.1 r.3 (added_has k) (both.kept c.args.to_other (AreEqual r.1 r.3) r.6)))
