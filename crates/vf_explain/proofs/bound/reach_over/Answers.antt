use Rattle.std.proofs.Common.{arith, subst}
use Rattle.std.specs.Prelude.{ℤ, ◌+ℤ◌}
use Rattle.vf_refute.specs.declared.steps.Derived.TheVariants.{AreWithin}
use Rattle.vf_refute.specs.Refutations.{HasDerived}
use Rattle.vf_arith.specs.Paths.{IsLeast}
use Rattle.vf_log.proofs.Continued.{added_has, added_continues}
use Rattle.vf_explain.proofs.Reaching.{least_one, within, regrouped, reached_more, stayed_more, missing_falls}
use Rattle.vf_explain.proofs.bound.reach_over.Goals as goal

pub chain-requires : goal.chain-requires
chain-requires c =
    let l = c.in-Some.ensures in
    let b = c.requires.reached c.args.edge.from c.in-Some.step l.reached in
    record {
      bounds = (
        c.args.first.from,
        c.args.edge.from,
        c.args.edge.to,
        c.args.first.most +ℤ l.leads.before,
        c.args.edge.most,
        subst (λ (z : ℤ). HasDerived c.args.log.now.known c.in-Some.step (AreWithin c.args.first.from c.args.edge.from (c.args.first.most +ℤ z))) (least_one b.least l.leads.to_it) b.derived,
        c.requires.reason,
        within c.args.first.most l.leads.before c.args.edge.most c.requires.first l.small,
      );
    }

pub returns-in_ok-chain-in-Some-clause-continued : goal.returns-in_ok-chain-in-Some-clause-continued
returns-in_ok-chain-in-Some-clause-continued c =
    let l = c.in-Some.ensures in
    let b = c.requires.reached c.args.edge.from c.in-Some.step l.reached in
    added_continues (c.in_ok-chain-in-Some.ensures.added c.args.first.from c.args.edge.from c.args.edge.to (c.args.first.most +ℤ b.rest) c.args.edge.most b.derived c.requires.reason)

pub returns-in_ok-chain-in-Some-clause-reached : goal.returns-in_ok-chain-in-Some-clause-reached
returns-in_ok-chain-in-Some-clause-reached c =
    let l = c.in-Some.ensures in
    let b = c.requires.reached c.args.edge.from c.in-Some.step l.reached in
    let added = c.in_ok-chain-in-Some.ensures.added c.args.first.from c.args.edge.from c.args.edge.to (c.args.first.most +ℤ b.rest) c.args.edge.most b.derived c.requires.reason in
    reached_more c.args.log.now.known c.chain.new.self.known c.args.bounds.now.edges c.args.first c.args.steps.now c.args.edge.to c.in_ok-chain-in-Some.field-0 ((added_continues added).kept) c.requires.reached
    (record {
      rest = b.rest +ℤ c.args.edge.most;
      least = subst (λ (z : ℤ). IsLeast c.args.bounds.now.edges c.args.first.to c.args.edge.to (z +ℤ c.args.edge.most)) (least_one l.leads.to_it b.least) l.leads.behind;
      derived = subst (λ (z : ℤ). HasDerived c.chain.new.self.known c.in_ok-chain-in-Some.field-0 (AreWithin c.args.first.from c.args.edge.to z)) (regrouped c.args.first.most b.rest c.args.edge.most) (added_has added);
    })
    (let h = c.requires.to in let k = c.requires.long in omega (arith, h, k))

pub returns-in_ok-chain-in-Some-clause-stays : goal.returns-in_ok-chain-in-Some-clause-stays
returns-in_ok-chain-in-Some-clause-stays c = stayed_more c.args.steps.now c.args.edge.to c.in_ok-chain-in-Some.field-0 c.in-Some.ensures.missing

pub returns-in_ok-chain-in-Some-clause-told : goal.returns-in_ok-chain-in-Some-clause-told
returns-in_ok-chain-in-Some-clause-told c = missing_falls c.args.steps.now c.args.edge.to c.in_ok-chain-in-Some.field-0 c.in-Some.ensures.missing
