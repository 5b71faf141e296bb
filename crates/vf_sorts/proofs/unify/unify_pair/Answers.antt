use Rattle.std.proofs.Common.{ap, ◌∙◌}
use Rattle.vf_sorts.specs.Unknowns.{Known, filled, by_known}
use Rattle.vf_sorts.proofs.Making.{made_pair, opened, told_pair}
use Rattle.vf_sorts.proofs.Going.{pair_is_made}
use Rattle.vf_sorts.proofs.unify.unify_pair.Goals as goal

pub unify_resolved-requires-clause-left : goal.unify_resolved-requires-clause-left
unify_resolved-requires-clause-left c = opened c.args.known.now.items c.args.pair.left c.in_ok-left.left c.requires.resolved c.requires.pair.0 (c.in_ok-left.ensures ∙ ap (λ (k : Known). filled (by_known k) c.args.pair.left) c.deref.ensures.value)

pub unify_resolved-requires-clause-right : goal.unify_resolved-requires-clause-right
unify_resolved-requires-clause-right c = opened c.args.known.now.items c.args.pair.right c.in_ok-right.right c.requires.resolved c.requires.pair.1 (c.in_ok-right.ensures ∙ ap (λ (k : Known). filled (by_known k) c.args.pair.right) c.deref-2.ensures.value)

pub returns-clause-equal : goal.returns-clause-equal
returns-clause-equal c = made_pair _ c.args.known.now.items c.unify_resolved.new.known.items c.args.pair c.in_ok-left.left c.in_ok-right.right c.args.pairs.now.items c.unify_resolved.new.pairs.items
    (c.in_ok-left.ensures ∙ ap (λ (k : Known). filled (by_known k) c.args.pair.left) c.deref.ensures.value)
    (c.in_ok-right.ensures ∙ ap (λ (k : Known). filled (by_known k) c.args.pair.right) c.deref-2.ensures.value)
    c.in_ok-is_made.ensures.equal

pub returns-clause-told : goal.returns-clause-told
returns-clause-told c = told_pair c.args.known.now.items c.unify_resolved.new.known.items c.args.pair c.in_ok-left.left c.in_ok-right.right c.args.pairs.now.items c.unify_resolved.new.pairs.items
    (c.in_ok-left.ensures ∙ ap (λ (k : Known). filled (by_known k) c.args.pair.left) c.deref.ensures.value)
    (c.in_ok-right.ensures ∙ ap (λ (k : Known). filled (by_known k) c.args.pair.right) c.deref-2.ensures.value)
    c.in_ok-is_made.ensures.told

pub returns-clause-made : goal.returns-clause-made
returns-clause-made c = pair_is_made _ c.args.known.now.items c.unify_resolved.new.known.items c.args.pair c.in_ok-left.left c.in_ok-right.right _ _
    (c.in_ok-left.ensures ∙ ap (λ (k : Known). filled (by_known k) c.args.pair.left) c.deref.ensures.value)
    (c.in_ok-right.ensures ∙ ap (λ (k : Known). filled (by_known k) c.args.pair.right) c.deref-2.ensures.value)
    c.in_ok-is_made.ensures.made
