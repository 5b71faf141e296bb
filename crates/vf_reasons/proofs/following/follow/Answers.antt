use Rattle.std.proofs.Common.{List, sym, subst, arith}
use Rattle.vf_refute.specs.declared.steps.Derived.{Derived}
use Rattle.vf_refute.specs.Refutations.{Refute}
use Rattle.vf_refute.proofs.Refuting.{turn, last_read}
use Rattle.vf_reasons.specs.Follows.{HasGone}
use Rattle.vf_reasons.proofs.Followed.{gone_more, followed}
use Rattle.vf_reasons.proofs.following.follow.Goals as goal

pub returns-then-i-steps : goal.returns-then-i-steps
returns-then-i-steps c =
    let b = c.args.basis.now in
    let e = last_read c.args.steps.now c.loop-i.i c.index-steps-i.result c.if-i-steps.true c.index-steps-i.is in
    followed b c.args.facts.now c.args.draft.now c.loop-i.draft c.loop-i.known.items c.index-steps-i.result c.in_ok-last.last c.in_ok-base.base c.loop-i.invariant.base c.loop-i.invariant.gone c.in_ok-last.ensures
    (subst (Refute b.nodes.items c.args.facts.now c.loop-i.known.items) e c.loop-i.invariant.rest)

pub loop-i-preserved : goal.loop-i-preserved
loop-i-preserved c =
    let b = c.args.basis.now in
    let d = c.in-Some.derived in
    let s = c.index-steps-i.result in
    let more = c.push.new.self.items in
    let h = rw (c.deref.ensures.value, c.deref-in-loop-i.ensures.value) at c.in-Some.ensures in
    let on = turn b.nodes.items c.args.facts.now c.loop-i.known.items more c.args.steps.now c.loop-i.i s d (omega arith) c.index-steps-i.is c.in_ok-push-in-Some.ensures.items h.0 h.1 in
    let g = gone_more b c.args.facts.now c.args.draft.now c.loop-i.draft c.follow_one.new.draft c.loop-i.known.items s d c.in_ok-base.base c.loop-i.invariant.base c.loop-i.invariant.gone c.in_ok-follow_one-in-Some.ensures.step c.in_ok-follow_one-in-Some.ensures.known h.0 h.1 in
    record {
      gone = subst (λ (ks : List Derived). HasGone b c.args.facts.now c.args.draft.now c.follow_one.new.draft ks) (sym c.in_ok-push-in-Some.ensures.items) g;
      rest = on.0 c.loop-i.invariant.rest;
      base = c.loop-i.invariant.base;
    }
