use Rattle.std.proofs.Common.{sym, subst, arith}
use Rattle.vf_refute.specs.Refutations.{Refute}
use Rattle.vf_refute.proofs.Refuting.{turn, last_read, refutation_is}
use Rattle.vf_refute.proofs.checking.recheck.Goals as goal

pub returns-then-i-steps-clause-sound : goal.returns-then-i-steps-clause-sound
returns-then-i-steps-clause-sound c = λ t. refutation_is c.args.nodes.now c.args.facts.now c.args.steps.now
    (c.loop-i.invariant.back (subst (Refute c.args.nodes.now c.args.facts.now c.loop-i.known.items)
    (sym (last_read c.args.steps.now c.loop-i.i c.index-steps-i.result c.if-i-steps.true c.index-steps-i.is))
    (rw c.deref.ensures.value at (c.ends.ensures.0 t))))

pub loop-i-preserved : goal.loop-i-preserved
loop-i-preserved c =
    let h = rw c.deref-in-loop-i.ensures.value at c.in-Some.ensures in
    let on = turn c.args.nodes.now c.args.facts.now c.loop-i.known.items c.push.new.self.items c.args.steps.now c.loop-i.i c.index-steps-i.result c.in-Some.derived
    (omega arith) c.index-steps-i.is c.in_ok-push-in-Some.ensures.items h.0 h.1 in
    record { onward = λ r. on.0 (c.loop-i.invariant.onward r); back = λ r. c.loop-i.invariant.back (on.1 r) }
