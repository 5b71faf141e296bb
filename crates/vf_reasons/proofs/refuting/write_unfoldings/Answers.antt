use Rattle.std.proofs.Common.{take, arith}
use Rattle.vf_reasons.proofs.Finding.{turn_at, draft_on, draft_all, none_left}
use Rattle.vf_reasons.proofs.refuting.write_unfoldings.Goals as goal

pub unfold_next-requires : goal.unfold_next-requires
unfold_next-requires g c =
    let r = c.requires.turn in
    let u = g.U.Unfolder.unfoldings c.args.unfolder.now in
    record { next = (r.0, take c.loop-unfolding.unfolding-index c.args.made.now, c.loop-unfolding.invariant r.0 r.1 r.2, turn_at u r.0 c.args.made.now c.loop-unfolding.unfolding-index c.unfolding-item.result r.2 c.loop-unfolding-test.true c.unfolding-item.is) }

pub returns-in-Some : goal.returns-in-Some
returns-in-Some g c = λ ls d t.
    let u = g.U.Unfolder.unfoldings c.args.unfolder.now in
    let k = c.loop-unfolding.unfolding-index in
    let m = c.unfolding-item.result in
    let e = (rw c.in-Some.is at c.in_ok-last.ensures) ls (take k c.args.made.now) (c.loop-unfolding.invariant ls d t) (turn_at u ls c.args.made.now k m t c.loop-unfolding-test.true c.unfolding-item.is) in
    (take k c.args.made.now, e.0, e.1)

pub loop-unfolding-preserved : goal.loop-unfolding-preserved
loop-unfolding-preserved g c = λ ls d t.
    let u = g.U.Unfolder.unfoldings c.args.unfolder.now in
    let k = c.loop-unfolding.unfolding-index in
    let m = c.unfolding-item.result in
    let e = (rw (none_left c.in_ok-last.field-0 c.in_default.not-Some) at c.in_ok-last.ensures) ls (take k c.args.made.now) (c.loop-unfolding.invariant ls d t) (turn_at u ls c.args.made.now k m t c.loop-unfolding-test.true c.unfolding-item.is) in
    draft_on u ls c.args.made.now k m c.unfold_next.new.basis c.unfold_next.new.draft c.loop-unfolding-test.true c.unfolding-item.is e

pub returns : goal.returns
returns g c = λ ls d t. draft_all (g.U.Unfolder.unfoldings c.args.unfolder.now) ls c.args.made.now c.loop-unfolding.unfolding-index c.loop-unfolding.basis c.loop-unfolding.draft (omega arith) (c.loop-unfolding.invariant ls d t)
