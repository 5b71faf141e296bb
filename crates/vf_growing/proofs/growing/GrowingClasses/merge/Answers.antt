use Rattle.std.proofs.Common.{◌≡◌, ◌<◌, length, drop, ap, arith, refl}
use Rattle.vf_congruence.proofs.Meeting.{least_settled, read_same, written}
use Rattle.vf_growing.specs.Steps.{Growth}
use Rattle.vf_growing.proofs.Steps.{kept_same, kept_joined}
use Rattle.vf_growing.proofs.growing.GrowingClasses.merge.Goals as goal

pub join_and_settle-requires-clause-settled : goal.join_and_settle-requires-clause-settled
join_and_settle-requires-clause-settled c =
    rw (c.deref-2.ensures.value, c.deref-3.ensures.value)
    (least_settled c.self.inside.nodes.items c.self.inside.merged.items c.self.inside.classes.items c.self.invariant.least)

pub invariant_of-self-then-one-other : goal.invariant_of-self-then-one-other
invariant_of-self-then-one-other c =
    let a : c.args.a < length c.self.inside.classes.items = omega (arith, c.requires.left, c.self.invariant.least.long, ap (λ (h : Growth). length h.nodes) c.self.view_is) in
    let b : c.args.b < length c.self.inside.classes.items = omega (arith, c.requires.right, c.self.invariant.least.long, ap (λ (h : Growth). length h.nodes) c.self.view_is) in
    rw (c.push_reserved.ensures.items, c.push_reserved-then-one-other.ensures.items, c.in_ok-reserve.ensures.items, c.in_ok-reserve-2.ensures.items)
    (kept_same c.self.inside.layers.items c.self.inside.nodes.items c.self.inside.merged.items c.self.inside.classes.items _ c.args.a c.args.b c.self.invariant a b
    (read_same c.self.inside.classes.items c.args.a c.args.b c.index-one.result.now c.index-other.result.now a b c.index-one.ensures c.index-other.ensures c.if-one-other.true) refl c.new-moved.ensures.items)

pub invariant_of-self-2 : goal.invariant_of-self-2
invariant_of-self-2 c =
    let a : c.args.a < length c.self.inside.classes.items = omega (arith, c.requires.left, c.self.invariant.least.long, ap (λ (h : Growth). length h.nodes) c.self.view_is) in
    let b : c.args.b < length c.self.inside.classes.items = omega (arith, c.requires.right, c.self.invariant.least.long, ap (λ (h : Growth). length h.nodes) c.self.view_is) in
    let copied = c.in_ok-classes.ensures.items in
    let long : length c.join_and_settle.new.classes ≡ length c.in_ok-classes.classes.items = omega (arith, c.join_and_settle.auto.classes, c.deref_mut.ensures.len, c.in_ok-classes.classes.ok.0) in
    let back = written c.in_ok-classes.classes.len c.join_and_settle.new.classes (drop (length c.join_and_settle.new.classes) c.in_ok-classes.classes.items) (omega (arith, c.in_ok-classes.classes.ok.0)) in
    let moved = rw (c.deref-4.ensures.value, c.deref-5.ensures.value, back) at c.in_ok-moved.ensures in
    let sound = rw (c.deref-2.ensures.value, c.deref_mut.ensures.value, copied, c.deref.ensures.value) at c.join_and_settle.ensures.sound in
    let complete = rw (c.deref-2.ensures.value, c.deref_mut.ensures.value, copied, c.deref.ensures.value) at c.join_and_settle.ensures.complete in
    let bounded = rw (c.deref_mut.ensures.value, copied, c.deref.ensures.value) at c.join_and_settle.ensures.bounded in
    rw (back, c.push_reserved-2.ensures.items, c.push_reserved-3.ensures.items, c.in_ok-reserve.ensures.items, c.in_ok-reserve-2.ensures.items)
    (kept_joined c.self.inside.layers.items c.self.inside.nodes.items c.self.inside.merged.items c.self.inside.classes.items c.join_and_settle.new.classes _ c.args.a c.args.b c.self.invariant a b
    (omega (arith, long, ap length copied, ap length c.deref.ensures.value)) refl moved sound complete bounded)
