use Rattle.std.proofs.Common.{◌≡◌, ◌<◌, length, drop, ap, arith}
use Rattle.vf_congruence.specs.Congruence.{Merges}
use Rattle.vf_congruence.proofs.Meeting.{least_more, least_settled, least_same, read_same, written}
use Rattle.vf_congruence.proofs.classes.Classes.merge.Goals as goal

pub join_and_settle-requires-clause-settled : goal.join_and_settle-requires-clause-settled
join_and_settle-requires-clause-settled c =
    rw (c.deref-2.ensures.value, c.deref-3.ensures.value, c.in_ok-settled.ensures.items, c.deref.ensures.value)
    (least_settled c.self.inside.nodes.items c.self.inside.merged.items c.self.inside.classes.items c.self.invariant)

pub invariant_of-self-2 : goal.invariant_of-self-2
invariant_of-self-2 c =
    let long : length c.join_and_settle.new.classes ≡ length c.self.inside.classes.items = omega (arith, c.join_and_settle.auto.classes, c.deref_mut.ensures.len, c.self.inside.classes.ok.0) in
    let back = written c.self.inside.classes.len c.join_and_settle.new.classes (drop (length c.join_and_settle.new.classes) c.self.inside.classes.items) (omega (arith, c.self.inside.classes.ok.0)) in
    let items = c.in_ok-push-2.ensures.items in
    rw (back, items)
    (least_more c.self.inside.nodes.items c.self.inside.merged.items c.self.inside.classes.items c.join_and_settle.new.classes c.args.a c.args.b c.self.invariant
    (omega (arith, c.requires.left, c.self.invariant.long, ap (λ (h : Merges). length h.nodes) c.self.view_is))
    (omega (arith, c.requires.right, c.self.invariant.long, ap (λ (h : Merges). length h.nodes) c.self.view_is))
    long
    (rw (c.deref-2.ensures.value, c.deref_mut.ensures.value) at c.join_and_settle.ensures.sound)
    (rw (c.deref-2.ensures.value, c.deref_mut.ensures.value) at c.join_and_settle.ensures.complete))

pub invariant_of-self-then-one-other : goal.invariant_of-self-then-one-other
invariant_of-self-then-one-other c =
    let a : c.args.a < length c.self.inside.classes.items = omega (arith, c.requires.left, c.self.invariant.long, ap (λ (h : Merges). length h.nodes) c.self.view_is) in
    let b : c.args.b < length c.self.inside.classes.items = omega (arith, c.requires.right, c.self.invariant.long, ap (λ (h : Merges). length h.nodes) c.self.view_is) in
    rw c.in_ok-push.ensures.items
    (least_same c.self.inside.nodes.items c.self.inside.merged.items c.self.inside.classes.items c.args.a c.args.b c.self.invariant a b
    (read_same c.self.inside.classes.items c.args.a c.args.b c.index-one.result.now c.index-other.result.now a b c.index-one.ensures c.index-other.ensures c.if-one-other.true))
