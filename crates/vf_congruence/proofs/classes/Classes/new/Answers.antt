use Rattle.std.proofs.Common.{◌≡◌, length, drop, arith}
use Rattle.vf_congruence.proofs.Meeting.{least_none, written}
use Rattle.vf_congruence.proofs.classes.Classes.new.Goals as goal

pub invariant_of-result : goal.invariant_of-result
invariant_of-result c =
    let made = c.in_ok-classes.ensures in
    let long : length c.settle.new.classes ≡ length c.in_ok-classes.classes.items = omega (arith, c.settle.auto.classes, c.deref_mut.ensures.len, c.in_ok-classes.classes.ok.0) in
    let back = written c.in_ok-classes.classes.len c.settle.new.classes (drop (length c.settle.new.classes) c.in_ok-classes.classes.items) (omega (arith, c.in_ok-classes.classes.ok.0)) in
    rw (back, c.new.ensures.items)
    (least_none c.args.nodes.items c.in_ok-classes.classes.items c.settle.new.classes
    (omega (arith, long, made.0, c.len.ensures, c.args.nodes.ok.0)) long c.requires.few c.requires.parts
    (λ k l. made.1 k (omega (arith, made.0, l)))
    (rw (c.deref.ensures.value, c.deref_mut.ensures.value) at c.settle.ensures.sound)
    (rw (c.deref.ensures.value, c.deref_mut.ensures.value) at c.settle.ensures.complete))
