use Rattle.std.proofs.Common.{◌≡◌, length, drop, arith}
use Rattle.vf_congruence.proofs.Meeting.{written}
use Rattle.vf_growing.proofs.Steps.{popped_of, moved_within, kept_back}
use Rattle.vf_growing.proofs.growing.GrowingClasses.undo_last.Goals as goal

pub terms_before-terms-requires : goal.terms_before-terms-requires
terms_before-terms-requires c =
    let p = popped_of c.self.inside.layers.items c.self.inside.nodes.items c.self.inside.merged.items c.self.inside.classes.items c.pop.new.self.items c.in-Some.layer c.self.invariant c.in-Some.ensures.items in
    let f = p.terms_fit in omega (arith, f, c.len.ensures, c.self.inside.nodes.ok.0)

pub merges_before-merges-requires : goal.merges_before-merges-requires
merges_before-merges-requires c =
    let p = popped_of c.self.inside.layers.items c.self.inside.nodes.items c.self.inside.merged.items c.self.inside.classes.items c.pop.new.self.items c.in-Some.layer c.self.invariant c.in-Some.ensures.items in
    let f = p.pairs_fit in omega (arith, f, c.len-in-Some.ensures, c.self.inside.merged.ok.0)

pub restore-requires : goal.restore-requires
restore-requires c =
    let p = popped_of c.self.inside.layers.items c.self.inside.nodes.items c.self.inside.merged.items c.self.inside.classes.items c.pop.new.self.items c.in-Some.layer c.self.invariant c.in-Some.ensures.items in
    rw (c.deref.ensures.value, c.deref_mut.ensures.value) (moved_within c.pop.new.self.items c.in-Some.layer c.self.inside.nodes.items c.self.inside.merged.items c.self.inside.classes.items p)

pub invariant_of-self : goal.invariant_of-self
invariant_of-self c =
    let p = popped_of c.self.inside.layers.items c.self.inside.nodes.items c.self.inside.merged.items c.self.inside.classes.items c.pop.new.self.items c.in-Some.layer c.self.invariant c.in-Some.ensures.items in
    let f = p.terms_fit in
    let g = p.pairs_fit in
    let long : length c.restore.new.classes ≡ length c.self.inside.classes.items = omega (arith, c.restore.auto.classes, c.deref_mut.ensures.len, c.self.inside.classes.ok.0) in
    let back = written c.self.inside.classes.len c.restore.new.classes (drop (length c.restore.new.classes) c.self.inside.classes.items) (omega (arith, c.self.inside.classes.ok.0, long)) in
    let restored = rw (c.deref.ensures.value, c.deref_mut.ensures.value) at c.restore.ensures in
    rw (c.truncate.ensures.items, c.truncate-in-Some.ensures.items, c.truncate-in-Some-2.ensures.items, back)
    (kept_back c.pop.new.self.items c.in-Some.layer c.self.inside.nodes.items c.self.inside.merged.items c.self.inside.classes.items c.restore.new.classes c.terms_before-terms.result c.merges_before-merges.result p long restored
    (omega (arith, c.terms_before-terms.ensures, c.len.ensures, c.self.inside.nodes.ok.0))
    (omega (arith, c.merges_before-merges.ensures, c.len-in-Some.ensures, c.self.inside.merged.ok.0)))
