use Rattle.std.proofs.Common.{◌≡◌, length, true, false, arith, refl}
use Rattle.std.proofs.lemmas.Option.{slice_get_read}
use Rattle.vf_congruence.proofs.Meeting.{parts_are_terms, settled_apart, settled_not_injective, settled_injective, settled_unlike, only_none, only_parts, only_whole}
use Rattle.vf_congruence.proofs.joining.settle_pair.Goals as goal

pub returns-then-not-have_one_head-clause-only : goal.returns-then-not-have_one_head-clause-only
returns-then-not-have_one_head-clause-only c = only_none c.args.nodes.now c.args.classes.now

pub returns-then-not-have_one_head-clause-settled : goal.returns-then-not-have_one_head-clause-settled
returns-then-not-have_one_head-clause-settled c = λ f.
    settled_apart c.args.nodes.now c.args.classes.now c.args.a c.args.b c.index-nodes-a.result c.index-nodes-b.result
    (slice_get_read c.args.nodes.now (length c.args.nodes.now) c.args.a c.index-nodes-a.result refl (omega arith) c.index-nodes-a.is)
    (slice_get_read c.args.nodes.now (length c.args.nodes.now) c.args.b c.index-nodes-b.result refl (omega arith) c.index-nodes-b.is)
    (λ h l. let e : false ≡ true = c.if-not-have_one_head.ensures.1 (h, l) in cc)

pub returns-then-is_injective-clause-only : goal.returns-then-is_injective-clause-only
returns-then-is_injective-clause-only c = let s = c.if-not-have_one_head.ensures.0 refl in let t = c.if-is_injective.ensures.0 refl in
    only_parts c.args.nodes.now c.args.classes.now c.join_parts.new.classes c.args.a c.args.b c.index-nodes-a.result c.index-nodes-b.result
    (slice_get_read c.args.nodes.now (length c.args.nodes.now) c.args.a c.index-nodes-a.result refl (omega arith) c.index-nodes-a.is)
    (slice_get_read c.args.nodes.now (length c.args.nodes.now) c.args.b c.index-nodes-b.result refl (omega arith) c.index-nodes-b.is)
    t s.0 s.1
    (record { left = c.requires.left; right = c.requires.right; one = c.if-classes-a.true })
    (rw (c.deref.ensures.value, c.deref-then-is_injective.ensures.value) at c.join_parts.ensures.only)

pub returns-then-is_injective-clause-settled : goal.returns-then-is_injective-clause-settled
returns-then-is_injective-clause-settled c = λ f.
    settled_injective c.args.nodes.now c.join_parts.new.classes c.args.a c.args.b c.index-nodes-a.result c.index-nodes-b.result
    (slice_get_read c.args.nodes.now (length c.args.nodes.now) c.args.a c.index-nodes-a.result refl (omega arith) c.index-nodes-a.is)
    (slice_get_read c.args.nodes.now (length c.args.nodes.now) c.args.b c.index-nodes-b.result refl (omega arith) c.index-nodes-b.is)
    ((c.join_parts.ensures.kept c.args.a c.args.b (record { left = c.requires.left; right = c.requires.right; one = c.if-classes-a.true })).one)
    (rw (c.deref.ensures.value, c.deref-then-is_injective.ensures.value) at c.join_parts.ensures.joined)

pub returns-then-classes-a-clause-only : goal.returns-then-classes-a-clause-only
returns-then-classes-a-clause-only c = only_none c.args.nodes.now c.args.classes.now

pub returns-then-classes-a-clause-settled : goal.returns-then-classes-a-clause-settled
returns-then-classes-a-clause-settled c = λ f.
    settled_not_injective c.args.nodes.now c.args.classes.now c.args.a c.args.b c.index-nodes-a.result c.index-nodes-b.result
    (slice_get_read c.args.nodes.now (length c.args.nodes.now) c.args.a c.index-nodes-a.result refl (omega arith) c.index-nodes-a.is)
    (slice_get_read c.args.nodes.now (length c.args.nodes.now) c.args.b c.index-nodes-b.result refl (omega arith) c.index-nodes-b.is)
    c.if-classes-a.true
    (λ t. let e : false ≡ true = c.if-is_injective.ensures.1 t in cc)

pub returns-then-parts_together-clause-only : goal.returns-then-parts_together-clause-only
returns-then-parts_together-clause-only c = let s = c.if-not-have_one_head.ensures.0 refl in let t = c.if-parts_together.ensures.0 refl in
    only_whole c.args.nodes.now c.args.classes.now c.join_two.new.classes c.args.a c.args.b c.index-nodes-a.result c.index-nodes-b.result
    (slice_get_read c.args.nodes.now (length c.args.nodes.now) c.args.a c.index-nodes-a.result refl (omega arith) c.index-nodes-a.is)
    (slice_get_read c.args.nodes.now (length c.args.nodes.now) c.args.b c.index-nodes-b.result refl (omega arith) c.index-nodes-b.is)
    s.0
    (parts_are_terms c.args.nodes.now (length c.args.classes.now) c.args.a c.index-nodes-a.result c.requires.parts (omega arith) (slice_get_read c.args.nodes.now (length c.args.nodes.now) c.args.a c.index-nodes-a.result refl (omega arith) c.index-nodes-a.is))
    (parts_are_terms c.args.nodes.now (length c.args.classes.now) c.args.b c.index-nodes-b.result c.requires.parts (omega arith) (slice_get_read c.args.nodes.now (length c.args.nodes.now) c.args.b c.index-nodes-b.result refl (omega arith) c.index-nodes-b.is))
    (rw (c.deref-2.ensures.value, c.deref-3.ensures.value) at t)
    c.join_two.ensures.only

pub returns-clause-only : goal.returns-clause-only
returns-clause-only c = only_none c.args.nodes.now c.args.classes.now

pub returns-clause-settled : goal.returns-clause-settled
returns-clause-settled c = λ f.
    settled_unlike c.args.nodes.now c.args.classes.now c.args.a c.args.b c.index-nodes-a.result c.index-nodes-b.result
    (slice_get_read c.args.nodes.now (length c.args.nodes.now) c.args.a c.index-nodes-a.result refl (omega arith) c.index-nodes-a.is)
    (slice_get_read c.args.nodes.now (length c.args.nodes.now) c.args.b c.index-nodes-b.result refl (omega arith) c.index-nodes-b.is)
    c.if-classes-a.false
    (λ t. let e : false ≡ true = c.if-parts_together.ensures.1 (rw (← c.deref-2.ensures.value, ← c.deref-3.ensures.value) at t) in cc)
