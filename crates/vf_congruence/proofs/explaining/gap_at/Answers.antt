use Rattle.std.proofs.Common.{◌≡◌, length, true, false, arith, refl}
use Rattle.std.proofs.lemmas.Option.{slice_get_read}
use Rattle.vf_congruence.proofs.Meeting.{settled_unlike}
use Rattle.vf_congruence.proofs.explaining.gap_at.Goals as goal

pub returns-then-labels-a : goal.returns-then-labels-a
returns-then-labels-a c =
    let s = c.if-not-have_one_head.ensures.0 refl in
    let p = rw (c.deref.ensures.value, c.deref-then-labels-a.ensures.value) at c.in_ok-parted_at.ensures in
    record {
      left = c.index-nodes-a.result;
      right = c.index-nodes-b.result;
      found_left = slice_get_read c.args.nodes.now (length c.args.nodes.now) c.args.a c.index-nodes-a.result refl (omega arith) c.index-nodes-a.is;
      found_right = slice_get_read c.args.nodes.now (length c.args.nodes.now) c.args.b c.index-nodes-b.result refl (omega arith) c.index-nodes-b.is;
      injective = c.if-not-is_injective.ensures.0 refl;
      head = s.0;
      long = s.1;
      within = p.0;
      one = c.if-labels-a.true;
      apart = p.1;
    }

pub returns-then-not-parts_together : goal.returns-then-not-parts_together
returns-then-not-parts_together c =
    settled_unlike c.args.nodes.now c.args.labels.now c.args.a c.args.b c.index-nodes-a.result c.index-nodes-b.result
    (slice_get_read c.args.nodes.now (length c.args.nodes.now) c.args.a c.index-nodes-a.result refl (omega arith) c.index-nodes-a.is)
    (slice_get_read c.args.nodes.now (length c.args.nodes.now) c.args.b c.index-nodes-b.result refl (omega arith) c.index-nodes-b.is)
    c.if-labels-a.false
    (λ t. let e : false ≡ true = c.if-not-parts_together.ensures.1 (rw (← c.deref-2.ensures.value, ← c.deref-3.ensures.value) at t) in cc)

pub returns : goal.returns
returns c = record {
  left = c.index-nodes-a.result;
  right = c.index-nodes-b.result;
  found_left = slice_get_read c.args.nodes.now (length c.args.nodes.now) c.args.a c.index-nodes-a.result refl (omega arith) c.index-nodes-a.is;
  found_right = slice_get_read c.args.nodes.now (length c.args.nodes.now) c.args.b c.index-nodes-b.result refl (omega arith) c.index-nodes-b.is;
  head = (c.if-not-have_one_head.ensures.0 refl).0;
  parts = rw (c.deref-2.ensures.value, c.deref-3.ensures.value) at (c.if-not-parts_together.ensures.0 refl);
  apart = c.if-labels-a.false;
}
