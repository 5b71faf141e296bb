use Rattle.std.proofs.Common.{refl}
use Rattle.vf_table.proofs.Reading.{item_read}
use Rattle.vf_refute.proofs.rows.by_congruence.Goals as goal

pub returns : goal.returns
returns c = (
  record {
    left = c.in_ok-m.m.now;
    right = c.in_ok-n.n.now;
    found_left = item_read c.args.nodes.now c.args.a c.in_ok-m.m.now c.in_ok-m.ensures.lookup.0 c.in_ok-m.ensures.lookup.1;
    found_right = item_read c.args.nodes.now c.args.b c.in_ok-n.n.now c.in_ok-n.ensures.lookup.0 c.in_ok-n.ensures.lookup.1;
    head = (c.if-not-have_one_head.ensures.0 refl).0;
    parts = rw (c.deref.ensures.value, c.deref-2.ensures.value) at (c.if-not-are_pairwise_equal.ensures.0 refl);
    is = refl;
  },
  tt,
)
