use Rattle.std.proofs.Common.{sym, refl, arith}
use Rattle.vf_table.proofs.Reading.{item_read, number_read}
use Rattle.vf_refute.proofs.Offsets.{not_parts_past}
use Rattle.vf_refute.proofs.rows.parts_at.Goals as goal

pub returns-then-i-len : goal.returns-then-i-len
returns-then-i-len c =
    let s = c.if-not-have_one_head.ensures.0 refl in
    record {
      left = c.in_ok-m.m.now;
      right = c.in_ok-n.n.now;
      found_left = item_read c.args.nodes.now c.args.x c.in_ok-m.m.now c.in_ok-m.ensures.lookup.0 c.in_ok-m.ensures.lookup.1;
      found_right = item_read c.args.nodes.now c.args.y c.in_ok-n.n.now c.in_ok-n.ensures.lookup.0 c.in_ok-n.ensures.lookup.1;
      injective = c.if-not-is_injective.ensures.0 refl;
      head = s.0;
      long = s.1;
      within = omega (arith, c.if-i-len.true, c.len.ensures);
      first = sym (number_read c.in_ok-m.m.now.parts.items c.args.i c.index.result.now (omega (arith, c.if-i-len.true, c.len.ensures)) c.index.ensures);
      second = sym (number_read c.in_ok-n.n.now.parts.items c.args.i c.index-then-i-len.result.now (omega (arith, c.if-i-len.true, c.len.ensures, s.1)) c.index-then-i-len.ensures);
    }

pub returns : goal.returns
returns c = λ p q h. not_parts_past c.args.nodes.now c.args.x c.args.y c.args.i p q c.in_ok-m.m.now
    (item_read c.args.nodes.now c.args.x c.in_ok-m.m.now c.in_ok-m.ensures.lookup.0 c.in_ok-m.ensures.lookup.1)
    (λ l. omega (arith, c.if-i-len.false, c.len.ensures)) h
