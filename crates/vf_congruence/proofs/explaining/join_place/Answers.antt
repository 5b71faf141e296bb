use Rattle.std.proofs.Common.{length, refl, arith, slice_index}
use Rattle.std.proofs.lemmas.Option.{slice_get_read}
use Rattle.vf_log.proofs.Continued.{added_has, added_continues, continued_more, same_kept}
use Rattle.vf_congruence.proofs.Meeting.{parts_are_terms}
use Rattle.vf_congruence.proofs.Explained.{explained_kept, place_left, place_right, place_apart, place_parts}
use Rattle.vf_congruence.proofs.explaining.join_place.Goals as goal

pub part-requires : goal.part-requires
part-requires c =
    let m = c.index-nodes-a.result in let n = c.index-nodes-b.result in
    let p = slice_get_read c.args.nodes.now (length c.args.nodes.now) c.args.a m refl (omega arith) c.index-nodes-a.is in
    let q = slice_get_read c.args.nodes.now (length c.args.nodes.now) c.args.b n refl (omega arith) c.index-nodes-b.is in
    record {
      equal = (
        slice_index m.parts.items c.args.i,
        slice_index n.parts.items c.args.i,
        record {
          x = c.args.a;
          y = c.args.b;
          p = slice_index m.parts.items c.args.i;
          q = slice_index n.parts.items c.args.i;
          equal = c.in_ok-equal.ensures.derived;
          parts = place_parts c.args.nodes.now c.args.labels.now c.args.a c.args.b c.args.i m n c.requires.place p q c.derive_equal.new.log.nodes (same_kept c.in_ok-equal.ensures.continued c.requires.nodes);
          is = refl;
        },
      );
    }

pub join-requires-clause-left : goal.join-requires-clause-left
join-requires-clause-left c =
    let m = c.index-nodes-a.result in let n = c.index-nodes-b.result in
    let p = slice_get_read c.args.nodes.now (length c.args.nodes.now) c.args.a m refl (omega arith) c.index-nodes-a.is in
    let q = slice_get_read c.args.nodes.now (length c.args.nodes.now) c.args.b n refl (omega arith) c.index-nodes-b.is in
    omega (arith, c.part_at-x.ensures, parts_are_terms c.args.nodes.now (length c.args.labels.now) c.args.a m c.requires.parts (omega arith) p c.args.i 0 (place_left c.args.nodes.now c.args.labels.now c.args.a c.args.b c.args.i m n c.requires.place p q))

pub join-requires-clause-right : goal.join-requires-clause-right
join-requires-clause-right c =
    let m = c.index-nodes-a.result in let n = c.index-nodes-b.result in
    let p = slice_get_read c.args.nodes.now (length c.args.nodes.now) c.args.a m refl (omega arith) c.index-nodes-a.is in
    let q = slice_get_read c.args.nodes.now (length c.args.nodes.now) c.args.b n refl (omega arith) c.index-nodes-b.is in
    omega (arith, c.part_at-y.ensures, parts_are_terms c.args.nodes.now (length c.args.labels.now) c.args.b n c.requires.parts (omega arith) q c.args.i 0 (place_right c.args.nodes.now c.args.labels.now c.args.a c.args.b c.args.i m n c.requires.place p q))

pub join-requires-clause-apart : goal.join-requires-clause-apart
join-requires-clause-apart c =
    let m = c.index-nodes-a.result in let n = c.index-nodes-b.result in
    let p = slice_get_read c.args.nodes.now (length c.args.nodes.now) c.args.a m refl (omega arith) c.index-nodes-a.is in
    let q = slice_get_read c.args.nodes.now (length c.args.nodes.now) c.args.b n refl (omega arith) c.index-nodes-b.is in
    rw (c.part_at-x.ensures, c.part_at-y.ensures) (place_apart c.args.nodes.now c.args.labels.now c.args.a c.args.b c.args.i m n c.requires.place p q)

pub join-requires-clause-step : goal.join-requires-clause-step
join-requires-clause-step c =
    let m = c.index-nodes-a.result in let n = c.index-nodes-b.result in
    let p = slice_get_read c.args.nodes.now (length c.args.nodes.now) c.args.a m refl (omega arith) c.index-nodes-a.is in
    let q = slice_get_read c.args.nodes.now (length c.args.nodes.now) c.args.b n refl (omega arith) c.index-nodes-b.is in
    rw (c.part_at-x.ensures, c.part_at-y.ensures) (added_has (c.in_ok-step.ensures.added (slice_index m.parts.items c.args.i) (slice_index n.parts.items c.args.i) (record {
      x = c.args.a;
      y = c.args.b;
      p = slice_index m.parts.items c.args.i;
      q = slice_index n.parts.items c.args.i;
      equal = c.in_ok-equal.ensures.derived;
      parts = place_parts c.args.nodes.now c.args.labels.now c.args.a c.args.b c.args.i m n c.requires.place p q c.derive_equal.new.log.nodes (same_kept c.in_ok-equal.ensures.continued c.requires.nodes);
      is = refl;
    })))

pub join-requires-clause-explained : goal.join-requires-clause-explained
join-requires-clause-explained c =
    let m = c.index-nodes-a.result in let n = c.index-nodes-b.result in
    let p = slice_get_read c.args.nodes.now (length c.args.nodes.now) c.args.a m refl (omega arith) c.index-nodes-a.is in
    let q = slice_get_read c.args.nodes.now (length c.args.nodes.now) c.args.b n refl (omega arith) c.index-nodes-b.is in
    explained_kept (continued_more c.in_ok-equal.ensures.continued (added_continues (c.in_ok-step.ensures.added (slice_index m.parts.items c.args.i) (slice_index n.parts.items c.args.i) (record {
      x = c.args.a;
      y = c.args.b;
      p = slice_index m.parts.items c.args.i;
      q = slice_index n.parts.items c.args.i;
      equal = c.in_ok-equal.ensures.derived;
      parts = place_parts c.args.nodes.now c.args.labels.now c.args.a c.args.b c.args.i m n c.requires.place p q c.derive_equal.new.log.nodes (same_kept c.in_ok-equal.ensures.continued c.requires.nodes);
      is = refl;
    })))) c.requires.explained

pub returns-clause-continued : goal.returns-clause-continued
returns-clause-continued c =
    let m = c.index-nodes-a.result in let n = c.index-nodes-b.result in
    let p = slice_get_read c.args.nodes.now (length c.args.nodes.now) c.args.a m refl (omega arith) c.index-nodes-a.is in
    let q = slice_get_read c.args.nodes.now (length c.args.nodes.now) c.args.b n refl (omega arith) c.index-nodes-b.is in
    continued_more (continued_more c.in_ok-equal.ensures.continued (added_continues (c.in_ok-step.ensures.added (slice_index m.parts.items c.args.i) (slice_index n.parts.items c.args.i) (record {
      x = c.args.a;
      y = c.args.b;
      p = slice_index m.parts.items c.args.i;
      q = slice_index n.parts.items c.args.i;
      equal = c.in_ok-equal.ensures.derived;
      parts = place_parts c.args.nodes.now c.args.labels.now c.args.a c.args.b c.args.i m n c.requires.place p q c.derive_equal.new.log.nodes (same_kept c.in_ok-equal.ensures.continued c.requires.nodes);
      is = refl;
    })))) c.in_ok-join.ensures.continued
