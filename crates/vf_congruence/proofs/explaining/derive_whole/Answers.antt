use Rattle.std.proofs.Common.{length, refl, arith}
use Rattle.std.proofs.lemmas.Option.{slice_get_read}
use Rattle.vf_log.proofs.Continued.{added_has, added_continues, continued_more, same_kept}
use Rattle.vf_congruence.proofs.Explained.{whole_congruent}
use Rattle.vf_congruence.proofs.explaining.derive_whole.Goals as goal

pub congruent-requires : goal.congruent-requires
congruent-requires c = record {
  equal = whole_congruent c.args.nodes.now c.derive_parts.new.log.nodes c.derive_parts.new.log.known c.args.a c.args.b c.in_ok-equal.equal.items c.args.labels.now c.index-nodes-a.result c.index-nodes-b.result
      (same_kept c.in_ok-equal.ensures.continued c.requires.nodes) c.requires.whole
      (slice_get_read c.args.nodes.now (length c.args.nodes.now) c.args.a c.index-nodes-a.result refl (omega arith) c.index-nodes-a.is)
      (slice_get_read c.args.nodes.now (length c.args.nodes.now) c.args.b c.index-nodes-b.result refl (omega arith) c.index-nodes-b.is)
      (rw (c.deref.ensures.value, c.deref-2.ensures.value) at c.in_ok-equal.ensures.derived);
}

pub returns-clause-derived : goal.returns-clause-derived
returns-clause-derived c = added_has c.in_ok-step.ensures.added

pub returns-clause-continued : goal.returns-clause-continued
returns-clause-continued c = continued_more c.in_ok-equal.ensures.continued (added_continues c.in_ok-step.ensures.added)
