use Rattle.std.proofs.Common.{◌≡◌, length, false, true, refl, subst, arith, below_more}
use Rattle.std.proofs.lemmas.Option.{slice_get_read}
use Rattle.vf_table.specs.declared.node.Node.{Node}
use Rattle.vf_log.specs.Copies.{IsCopy}
use Rattle.vf_growing.specs.Steps.{IsTermOf}
use Rattle.vf_growing.proofs.growing.find.Goals as goal

pub returns-then-is_copy : goal.returns-then-is_copy
returns-then-is_copy c = record {
  kept = c.index-nodes-term.result;
  found = slice_get_read c.args.nodes.now (length c.args.nodes.now) c.loop-term.term c.index-nodes-term.result refl (omega arith) c.index-nodes-term.is;
  same = c.if-is_copy.ensures.0 refl;
}

pub loop-term-preserved : goal.loop-term-preserved
loop-term-preserved c = below_more (λ k. IsTermOf c.args.nodes.now k c.args.node.now → ⊥) c.loop-term.term (λ k l. c.loop-term.invariant k l)
    (λ t.
    let here = slice_get_read c.args.nodes.now (length c.args.nodes.now) c.loop-term.term c.index-nodes-term.result refl (omega arith) c.index-nodes-term.is in
    let found = t.found in
    let is : t.kept ≡ c.index-nodes-term.result = cc in
    let e : false ≡ true = c.if-is_copy.ensures.1 (subst (λ (n : Node). IsCopy n c.args.node.now) is t.same) in cc)
