use Rattle.std.proofs.Common.{◌≡◌, ◌+◌, ◌<◌, [], ◌∷◌, ◌++◌, true, length, take, sym, subst, ◌∙◌, inl, inr, arith}
use Rattle.std.specs.Prelude.{Contains, slice_index}
use Rattle.std.proofs.lemmas.List.{length-set, take_more, take_all}
use Rattle.std.proofs.lemmas.List.Elements.{Contains-get_or, Contains-push_cases}
use Rattle.vf_cycles.proofs.Walking.{marked_more, marked_less}
use Rattle.vf_cycles.proofs.cycles.mark_all.Goals as goal

pub index_mut-requires : goal.index_mut-requires
index_mut-requires c =
    let within = c.requires _ (Contains-get_or c.args.nodes.now c.loop-node.node-index 0 c.loop-node-test.true) in
    let nodes = c.loop-node.invariant.nodes in
    omega (arith, c.loop-node.marks.ok.0)

pub loop-node-preserved : goal.loop-node-preserved
loop-node-preserved c =
    let nodes = c.args.nodes.now in
    let marks = c.loop-node.marks.items in
    let inv = c.loop-node.invariant in
    let x = slice_index nodes c.loop-node.node-index in
    let among : Contains nodes x = Contains-get_or nodes c.loop-node.node-index 0 c.loop-node-test.true in
    let within : x < length marks = subst (λ n. x < n) (sym inv.nodes) (c.requires x among) in
    let more : take (c.loop-node.node-index + 1) nodes ≡ take c.loop-node.node-index nodes ++ x ∷ [] = take_more nodes c.loop-node.node-index 0 c.loop-node-test.true in
    record {
      nodes = length-set marks x true ∙ inv.nodes;
      marked = λ u m. elim (marked_less marks x u m) [
        | inl same ↦ inr (subst (λ y. Contains nodes y) same among)
        | inr old ↦ inv.marked u old
      ];
      kept = λ u m. marked_more marks x u within (inr (inv.kept u m));
      each = λ u h. marked_more marks x u within (elim (Contains-push_cases (take c.loop-node.node-index nodes) x u (subst (λ l. Contains l u) more h)) [
        | inl old ↦ inr (inv.each u old)
        | inr same ↦ inl same
      ]);
    }

pub returns-clause-each : goal.returns-clause-each
returns-clause-each c = λ u h.
    c.loop-node.invariant.each u (subst (λ l. Contains l u) (sym (take_all c.loop-node.node-index c.args.nodes.now c.loop-node-test.false)) h)
