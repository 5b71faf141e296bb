use Rattle.std.proofs.Common.{◌≡◌, ◌+◌, ◌<◌, ℕ, length, sym, ap, subst, ◌∙◌, arith}
use Rattle.std.specs.Prelude.{slice_index}
use Rattle.std.proofs.lemmas.List.{get_or_read, length-set, length_push}
use Rattle.vf_cycles.specs.Walks.{IsLast}
use Rattle.vf_cycles.proofs.Walking.{chain_more}
use Rattle.vf_cycles.proofs.graph.Graph.new.Goals as goal

pub loop-edge-preserved : goal.loop-edge-preserved
loop-edge-preserved c =
    let sources = c.args.sources.now in
    let edge = c.loop-edge.edge in
    let inv = c.loop-edge.invariant in
    let begin : slice_index sources edge < c.args.count = c.requires.begin edge c.loop-edge-test.true in
    let read : c.index.result.now ≡ slice_index c.loop-edge.last.items (slice_index sources edge) =
    get_or_read c.loop-edge.last.items (slice_index sources edge) c.index.result.now (let n = inv.nodes in omega arith) c.index.ensures 0 in
    let more = chain_more sources c.loop-edge.last.items c.loop-edge.before.items c.args.count edge c.index.result.now inv.nodes inv.edges begin inv.lasts inv.befores read in
    let pushed = c.in_ok-push.ensures.items in
    record {
      nodes = length-set c.loop-edge.last.items (slice_index sources edge) (edge + 1) ∙ inv.nodes;
      edges = ap length pushed ∙ length_push c.loop-edge.before.items c.index.result.now ∙ ap (λ n. n + 1) inv.edges;
      lasts = more.0;
      befores = subst (λ l. (k : ℕ) → k < edge + 1 → IsLast sources (slice_index sources k) k (slice_index l k)) (sym pushed) more.1;
    }
