use Rattle.std.proofs.Common.{rules, ◌≡◌, ◌+◌, ◌≤◌, Some, slice_get, sym, refl, ap, ◌∙◌, arith}
use Rattle.std.proofs.lemmas.Option.{slice_get_read}
use Rattle.vf_steps.specs.Shown.{node_of, nodes_of}
use Rattle.vf_functions.specs.Erased.{is_kept}
use Rattle.vf_erase.specs.Counting.{counted}
use Rattle.vf_erase.proofs.Counting.{counts_more, shown_at}
use Rattle.vf_erase.proofs.counts.count_nodes.Goals as goal
use Rattle.vf_erase.proofs.counts.count_nodes.Goals.{then-is_kept, else-is_kept}

pub loop-at-preserved : goal.loop-at-preserved
loop-at-preserved c =
    let n = node_of c.index.result.now in
    let here : slice_get (nodes_of c.args.nodes.now.items) c.loop-at.at ≡ Some n = shown_at c.args.nodes.now.items c.loop-at.at c.index.result.now (slice_get_read c.args.nodes.now.items _ c.loop-at.at c.index.result.now refl (search rules) c.index.ensures) in
    let counts : c.if-is_kept.count ≡ counted c.loop-at.count (is_kept n.action) = elim c.if-is_kept.branch [
      | then-is_kept w ↦ w.count-is ∙ omega arith ∙ ap (counted c.loop-at.count) (sym w.if-is_kept.true ∙ c.is_kept.ensures)
      | else-is_kept w ↦ w.count-is ∙ ap (counted c.loop-at.count) (sym w.if-is_kept.false ∙ c.is_kept.ensures)
    ] in
    let bound : c.loop-at.count ≤ c.loop-at.at = c.loop-at.invariant.1 in
    let most : c.if-is_kept.count ≤ c.loop-at.at + 1 = elim c.if-is_kept.branch [
      | then-is_kept w ↦ let is : c.if-is_kept.count ≡ c.loop-at.count + 1 = w.count-is in omega (arith, is, bound)
      | else-is_kept w ↦ let is : c.if-is_kept.count ≡ c.loop-at.count = w.count-is in omega (arith, is, bound)
    ] in
    (counts_more (nodes_of c.args.nodes.now.items) c.loop-at.at c.loop-at.count c.if-is_kept.count n c.loop-at.counts c.push.new.self _ here c.in_ok-push.ensures.pushed counts c.loop-at.invariant.0, most)
