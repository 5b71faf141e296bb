use Rattle.std.proofs.Common.{rules, ◌≡◌, ◌<◌, length, Some, slice_get, sym, ◌∙◌, arith}
use Rattle.std.proofs.lemmas.List.{length-map}
use Rattle.vf_steps.specs.Shown.{node_of, nodes_of}
use Rattle.vf_erase.specs.Counting.{counts_of}
use Rattle.vf_erase.proofs.Counting.{shown_at}
use Rattle.vf_erase.proofs.Erasing.{erased_more}
use Rattle.vf_erase.proofs.Fronts.{same_item, same_rest}
use Rattle.vf_erase.proofs.nodes.erase_nodes.Goals as goal

pub loop-at-preserved : goal.loop-at-preserved
loop-at-preserved c =
    let items = c.args.nodes.items in
    let ns = nodes_of items in
    let n = c.take_node-node.result in
    let left = c.loop-at.invariant.1 in
    let within : c.loop-at.at < length items = search rules in
    let count : length ns ≡ length items = length-map items node_of in
    let found : slice_get items c.loop-at.at ≡ Some n = sym (same_item c.loop-at.left.items items c.loop-at.at left) ∙ c.take_node-node.ensures.given in
    let is : c.in_ok-counts.counts ≡ counts_of ns = c.in_ok-counts.ensures in (
      c.take_node-node.ensures.length ∙ c.loop-at.invariant.0,
      c.take_node-node.ensures.behind ∙ same_rest c.loop-at.left.items items c.loop-at.at left,
      erased_more ns c.loop-at.at (node_of n) (nodes_of c.loop-at.kept.items) (nodes_of c.add_kept.new.kept.items) _ (shown_at items c.loop-at.at n found) (c.in_ok-add_kept.ensures ns is (omega (arith, within, count)) (omega (arith, within, count))) c.loop-at.invariant.2,
    )
