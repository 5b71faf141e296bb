use Rattle.std.proofs.Common.{◌≡◌, length, refl, arith}
use Rattle.std.proofs.lemmas.List.{length_push}
use Rattle.std.proofs.lemmas.Option.{slice_get_read, slice_get_within}
use Rattle.vf_log.proofs.Continued.{copied_more}
use Rattle.vf_log.proofs.copying.copy_table.Goals as goal

pub loop-node-preserved : goal.loop-node-preserved
loop-node-preserved c = rw c.in_ok-push.ensures.items (record {
  long = let e : length c.loop-node.out.items ≡ c.loop-node.node-index = c.loop-node.invariant.long in omega (arith, length_push c.loop-node.out.items c.in_ok-copy_node.field-0);
  each = copied_more c.args.nodes.now c.loop-node.out.items c.loop-node.node-index c.node-item.result c.in_ok-copy_node.field-0 c.loop-node.invariant.long
      (slice_get_read c.args.nodes.now (length c.args.nodes.now) c.loop-node.node-index c.node-item.result refl c.loop-node-test.true c.node-item.is)
      c.in_ok-copy_node.ensures c.loop-node.invariant.each;
})

pub returns : goal.returns
returns c = record {
  long = let e = c.loop-node.invariant.long in omega arith;
  each = λ a n e. c.loop-node.invariant.each a n (let l = slice_get_within c.args.nodes.now a n e in omega arith) e;
}
