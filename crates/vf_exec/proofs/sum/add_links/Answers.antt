-- Operands, one after another.
use Rattle.std.proofs.Common.{refl, ◌∙◌, arith}
use Rattle.vf_asking.proofs.Seeing.{grew_path, grew_node, grew_begun, grew_on, grew_not}
use Rattle.vf_exec.proofs.Sums.{adds_start, adds_step, adds_fails, adds_end, item_is}
use Rattle.vf_exec.proofs.sum.add_links.Goals as goal

pub loop-link-init : goal.loop-link-init
loop-link-init g c = record {
  begun = c.requires.begun;
  there = c.requires.there;
  first_there = c.requires.there;
  small = c.requires.small;
  locals = c.requires.locals;
  reaches = adds_start _ _ _ _ _ _ _ refl;
  grew = grew_not _;
  origin = refl;
}

pub loop-link-preserved : goal.loop-link-preserved
loop-link-preserved g c = record {
  begun = grew_begun _ _ c.add_link.ensures.grew c.loop-link.invariant.begun;
  there = grew_node _ _ _ c.add_link.ensures.grew c.loop-link.invariant.there;
  first_there = c.loop-link.invariant.first_there;
  small = c.in-Ok.ensures.small;
  locals = c.requires.locals;
  reaches = adds_step _ _ _ _ _ _ _ _ _ _ _ _ _ (grew_path _ _ _ c.loop-link.invariant.grew c.loop-link.invariant.first_there) c.loop-link-test.true (item_is _ _ _ _ c.loop-link-test.true) c.loop-link.invariant.reaches c.in-Ok.ensures.says;
  grew = grew_on _ _ _ c.loop-link.invariant.grew c.add_link.ensures.grew;
  origin = c.add_link.ensures.origin ∙ c.loop-link.invariant.origin;
}

pub returns-in-Err-clause-says : goal.returns-in-Err-clause-says
returns-in-Err-clause-says g c = adds_fails _ _ _ _ _ _ _ _ _ _ _ _ _ (grew_path _ _ _ c.loop-link.invariant.grew c.loop-link.invariant.first_there) c.loop-link-test.true (item_is _ _ _ _ c.loop-link-test.true) c.loop-link.invariant.reaches c.in-Err.ensures.says

pub returns-clause-says : goal.returns-clause-says
returns-clause-says g c = adds_end _ _ _ _ _ c.loop-link.sum c.args.links.now c.loop-link.link-index _ (omega arith) c.loop-link.invariant.reaches
