-- Pairs, one after another.
use Rattle.std.proofs.Common.{refl, ◌∙◌, arith}
use Rattle.vf_asking.proofs.Seeing.{grew_path, grew_node, grew_begun, grew_on, grew_not}
use Rattle.vf_equality.proofs.Rows.{item_compared, rows_start, rows_step, rows_differ, rows_fail, rows_short, rows_long, rows_end}
use Rattle.vf_equality.proofs.equal.all_equal.Goals as goal

pub loop-index-init : goal.loop-index-init
loop-index-init g c = record {
  begun = c.requires.begun;
  there = c.requires.there;
  first_there = c.requires.there;
  reaches = rows_start _ _ _ _ c.args.left.now c.args.right.now refl;
  grew = grew_not _;
  origin = refl;
}

pub returns-then-index-right-clause-says : goal.returns-then-index-right-clause-says
returns-then-index-right-clause-says g c = rows_short _ _ _ _ c.args.left.now c.args.right.now c.loop-index.index _ c.loop-index-test.true c.if-index-right.true c.loop-index.invariant.reaches

pub are_equal-requires-clause-left : goal.are_equal-requires-clause-left
are_equal-requires-clause-left g c = item_compared c.args.left.now c.loop-index.index c.index-left-index.result c.loop-index-test.true c.index-left-index.is c.requires.left

pub are_equal-requires-clause-right : goal.are_equal-requires-clause-right
are_equal-requires-clause-right g c = item_compared c.args.right.now c.loop-index.index c.index-right-index.result c.if-index-right.false c.index-right-index.is c.requires.right

pub returns-in-Ok-false-clause-says : goal.returns-in-Ok-false-clause-says
returns-in-Ok-false-clause-says g c = rows_differ _ _ _ _ _ c.args.left.now c.args.right.now c.loop-index.index c.index-left-index.result c.index-right-index.result c.in-Ok-false.field-0 _ _ c.in-Ok-false.field-0-test (grew_path _ _ _ c.loop-index.invariant.grew c.loop-index.invariant.first_there) c.loop-index-test.true c.if-index-right.false c.index-left-index.is c.index-right-index.is c.loop-index.invariant.reaches c.in-Ok-false.ensures.says

pub returns-in-Err-clause-says : goal.returns-in-Err-clause-says
returns-in-Err-clause-says g c = rows_fail _ _ _ _ _ c.args.left.now c.args.right.now c.loop-index.index c.index-left-index.result c.index-right-index.result _ _ c.in-Err.fault (grew_path _ _ _ c.loop-index.invariant.grew c.loop-index.invariant.first_there) c.loop-index-test.true c.if-index-right.false c.index-left-index.is c.index-right-index.is c.loop-index.invariant.reaches c.in-Err.ensures.says

pub loop-index-preserved : goal.loop-index-preserved
loop-index-preserved g c = record {
  begun = grew_begun _ _ c.are_equal.ensures.grew c.loop-index.invariant.begun;
  there = grew_node _ _ _ c.are_equal.ensures.grew c.loop-index.invariant.there;
  first_there = c.loop-index.invariant.first_there;
  reaches = rows_step _ _ _ _ _ c.args.left.now c.args.right.now c.loop-index.index c.index-left-index.result c.index-right-index.result c.in-Ok-true.field-0 _ _ c.in-Ok-true.field-0-test (grew_path _ _ _ c.loop-index.invariant.grew c.loop-index.invariant.first_there) c.loop-index-test.true c.if-index-right.false c.index-left-index.is c.index-right-index.is c.loop-index.invariant.reaches c.in-Ok-true.ensures.says;
  grew = grew_on _ _ _ c.loop-index.invariant.grew c.are_equal.ensures.grew;
  origin = c.are_equal.ensures.origin ∙ c.loop-index.invariant.origin;
}

pub returns-then-left-right-clause-says : goal.returns-then-left-right-clause-says
returns-then-left-right-clause-says g c = rows_long _ _ _ _ c.args.left.now c.args.right.now c.loop-index.index _ c.loop-index-test.false (omega arith) c.loop-index.invariant.reaches

pub returns-clause-says : goal.returns-clause-says
returns-clause-says g c = rows_end _ _ _ _ c.args.left.now c.args.right.now c.loop-index.index _ c.loop-index-test.false (omega arith) c.loop-index.invariant.reaches
