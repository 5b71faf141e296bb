-- Arguments, one after another.
use Rattle.std.proofs.Common.{refl, ◌∙◌, arith}
use Rattle.vf_asking.proofs.Seeing.{grew_begun, grew_on, grew_not}
use Rattle.vf_take.proofs.Arguments.{argument_compared}
use Rattle.vf_take.proofs.Learning.{learns_start, learns_step, learns_fails, learns_short, learns_end}
use Rattle.vf_take.proofs.merge.learn_arguments.Goals as goal

pub loop-index-init : goal.loop-index-init
loop-index-init g c = record {
  begun = c.requires.begun;
  there = c.requires.there;
  reaches = learns_start _ _ _ _ c.args.older.now c.args.younger.now refl;
  grew = grew_not _;
  origin = refl;
}

pub returns-then-index-younger-clause-says : goal.returns-then-index-younger-clause-says
returns-then-index-younger-clause-says g c = learns_short _ _ _ _ _ c.args.older.now c.args.younger.now c.loop-index.index _ refl c.loop-index-test.true c.if-index-younger.true c.loop-index.invariant.reaches

pub learn_argument-requires-clause-older : goal.learn_argument-requires-clause-older
learn_argument-requires-clause-older g c = argument_compared c.args.older.now c.loop-index.index c.index-older-index.result c.loop-index-test.true c.index-older-index.is c.requires.older

pub learn_argument-requires-clause-younger : goal.learn_argument-requires-clause-younger
learn_argument-requires-clause-younger g c = argument_compared c.args.younger.now c.loop-index.index c.index-younger-index.result c.if-index-younger.false c.index-younger-index.is c.requires.younger

pub returns-in-Err-clause-says : goal.returns-in-Err-clause-says
returns-in-Err-clause-says g c = learns_fails _ _ _ _ c.args.older.now c.args.younger.now c.loop-index.index c.index-older-index.result c.index-younger-index.result _ _ c.in-Err.fault c.loop-index-test.true c.if-index-younger.false c.index-older-index.is c.index-younger-index.is c.loop-index.invariant.reaches c.in-Err.ensures.says

pub loop-index-preserved : goal.loop-index-preserved
loop-index-preserved g c = record {
  begun = grew_begun _ _ c.learn_argument.ensures.grew c.loop-index.invariant.begun;
  there = c.in-Ok.ensures.node;
  reaches = learns_step _ _ _ _ _ c.args.older.now c.args.younger.now c.loop-index.index c.index-older-index.result c.index-younger-index.result _ _ c.loop-index-test.true c.if-index-younger.false c.index-older-index.is c.index-younger-index.is c.loop-index.invariant.reaches c.in-Ok.ensures.says;
  grew = grew_on _ _ _ c.loop-index.invariant.grew c.learn_argument.ensures.grew;
  origin = c.learn_argument.ensures.origin ∙ c.loop-index.invariant.origin;
}

pub returns-clause-says : goal.returns-clause-says
returns-clause-says g c = learns_end _ _ _ _ _ c.args.older.now c.args.younger.now c.loop-index.index _ refl (omega arith) c.loop-index.invariant.reaches
