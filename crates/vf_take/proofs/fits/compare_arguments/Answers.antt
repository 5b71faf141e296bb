-- Arguments, one after another.
use Rattle.std.proofs.Common.{refl, sym, ◌∙◌, arith}
use Rattle.vf_asking.proofs.Seeing.{grew_path, grew_node, grew_begun, grew_on, grew_not}
use Rattle.vf_take.proofs.Arguments.{argument_compared, pattern_compared, match_start, match_step, match_differs, match_fail, match_lacks, match_all}
use Rattle.vf_take.proofs.fits.compare_arguments.Goals as goal

pub loop-index-init : goal.loop-index-init
loop-index-init g c = record {
  begun = c.requires.begun;
  there = c.requires.there;
  first_there = c.requires.there;
  reaches = match_start _ _ _ _ c.args.arguments.now c.args.patterns.now refl;
  grew = grew_not _;
  origin = refl;
}

pub compare_argument-requires-clause-argument : goal.compare_argument-requires-clause-argument
compare_argument-requires-clause-argument g c = argument_compared c.args.arguments.now c.loop-index.index c.index-arguments-index.result c.loop-index-test.true c.index-arguments-index.is c.requires.arguments

pub compare_argument-requires-clause-pattern : goal.compare_argument-requires-clause-pattern
compare_argument-requires-clause-pattern g c = pattern_compared c.args.patterns.now c.loop-index.index c.index-patterns-index.result (omega arith) c.index-patterns-index.is c.requires.patterns

pub returns-in-Err-clause-says : goal.returns-in-Err-clause-says
returns-in-Err-clause-says g c = match_fail _ _ _ _ _ _ c.args.arguments.now c.args.patterns.now c.loop-index.index c.index-arguments-index.result c.index-patterns-index.result _ _ c.in-Err.fault (grew_path _ _ _ c.loop-index.invariant.grew c.loop-index.invariant.first_there) c.loop-index-test.true (omega arith) c.index-arguments-index.is c.index-patterns-index.is c.loop-index.invariant.reaches c.in-Err.ensures.says

pub returns-then-is_different-clause-says : goal.returns-then-is_different-clause-says
returns-then-is_different-clause-says g c = match_differs _ _ _ _ _ _ c.args.arguments.now c.args.patterns.now c.loop-index.index c.index-arguments-index.result c.index-patterns-index.result _ _ _ (grew_path _ _ _ c.loop-index.invariant.grew c.loop-index.invariant.first_there) c.loop-index-test.true (omega arith) c.index-arguments-index.is c.index-patterns-index.is (sym c.is_different.ensures ∙ c.if-is_different.true) c.loop-index.invariant.reaches c.in-Ok.ensures.says

pub loop-index-preserved : goal.loop-index-preserved
loop-index-preserved g c = record {
  begun = grew_begun _ _ c.compare_argument.ensures.grew c.loop-index.invariant.begun;
  there = grew_node _ _ _ c.compare_argument.ensures.grew c.loop-index.invariant.there;
  first_there = c.loop-index.invariant.first_there;
  reaches = match_step _ _ _ _ _ c.loop-index.lacks c.so_far-lacks.result c.args.arguments.now c.args.patterns.now c.loop-index.index c.index-arguments-index.result c.index-patterns-index.result _ _ _ (grew_path _ _ _ c.loop-index.invariant.grew c.loop-index.invariant.first_there) c.loop-index-test.true (omega arith) c.index-arguments-index.is c.index-patterns-index.is (sym c.is_different.ensures ∙ c.if-is_different.false) c.so_far-lacks.ensures c.loop-index.invariant.reaches c.in-Ok.ensures.says;
  grew = grew_on _ _ _ c.loop-index.invariant.grew c.compare_argument.ensures.grew;
  origin = c.compare_argument.ensures.origin ∙ c.loop-index.invariant.origin;
}

pub returns-then-lacks-clause-says : goal.returns-then-lacks-clause-says
returns-then-lacks-clause-says g c = match_lacks _ _ _ _ c.loop-index.lacks c.args.arguments.now c.args.patterns.now c.loop-index.index _ (omega arith) (omega arith) c.if-lacks.true c.loop-index.invariant.reaches

pub returns-clause-says : goal.returns-clause-says
returns-clause-says g c = match_all _ _ _ _ c.loop-index.lacks c.args.arguments.now c.args.patterns.now c.loop-index.index _ (omega arith) (omega arith) c.if-lacks.false c.loop-index.invariant.reaches
