-- Attempts, the oldest chunk first.
use Rattle.std.proofs.Common.{refl, sym, subst, ◌∙◌, length, arith}
use Rattle.vf_asking.proofs.Following.{blames_memory}
use Rattle.vf_asking.proofs.Seeing.{grew_begun, grew_on, grew_not}
use Rattle.vf_take.specs.Usable.{HeapCanBeCompared}
use Rattle.vf_take.proofs.Merging.{heap_put, merging_start, merging_step, merging_takes, merging_faults, merging_fails, merging_short, merging_end}
use Rattle.vf_take.proofs.gather.merge_and_take.Goals as goal

pub loop-round-init : goal.loop-round-init
loop-round-init g c = record {
  begun = c.requires.begun;
  there = c.requires.there;
  before = subst HeapCanBeCompared (sym c.new-before.ensures) tt;
  left = c.requires.heap;
  reaches = merging_start _ _ _ _ _ _ _ _ _ refl c.new-before.ensures refl;
  grew = grew_not _;
  origin = refl;
}

pub returns-then-count-eq0-clause-says : goal.returns-then-count-eq0-clause-says
returns-then-count-eq0-clause-says g c = merging_short _ _ _ _ (length c.args.heap) c.loop-round.round _ c.loop-round.before c.loop-round.rest c.refused.result _ (omega (arith, c.if-count-eq0.true, c.count.ensures)) c.refused.ensures c.loop-round.invariant.reaches

pub returns-in-Err-clause-says : goal.returns-in-Err-clause-says
returns-in-Err-clause-says g c = merging_fails _ _ _ _ (length c.args.heap) c.loop-round.round _ c.loop-round.before c.take_first-chunk.result c.take_first-chunk.new.self c.loop-round.rest c.in-Err.fault _ _ (omega (arith, c.loop-round-test.true, c.count-count.ensures)) c.take_first-chunk.ensures c.loop-round.invariant.reaches c.in-Err.ensures.says

pub returns-in-Ok-take_between-clause-says : goal.returns-in-Ok-take_between-clause-says
returns-in-Ok-take_between-clause-says g c = merging_takes _ _ _ _ (length c.args.heap) c.loop-round.round _ _ c.loop-round.before c.in-Ok.step.0 c.take_first-chunk.result c.take_first-chunk.new.self c.loop-round.rest c.in-Some.portion c.in-Ok-take_between.taken _ _ (omega (arith, c.loop-round-test.true, c.count-count.ensures)) c.take_first-chunk.ensures c.loop-round.invariant.reaches c.in-Ok.ensures.says c.in-Some.is c.in-Ok-take_between.ensures.gives

pub returns-in-Err-take_between-clause-says : goal.returns-in-Err-take_between-clause-says
returns-in-Err-take_between-clause-says g c = merging_faults _ _ _ _ (length c.args.heap) c.loop-round.round _ _ c.loop-round.before c.in-Ok.step.0 c.take_first-chunk.result c.take_first-chunk.new.self c.loop-round.rest c.in-Some.portion c.in-Err-take_between.fault _ _ (omega (arith, c.loop-round-test.true, c.count-count.ensures)) c.take_first-chunk.ensures c.loop-round.invariant.reaches c.in-Ok.ensures.says c.in-Some.is c.in-Err-take_between.ensures.gives

pub returns-in-Err-put-clause-says : goal.returns-in-Err-put-clause-says
returns-in-Err-put-clause-says g c = blames_memory _ _ _ _ refl

pub loop-round-preserved : goal.loop-round-preserved
loop-round-preserved g c =
    let inv = c.loop-round.invariant in
    record {
      begun = grew_begun _ _ c.attempt.ensures.grew inv.begun;
      there = c.in-Ok.ensures.node;
      before = heap_put c.loop-round.before c.put.new.self c.in-Ok.step.0.gathered.chunk c.in-Ok-put.ensures.pushed inv.before c.in-Ok.ensures.chunk;
      left = c.in-Ok.ensures.left;
      reaches = merging_step _ _ _ _ (length c.args.heap) c.loop-round.round _ _ c.loop-round.before c.put.new.self c.in-Ok.step.0 c.take_first-chunk.result c.take_first-chunk.new.self c.loop-round.rest _ _ (omega (arith, c.loop-round-test.true, c.count-count.ensures)) c.take_first-chunk.ensures inv.reaches c.in-Ok.ensures.says c.in-None.is c.in-Ok-put.ensures.pushed;
      grew = grew_on _ _ _ inv.grew c.attempt.ensures.grew;
      origin = c.attempt.ensures.origin ∙ inv.origin;
    }

pub returns-clause-says : goal.returns-clause-says
returns-clause-says g c = merging_end _ _ _ _ (length c.args.heap) c.loop-round.round _ c.loop-round.before c.loop-round.rest c.refused-2.result _ (omega (arith, c.loop-round-test.false, c.count-count.ensures)) c.refused-2.ensures c.loop-round.invariant.reaches
