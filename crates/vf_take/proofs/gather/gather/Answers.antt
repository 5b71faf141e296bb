-- Younger chunks, one after another.
use Rattle.std.proofs.Common.{refl, sym, subst, ◌∙◌, false, arith}
use Rattle.vf_asking.proofs.Seeing.{grew_begun, grew_on, grew_not}
use Rattle.vf_take.specs.Usable.{HeapCanBeCompared}
use Rattle.vf_take.proofs.Merging.{heap_first, heap_rest, gathers_start, gathers_step, gathers_fails, gathers_end}
use Rattle.vf_take.proofs.gather.gather.Goals as goal

pub loop-alloc-init : goal.loop-alloc-init
loop-alloc-init g c = record {
  begun = c.requires.begun;
  there = c.requires.there;
  chunk = c.requires.older;
  stay = subst HeapCanBeCompared (sym c.new.ensures) tt;
  left = c.requires.younger;
  reaches = gathers_start _ _ _ _ _ _ _ _ refl (λ i. record { chunk = c.args.chunk; stay = c.new.ensures i; has_merged = false }) refl;
  grew = grew_not _;
  origin = refl;
}

pub gather_one-requires-clause-younger : goal.gather_one-requires-clause-younger
gather_one-requires-clause-younger g c = heap_first _ _ _ c.take_first-next.ensures c.loop-alloc.invariant.left

pub returns-in-Err-clause-says : goal.returns-in-Err-clause-says
returns-in-Err-clause-says g c = gathers_fails _ _ _ _ _ _ _ _ _ _ c.in-Err.fault c.take_first-next.ensures c.loop-alloc.invariant.reaches c.in-Err.ensures.says

pub loop-alloc-preserved : goal.loop-alloc-preserved
loop-alloc-preserved g c =
    let inv = c.loop-alloc.invariant in
    record {
      begun = grew_begun _ _ c.gather_one.ensures.grew inv.begun;
      there = c.in-Ok.ensures.node;
      chunk = c.in-Ok.ensures.chunk;
      stay = c.in-Ok.ensures.left;
      left = heap_rest _ _ _ c.take_first-next.ensures inv.left;
      reaches = gathers_step _ _ _ _ _ _ _ _ _ _ _ _ c.take_first-next.ensures inv.reaches c.in-Ok.ensures.says;
      grew = grew_on _ _ _ inv.grew c.gather_one.ensures.grew;
      origin = c.gather_one.ensures.origin ∙ inv.origin;
    }

pub returns-clause-says : goal.returns-clause-says
returns-clause-says g c = gathers_end _ _ _ _ _ _ _ _ refl (omega (arith, c.loop-alloc-test.false)) c.loop-alloc.invariant.reaches
