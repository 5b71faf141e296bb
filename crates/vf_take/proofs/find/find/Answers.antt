-- Chunks of the head, from place to place.
use Rattle.std.proofs.Common.{◌<◌, ◌+◌, length, refl, ap, ◌∙◌, arith}
use Rattle.vf_asking.proofs.Seeing.{grew_path, grew_node, grew_begun, grew_on, grew_not}
use Rattle.vf_take.proofs.Positions.{chunk_compared, item_of, one_name, next_within, next_is_one}
use Rattle.vf_take.proofs.Finding.{finds_start, finds_step, finds_found, finds_fail, finds_end}
use Rattle.vf_take.proofs.find.find.Goals as goal

pub loop-place-init : goal.loop-place-init
loop-place-init g c = record {
  begun = c.requires.begun;
  there = c.requires.there;
  first_there = c.requires.there;
  within = next_within c.args.wanted.now.head.name c.args.heap.now 0 c.next_of-place.result (omega arith) c.next_of-place.ensures;
  one_name = λ d low. next_is_one c.args.wanted.now.head.name c.args.heap.now 0 c.next_of-place.result d (omega arith) c.next_of-place.ensures low;
  reaches = finds_start _ _ _ _ _ c.args.heap.now c.next_of-place.result refl c.next_of-place.ensures;
  grew = grew_not _;
  origin = refl;
}

pub try_chunk-requires-clause-chunk : goal.try_chunk-requires-clause-chunk
try_chunk-requires-clause-chunk g c =
    let low : c.loop-place.place < length c.args.heap.now = omega (arith, c.loop-place-test.true, ap length c.as_slice-chunks.ensures) in
    let is = item_of c.args.heap.now c.as_slice-chunks.result.now c.loop-place.place c.index-chunks-place.result c.as_slice-chunks.ensures c.index-chunks-place.is in
    chunk_compared c.args.heap.now c.loop-place.place c.index-chunks-place.result low is c.requires.heap

pub returns-in-Ok-Some-clause-says : goal.returns-in-Ok-Some-clause-says
returns-in-Ok-Some-clause-says g c =
    let inv = c.loop-place.invariant in
    let low : c.loop-place.place < length c.args.heap.now = omega (arith, c.loop-place-test.true, ap length c.as_slice-chunks.ensures) in
    let is = item_of c.args.heap.now c.as_slice-chunks.result.now c.loop-place.place c.index-chunks-place.result c.as_slice-chunks.ensures c.index-chunks-place.is in
    finds_found _ _ _ _ _ _ c.args.heap.now c.loop-place.place c.index-chunks-place.result c.in-Ok-Some.portion c.in-Ok-Some.field-0 _ _ c.in-Ok-Some.field-0-is (grew_path _ _ _ inv.grew inv.first_there) low is (one_name c.args.wanted.now.head.name c.args.heap.now c.loop-place.place c.index-chunks-place.result is (inv.one_name c.index-chunks-place.result low)) inv.reaches c.in-Ok-Some.ensures.says

pub returns-in-Err-clause-says : goal.returns-in-Err-clause-says
returns-in-Err-clause-says g c =
    let inv = c.loop-place.invariant in
    let low : c.loop-place.place < length c.args.heap.now = omega (arith, c.loop-place-test.true, ap length c.as_slice-chunks.ensures) in
    let is = item_of c.args.heap.now c.as_slice-chunks.result.now c.loop-place.place c.index-chunks-place.result c.as_slice-chunks.ensures c.index-chunks-place.is in
    finds_fail _ _ _ _ _ _ c.args.heap.now c.loop-place.place c.index-chunks-place.result _ _ c.in-Err.fault (grew_path _ _ _ inv.grew inv.first_there) low is (one_name c.args.wanted.now.head.name c.args.heap.now c.loop-place.place c.index-chunks-place.result is (inv.one_name c.index-chunks-place.result low)) inv.reaches c.in-Err.ensures.says

pub loop-place-preserved : goal.loop-place-preserved
loop-place-preserved g c =
    let inv = c.loop-place.invariant in
    let low : c.loop-place.place < length c.args.heap.now = omega (arith, c.loop-place-test.true, ap length c.as_slice-chunks.ensures) in
    let is = item_of c.args.heap.now c.as_slice-chunks.result.now c.loop-place.place c.index-chunks-place.result c.as_slice-chunks.ensures c.index-chunks-place.is in
    let here = c.index-chunks-place.result in
    record {
      begun = grew_begun _ _ c.try_chunk.ensures.grew inv.begun;
      there = grew_node _ _ _ c.try_chunk.ensures.grew inv.there;
      first_there = inv.first_there;
      within = next_within c.args.wanted.now.head.name c.args.heap.now (c.loop-place.place + 1) c.next_of-place-in-loop-place.result (omega (arith, low)) c.next_of-place-in-loop-place.ensures;
      one_name = λ d less. next_is_one c.args.wanted.now.head.name c.args.heap.now (c.loop-place.place + 1) c.next_of-place-in-loop-place.result d (omega (arith, low)) c.next_of-place-in-loop-place.ensures less;
      reaches = finds_step _ _ _ _ _ _ c.args.heap.now c.loop-place.place c.next_of-place-in-loop-place.result here c.in-Ok-None.field-0 _ _ c.in-Ok-None.field-0-is (grew_path _ _ _ inv.grew inv.first_there) low is (one_name c.args.wanted.now.head.name c.args.heap.now c.loop-place.place here is (inv.one_name here low)) inv.reaches c.in-Ok-None.ensures.says c.next_of-place-in-loop-place.ensures;
      grew = grew_on _ _ _ inv.grew c.try_chunk.ensures.grew;
      origin = c.try_chunk.ensures.origin ∙ inv.origin;
    }

pub returns-clause-says : goal.returns-clause-says
returns-clause-says g c = finds_end _ _ _ _ _ c.args.heap.now c.loop-place.place _ (omega (arith, c.loop-place-test.false, ap length c.as_slice-chunks.ensures)) c.loop-place.invariant.reaches
