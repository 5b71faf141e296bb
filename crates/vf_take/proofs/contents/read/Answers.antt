-- Cells of the field, from place to place.
use Rattle.std.proofs.Common.{◌<◌, ◌+◌, length, refl, ap, ◌∙◌, arith}
use Rattle.vf_asking.proofs.Seeing.{grew_path, grew_node, grew_begun, grew_on, grew_not}
use Rattle.vf_take.proofs.Positions.{chunk_compared, item_of, one_name, next_within, next_is_one}
use Rattle.vf_take.proofs.Cells.{arguments_of, arguments_here, reads_start, reads_step, reads_gives, reads_faults, reads_fail, reads_end}
use Rattle.vf_take.proofs.contents.read.Goals as goal

pub loop-place-init : goal.loop-place-init
loop-place-init g c = record {
  begun = c.requires.begun;
  there = c.requires.there;
  first_there = c.requires.there;
  within = next_within c.args.name.now c.args.heap.now 0 c.next_of-place.result (omega arith) c.next_of-place.ensures;
  one_name = λ d low. next_is_one c.args.name.now c.args.heap.now 0 c.next_of-place.result d (omega arith) c.next_of-place.ensures low;
  reaches = reads_start _ _ _ _ _ _ c.args.heap.now c.next_of-place.result refl c.next_of-place.ensures;
  grew = grew_not _;
  origin = refl;
}

pub is_at-requires-clause-arguments : goal.is_at-requires-clause-arguments
is_at-requires-clause-arguments g c =
    let low : c.loop-place.place < length c.args.heap.now = omega (arith, c.loop-place-test.true, ap length c.as_slice-chunks.ensures) in
    let is = item_of c.args.heap.now c.as_slice-chunks.result.now c.loop-place.place c.index-chunks-place.result c.as_slice-chunks.ensures c.index-chunks-place.is in
    arguments_here c.as_slice-chunks.result.now c.loop-place.place c.index-chunks-place.result c.as_slice-arguments.result.now c.index-chunks-place.is c.as_slice-arguments.ensures
    (chunk_compared c.args.heap.now c.loop-place.place c.index-chunks-place.result low is c.requires.heap)

pub loop-place-preserved : goal.loop-place-preserved
loop-place-preserved g c =
    let inv = c.loop-place.invariant in
    let here = c.index-chunks-place.result in
    let low : c.loop-place.place < length c.args.heap.now = omega (arith, c.loop-place-test.true, ap length c.as_slice-chunks.ensures) in
    let is = item_of c.args.heap.now c.as_slice-chunks.result.now c.loop-place.place here c.as_slice-chunks.ensures c.index-chunks-place.is in
    record {
      begun = grew_begun _ _ c.is_at.ensures.grew inv.begun;
      there = grew_node _ _ _ c.is_at.ensures.grew inv.there;
      first_there = inv.first_there;
      within = next_within c.args.name.now c.args.heap.now (c.loop-place.place + 1) c.next_of-place-in-loop-place.result (omega (arith, low)) c.next_of-place-in-loop-place.ensures;
      one_name = λ d less. next_is_one c.args.name.now c.args.heap.now (c.loop-place.place + 1) c.next_of-place-in-loop-place.result d (omega (arith, low)) c.next_of-place-in-loop-place.ensures less;
      reaches = reads_step _ _ _ _ _ _ _ c.args.heap.now c.loop-place.place c.next_of-place-in-loop-place.result here c.as_slice-arguments.result.now c.in-Ok-false.field-0 _ _ c.in-Ok-false.field-0-test (grew_path _ _ _ inv.grew inv.first_there) low is (arguments_of c.as_slice-chunks.result.now c.loop-place.place here c.as_slice-arguments.result.now c.index-chunks-place.is c.as_slice-arguments.ensures) (one_name c.args.name.now c.args.heap.now c.loop-place.place here is (inv.one_name here low)) inv.reaches c.in-Ok-false.ensures.says c.next_of-place-in-loop-place.ensures;
      grew = grew_on _ _ _ inv.grew c.is_at.ensures.grew;
      origin = c.is_at.ensures.origin ∙ inv.origin;
    }

pub returns-clause-says : goal.returns-clause-says
returns-clause-says g c = reads_end _ _ _ _ _ _ c.args.heap.now c.loop-place.place _ _ (omega (arith, c.loop-place-test.false, ap length c.as_slice-chunks.ensures)) c.refused.ensures c.loop-place.invariant.reaches

pub content-requires : goal.content-requires
content-requires g c =
    let low : c.loop-place.place < length c.args.heap.now = omega (arith, c.loop-place-test.true, ap length c.as_slice-chunks.ensures) in
    let is = item_of c.args.heap.now c.as_slice-chunks.result.now c.loop-place.place c.index-chunks-place.result c.as_slice-chunks.ensures c.index-chunks-place.is in
    arguments_here c.as_slice-chunks.result.now c.loop-place.place c.index-chunks-place.result c.as_slice-arguments.result.now c.index-chunks-place.is c.as_slice-arguments.ensures
    (chunk_compared c.args.heap.now c.loop-place.place c.index-chunks-place.result low is c.requires.heap)

pub returns-in-Ok-clause-says : goal.returns-in-Ok-clause-says
returns-in-Ok-clause-says g c =
    let inv = c.loop-place.invariant in
    let here = c.index-chunks-place.result in
    let low : c.loop-place.place < length c.args.heap.now = omega (arith, c.loop-place-test.true, ap length c.as_slice-chunks.ensures) in
    let is = item_of c.args.heap.now c.as_slice-chunks.result.now c.loop-place.place here c.as_slice-chunks.ensures c.index-chunks-place.is in
    reads_gives _ _ _ _ _ _ _ c.args.heap.now c.loop-place.place here c.as_slice-arguments.result.now c.in-Ok-true.field-0 _ _ _ c.in-Ok-true.field-0-test (grew_path _ _ _ inv.grew inv.first_there) low is (arguments_of c.as_slice-chunks.result.now c.loop-place.place here c.as_slice-arguments.result.now c.index-chunks-place.is c.as_slice-arguments.ensures) (one_name c.args.name.now c.args.heap.now c.loop-place.place here is (inv.one_name here low)) inv.reaches c.in-Ok-true.ensures.says c.in-Ok.ensures

pub returns-in-Err-content-clause-says : goal.returns-in-Err-content-clause-says
returns-in-Err-content-clause-says g c =
    let inv = c.loop-place.invariant in
    let here = c.index-chunks-place.result in
    let low : c.loop-place.place < length c.args.heap.now = omega (arith, c.loop-place-test.true, ap length c.as_slice-chunks.ensures) in
    let is = item_of c.args.heap.now c.as_slice-chunks.result.now c.loop-place.place here c.as_slice-chunks.ensures c.index-chunks-place.is in
    reads_faults _ _ _ _ _ _ _ c.args.heap.now c.loop-place.place here c.as_slice-arguments.result.now c.in-Ok-true.field-0 _ _ _ c.in-Ok-true.field-0-test (grew_path _ _ _ inv.grew inv.first_there) low is (arguments_of c.as_slice-chunks.result.now c.loop-place.place here c.as_slice-arguments.result.now c.index-chunks-place.is c.as_slice-arguments.ensures) (one_name c.args.name.now c.args.heap.now c.loop-place.place here is (inv.one_name here low)) inv.reaches c.in-Ok-true.ensures.says c.in-Err-content.ensures

pub returns-in-Err-clause-says : goal.returns-in-Err-clause-says
returns-in-Err-clause-says g c =
    let inv = c.loop-place.invariant in
    let here = c.index-chunks-place.result in
    let low : c.loop-place.place < length c.args.heap.now = omega (arith, c.loop-place-test.true, ap length c.as_slice-chunks.ensures) in
    let is = item_of c.args.heap.now c.as_slice-chunks.result.now c.loop-place.place here c.as_slice-chunks.ensures c.index-chunks-place.is in
    reads_fail _ _ _ _ _ _ _ c.args.heap.now c.loop-place.place here c.as_slice-arguments.result.now _ _ _ (grew_path _ _ _ inv.grew inv.first_there) low is (arguments_of c.as_slice-chunks.result.now c.loop-place.place here c.as_slice-arguments.result.now c.index-chunks-place.is c.as_slice-arguments.ensures) (one_name c.args.name.now c.args.heap.now c.loop-place.place here is (inv.one_name here low)) inv.reaches c.in-Err.ensures.says
