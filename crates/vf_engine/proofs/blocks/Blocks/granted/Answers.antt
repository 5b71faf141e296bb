use Rattle.std.proofs.Common.{◌≡◌, true, false, sym, ◌∙◌}
use Rattle.std.specs.FinMap as finite
use Rattle.std.proofs.lemmas.Bool.{cond-false, not-true, not-false}
use Rattle.vf_model.specs.Memory.{least_free}
use Rattle.vf_model.proofs.FreeBlocks.{least_granted}
use Rattle.vf_engine.specs.Memories.{memory_of}
use Rattle.vf_engine.proofs.FreeNumbers.{least_is_one}
use Rattle.vf_engine.proofs.Shelves.{memory_key, first_free}
use Rattle.vf_engine.proofs.blocks.Blocks.granted.Goals as goal

pub returns-then-is_free-clause-number : goal.returns-then-is_free-clause-number
returns-then-is_free-clause-number c = λ names.
    let now = c.args.self.now in
    let m = memory_of names now in
    let free : finite.contains_key m c.args.grant ≡ false = memory_key names now c.args.grant ∙ not-true _ (sym c.is_free.ensures ∙ c.if-is_free.true) in
    sym (cond-false _ (least_free m) c.args.grant free)

pub returns-clause-number : goal.returns-clause-number
returns-clause-number c = λ names.
    let now = c.args.self.now in
    let m = memory_of names now in
    let taken : finite.contains_key m c.args.grant ≡ true = memory_key names now c.args.grant ∙ not-false _ (sym c.is_free.ensures ∙ c.if-is_free.false) in
    least_is_one m _ _ (first_free names now c.least_free-number.result c.least_free-number.ensures) (least_granted m c.args.grant taken)
