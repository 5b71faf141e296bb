use Rattle.std.proofs.Common.{[], sym, ◌∙◌, arith}
use Rattle.vf_engine.specs.Memories.{memory_of}
use Rattle.std.proofs.lemmas.Bool.{true≢false}
use Rattle.vf_engine.proofs.Shelves.{memory_key}
use Rattle.vf_engine.proofs.FreeNumbers.{least_there}
use Rattle.vf_engine.proofs.blocks.Blocks.least_free.Goals as goal

pub unreachable-requires : goal.unreachable-requires
unreachable-requires c =
    let now = c.args.self.now in
    let m = memory_of [] now in
    let few = c.requires [] in
    let end = c.loop-group-test.false in
    least_there m _ (λ b least bound. true≢false (sym (memory_key [] now b ∙ c.loop-group.invariant b least.from_one (omega (arith, few, end, bound))) ∙ least.free))
