use Rattle.std.proofs.Common.{◌≡◌, Some, None, sym, ap, ◌∙◌, arith}
use Rattle.std.specs.Option.{option_map, option_copied}
use Rattle.std.specs.FinMap as finite
use Rattle.std.proofs.lemmas.Grind.{common_steps}
use Rattle.vf_engine.specs.Memories.{block_of, memory_of}
use Rattle.vf_run.proofs.Counting.{block_gone, none_gone}
use Rattle.vf_run.proofs.counts.one_block_less.Goals as goal

pub returns-in-None-clause-memory : goal.returns-in-None-clause-memory
returns-in-None-clause-memory c = λ names counts.
    let none : finite.get (memory_of names c.args.blocks.now) c.args.number ≡ None = sym (c.get.ensures names) ∙ ap (λ o. option_map (block_of names) (option_copied o)) c.in-None.is in
    none_gone (memory_of names c.args.blocks.now) c.args.number c.args.counts none counts

pub returns-in-Some-clause-memory : goal.returns-in-Some-clause-memory
returns-in-Some-clause-memory c = λ names counts.
    let some : finite.get (memory_of names c.args.blocks.now) c.args.number ≡ Some (block_of names c.in-Some.block.now) = sym (c.get.ensures names) ∙ ap (λ o. option_map (block_of names) (option_copied o)) c.in-Some.is in
    let both = block_gone (memory_of names c.args.blocks.now) c.args.number (block_of names c.in-Some.block.now) c.args.counts some counts in
    let blocks = both.0 in
    let cells = both.1 in
    let ints = c.ints_of.ensures names in
    let fewer = c.saturating_sub.ensures in
    let rest = c.saturating_sub-in-Some.ensures in
    (grind (arith, common_steps), grind (arith, common_steps))
