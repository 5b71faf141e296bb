use Rattle.std.proofs.Common.{◌≡◌, Some, None, sym, ap, ◌∙◌, arith}
use Rattle.std.specs.Option.{option_map, option_copied}
use Rattle.std.specs.FinMap as finite
use Rattle.std.proofs.lemmas.Grind.{common_steps}
use Rattle.vf_engine.specs.Memories.{block_of, memory_of}
use Rattle.vf_run.proofs.Counting.{mutex_new, mutex_old}
use Rattle.vf_run.proofs.counts.mutex_at.Goals as goal

pub returns-in-None-clause-memory : goal.returns-in-None-clause-memory
returns-in-None-clause-memory c = λ names holder counts.
    let none : finite.get (memory_of names c.args.blocks.now) c.args.number ≡ None = sym (c.get.ensures names) ∙ ap (λ o. option_map (block_of names) (option_copied o)) c.in-None.is in
    mutex_new (memory_of names c.args.blocks.now) c.args.number holder c.args.counts none counts

pub returns-in-Some-clause-memory : goal.returns-in-Some-clause-memory
returns-in-Some-clause-memory c = λ names holder counts.
    let some : finite.get (memory_of names c.args.blocks.now) c.args.number ≡ Some (block_of names c.in-Some.block.now) = sym (c.get.ensures names) ∙ ap (λ o. option_map (block_of names) (option_copied o)) c.in-Some.is in
    let both = mutex_old (memory_of names c.args.blocks.now) c.args.number holder (block_of names c.in-Some.block.now) c.args.counts some counts in
    let cells = both.1 in
    let ints = c.ints_of.ensures names in
    let rest = c.saturating_sub.ensures in
    (both.0, grind (arith, common_steps))
