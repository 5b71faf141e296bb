use Rattle.std.proofs.Common.{sym, ◌∙◌}
use Rattle.vf_engine.specs.Shelves.{block_on}
use Rattle.vf_engine.specs.Memories.{IsSet}
use Rattle.vf_engine.proofs.Shelves.{changed_still, changed_count, written_memory}
use Rattle.vf_engine.proofs.Counts.{counted_still}
use Rattle.vf_engine.proofs.blocks.Blocks.write.Goals as goal

pub invariant_of-self : goal.invariant_of-self
invariant_of-self c =
    let old = c.args.self.now in
    let t = c.write.new.self in
    let still = changed_still old.shelf t c.args.number (IsSet c.args.index c.args.value) c.write.ensures in
    record {
      counted = old.counted ∙ sym (changed_count old.shelf t c.args.number (IsSet c.args.index c.args.value) c.write.ensures);
      grouped = counted_still (block_on old.shelf) (block_on t) old.groups.counts.items still old.grouped;
      from_one = old.from_one;
      taken = λ q low high. still q (old.taken q low high);
    }

pub returns : goal.returns
returns c = λ names. written_memory names c.args.self.now c.write.new.self c.args.number c.args.index c.args.value c.write.ensures
