use Rattle.std.proofs.Common.{[], sym, ◌∙◌}
use Rattle.vf_engine.specs.Shelves.{block_on}
use Rattle.vf_engine.proofs.Shelves.{memory_key, put_again, put_still, put_memory}
use Rattle.vf_engine.proofs.Counts.{counted_still}
use Rattle.vf_engine.proofs.blocks.Blocks.replace.Goals as goal

pub replace-requires : goal.replace-requires
replace-requires c = sym (memory_key [] c.args.self.now c.args.number) ∙ c.requires

pub invariant_of-self : goal.invariant_of-self
invariant_of-self c =
    let old = c.args.self.now in
    let t = c.replace.new.self in
    let k = c.args.number in
    let still = put_still old.shelf t k c.args.block c.replace.ensures in
    record {
      counted = old.counted ∙ sym (put_again old.shelf t k c.args.block c.replace.ensures (sym (memory_key [] old k) ∙ c.requires));
      grouped = counted_still (block_on old.shelf) (block_on t) old.groups.counts.items still old.grouped;
      from_one = old.from_one;
      taken = λ q low high. still q (old.taken q low high);
    }

pub returns : goal.returns
returns c = λ names. put_memory names c.args.self.now.shelf c.replace.new.self c.args.number c.args.block c.replace.ensures
