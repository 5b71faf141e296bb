use Rattle.std.proofs.Common.{◌+◌, sym, ap, subst, ◌∙◌, arith}
use Rattle.vf_engine.specs.Shelves.{block_on}
use Rattle.vf_engine.specs.Taken.{AreCounted}
use Rattle.vf_engine.proofs.Shelves.{put_again, put_new, put_still, put_there, put_memory, same_memory, same_count, same_still, count_most, on_err}
use Rattle.vf_engine.proofs.Counts.{counted_still, counted_more, counted_same, count_most as group_most}
use Rattle.std.proofs.lemmas.Bool.{not-true, not-false}
use Rattle.vf_engine.proofs.blocks.Blocks.insert.Goals as goal

pub invariant_of-self : goal.invariant_of-self
invariant_of-self c =
    let old = c.args.self.now in
    let t = c.replace.new.self in
    let k = c.args.number in
    let there = not-false _ (sym c.is_free.ensures ∙ c.if-not-is_free.true) in
    let still = put_still old.shelf t k c.args.block c.replace.ensures in
    record {
      counted = old.counted ∙ sym (put_again old.shelf t k c.args.block c.replace.ensures there);
      grouped = counted_still (block_on old.shelf) (block_on t) old.groups.counts.items still old.grouped;
      from_one = old.from_one;
      taken = λ q low high. still q (old.taken q low high);
    }

pub returns-then-not-is_free-clause-inserted : goal.returns-then-not-is_free-clause-inserted
returns-then-not-is_free-clause-inserted c = λ names. put_memory names c.args.self.now.shelf c.replace.new.self c.args.number c.args.block c.replace.ensures

pub invariant_of-self-in-Break-branch-2 : goal.invariant_of-self-in-Break-branch-2
invariant_of-self-in-Break-branch-2 c =
    let old = c.args.self.now in
    let t = c.put.new.self in
    let h = c.in_err-put.ensures.unchanged in
    let still = same_still old.shelf t h in
    record {
      counted = old.counted ∙ sym (same_count old.shelf t h);
      grouped = counted_still (block_on old.shelf) (block_on t) c.reach.new.self.counts.items still
          (counted_same (block_on old.shelf) old.groups.counts.items c.reach.new.self.counts.items c.reach.ensures old.grouped);
      from_one = old.from_one;
      taken = λ q low high. still q (old.taken q low high);
    }

pub returns-in_err-put-clause-unchanged : goal.returns-in_err-put-clause-unchanged
returns-in_err-put-clause-unchanged c = on_err c.from_residual-in_err-put.result (λ names. same_memory names c.args.self.now.shelf c.put.new.self c.in_err-put.ensures.unchanged)

pub overflow_add-self : goal.overflow_add-self
overflow_add-self c =
    let counted = c.args.self.now.counted in
    let most = count_most c.args.self.now.shelf in
    let places = c.places-places.ensures.places in
    let small = c.places-places.ensures.small in
    omega (arith, counted, most, places, small)

pub add-requires : goal.add-requires
add-requires c =
    let old = c.args.self.now in
    group_most (block_on old.shelf) c.reach.new.self.counts.items _ (counted_same (block_on old.shelf) old.groups.counts.items c.reach.new.self.counts.items c.reach.ensures old.grouped)

pub invariant_of-self-2 : goal.invariant_of-self-2
invariant_of-self-2 c =
    let old = c.args.self.now in
    let t = c.put.new.self in
    let k = c.args.number in
    let h = c.in_ok-put.ensures.put in
    let none = not-true _ (sym c.is_free.ensures ∙ c.if-not-is_free.false) in
    let still = put_still old.shelf t k c.args.block h in
    record {
      counted = ap (λ n. n + 1) old.counted ∙ sym (put_new old.shelf t k c.args.block h none);
      grouped = subst (AreCounted (block_on t)) (sym c.add.ensures)
          (counted_more (block_on old.shelf) (block_on t) c.reach.new.self.counts.items k still none (put_there old.shelf t k c.args.block h)
          (counted_same (block_on old.shelf) old.groups.counts.items c.reach.new.self.counts.items c.reach.ensures old.grouped));
      from_one = old.from_one;
      taken = λ q low high. still q (old.taken q low high);
    }

pub returns-clause-inserted : goal.returns-clause-inserted
returns-clause-inserted c = λ names. put_memory names c.args.self.now.shelf c.put.new.self c.args.number c.args.block c.in_ok-put.ensures.put
