use Rattle.std.proofs.Common.{◌-◌, sym, ap, subst, ◌∙◌, arith}
use Rattle.vf_engine.specs.Shelves.{block_on}
use Rattle.vf_engine.specs.Taken.{AreCounted}
use Rattle.vf_engine.proofs.Shelves.{taken_one, taken_still, taken_memory, taken_less, none_taken, some_on}
use Rattle.vf_engine.proofs.Counts.{counted_less}
use Rattle.std.proofs.lemmas.Bool.{not-true, not-false}
use Rattle.vf_engine.proofs.blocks.Blocks.remove.Goals as goal

pub returns-then-is_free : goal.returns-then-is_free
returns-then-is_free c = λ names.
    let s = c.args.self.now.shelf in
    taken_memory names s s c.args.number (none_taken s c.args.number (not-true _ (sym c.is_free.ensures ∙ c.if-is_free.true)))

pub overflow_sub-self : goal.overflow_sub-self
overflow_sub-self c =
    let one = some_on c.args.self.now.shelf c.args.number (not-false _ (sym c.is_free.ensures ∙ c.if-is_free.false)) in
    let counted = c.args.self.now.counted in
    omega (arith, one, counted)

pub invariant_of-self : goal.invariant_of-self
invariant_of-self c =
    let old = c.args.self.now in
    let t = c.take.new.self in
    let k = c.args.number in
    let there = not-false _ (sym c.is_free.ensures ∙ c.if-is_free.false) in
    record {
      counted = ap (λ n. n - 1) old.counted ∙ sym (taken_one old.shelf t k c.take.ensures there);
      grouped = subst (AreCounted (block_on t)) (sym c.subtract.ensures)
          (counted_less (block_on old.shelf) (block_on t) old.groups.counts.items k (taken_still old.shelf t k c.take.ensures) old.grouped);
      from_one = let one = old.from_one in omega (arith, one);
      taken = taken_less old.shelf t k old.least c.min-self.result c.take.ensures (omega arith) (λ low. omega (arith, low)) old.taken;
    }

pub returns : goal.returns
returns c = λ names. taken_memory names c.args.self.now.shelf c.take.new.self c.args.number c.take.ensures
