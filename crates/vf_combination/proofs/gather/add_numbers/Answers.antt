use Rattle.std.proofs.Common.{arith, below_more}
use Rattle.std.specs.Prelude.{ℤ, pos}
use Rattle.vf_table.specs.Tables.{IsNumber}
use Rattle.vf_ground.specs.Held.{HasBoth}
use Rattle.vf_ground.proofs.Gained.{both_kept}
use Rattle.vf_ground.proofs.Closing.{grown_join}
use Rattle.vf_combination.proofs.Onward.{bounds_join}
use Rattle.vf_combination.proofs.Marked.{near_join}
use Rattle.vf_combination.proofs.gather.add_numbers.Goals as goal

pub loop-other-preserved : goal.loop-other-preserved
loop-other-preserved c = let e = c.in_ok-add_between.ensures in let h = c.in_ok-add_between-2.ensures in record {
  on = bounds_join c.args.bounds.now c.loop-other.bounds c.add_between-in-loop-other.new.bounds c.loop-other.invariant.on (bounds_join c.loop-other.bounds c.add_between.new.bounds c.add_between-in-loop-other.new.bounds e.on h.on);
  marked = near_join c.args.bounds.now c.args.marks.now c.loop-other.bounds c.loop-other.marks c.add_between-in-loop-other.new.bounds c.add_between-in-loop-other.new.marks c.loop-other.invariant.marked
      (near_join c.loop-other.bounds c.loop-other.marks c.add_between.new.bounds c.add_between.new.marks c.add_between-in-loop-other.new.bounds c.add_between-in-loop-other.new.marks e.marked h.marked);
  added = λ m. grown_join c.args.nodes.now m c.args.bounds.now.edges m c.loop-other.bounds.edges m c.add_between-in-loop-other.new.bounds.edges (c.loop-other.invariant.added m)
      (grown_join c.args.nodes.now m c.loop-other.bounds.edges m c.add_between.new.bounds.edges m c.add_between-in-loop-other.new.bounds.edges (e.added m) (h.added m));
  as_number = below_more (λ o. (k : ℤ) → IsNumber c.args.nodes.now c.args.term k → IsNumber c.args.nodes.now o (pos 0) → HasBoth c.add_between-in-loop-other.new.bounds.edges c.args.term o k) c.loop-other.other
      (λ o l k p z. both_kept c.loop-other.bounds.edges c.add_between-in-loop-other.new.bounds.edges (λ f i. h.marked.kept f (e.marked.kept f i)) c.args.term o k (c.loop-other.invariant.as_number o l k p z))
      (λ k p z. both_kept c.add_between.new.bounds.edges c.add_between-in-loop-other.new.bounds.edges h.marked.kept c.args.term c.loop-other.other k (e.has k p z));
  as_zero = below_more (λ a. (k : ℤ) → IsNumber c.args.nodes.now a k → IsNumber c.args.nodes.now c.args.term (pos 0) → HasBoth c.add_between-in-loop-other.new.bounds.edges a c.args.term k) c.loop-other.other
      (λ a l k p z. both_kept c.loop-other.bounds.edges c.add_between-in-loop-other.new.bounds.edges (λ f i. h.marked.kept f (e.marked.kept f i)) a c.args.term k (c.loop-other.invariant.as_zero a l k p z))
      (λ k p z. h.has k p z);
}

pub returns-clause-as_number : goal.returns-clause-as_number
returns-clause-as_number c = λ k o l p z. c.loop-other.invariant.as_number o (omega arith) k p z

pub returns-clause-as_zero : goal.returns-clause-as_zero
returns-clause-as_zero c = λ k a l p z. c.loop-other.invariant.as_zero a (omega arith) k p z
