use Rattle.std.proofs.Common.{rules}
use Rattle.std.proofs.lemmas.Int.{to_z-of_z}
use Rattle.vf_ground.proofs.Gained.{gains_equal, gains_most, gains_difference}
use Rattle.vf_combination.proofs.Marked.{marked_merge, marked_bound, merged_kept}
use Rattle.vf_combination.proofs.gather.add_fact.Goals as goal

pub returns-in_ok-merge_marking-in-Equal-clause-gained : goal.returns-in_ok-merge_marking-in-Equal-clause-gained
returns-in_ok-merge_marking-in-Equal-clause-gained c = rw c.in-Equal.is (gains_equal c.args.classes.now.nodes c.args.classes.now.merged c.args.bounds.now.edges c.merge_marking.new.classes.merged c.in-Equal.a c.in-Equal.b c.in_ok-merge_marking-in-Equal.ensures.merged)

pub returns-in_ok-merge_marking-in-Equal-clause-marked : goal.returns-in_ok-merge_marking-in-Equal-clause-marked
returns-in_ok-merge_marking-in-Equal-clause-marked c = λ k. let h = c.in_ok-merge_marking-in-Equal.ensures in
    marked_merge c.args.classes.now c.merge_marking.new.classes c.args.bounds.now k c.args.marks.now c.merge_marking.new.marks h.on.nodes (merged_kept c.args.classes.now c.merge_marking.new.classes c.in-Equal.a c.in-Equal.b h.merged) h.marked

pub returns-in_ok-bound_marking-in-AtMost-clause-gained : goal.returns-in_ok-bound_marking-in-AtMost-clause-gained
returns-in_ok-bound_marking-in-AtMost-clause-gained c = let f : mir.Val.SFits mir.Syntax.w128 c.in-AtMost.most = search rules in
    rw c.in-AtMost.is (gains_most c.args.classes.now.nodes c.args.classes.now.merged c.args.bounds.now.edges c.bound_marking.new.bounds.edges c.in-AtMost.x c.in-AtMost.y c.in-AtMost.most (simp to_z-of_z at c.in_ok-bound_marking-in-AtMost.ensures.edges))

pub returns-in_ok-bound_marking-in-AtMost-clause-marked : goal.returns-in_ok-bound_marking-in-AtMost-clause-marked
returns-in_ok-bound_marking-in-AtMost-clause-marked c = λ k. marked_bound c.args.classes.now c.args.bounds.now c.bound_marking.new.bounds k c.args.marks.now c.bound_marking.new.marks c.in_ok-bound_marking-in-AtMost.ensures.marked

pub returns-in_ok-both_marking-in-Difference-clause-gained : goal.returns-in_ok-both_marking-in-Difference-clause-gained
returns-in_ok-both_marking-in-Difference-clause-gained c = let f : mir.Val.SFits mir.Syntax.w128 c.in-Difference.by = search rules in
    rw c.in-Difference.is (gains_difference c.args.classes.now.nodes c.args.classes.now.merged c.args.bounds.now.edges c.both_marking.new.bounds.edges c.in-Difference.x c.in-Difference.y c.in-Difference.by (simp to_z-of_z at c.in_ok-both_marking-in-Difference.ensures.edges))

pub returns-in_ok-both_marking-in-Difference-clause-marked : goal.returns-in_ok-both_marking-in-Difference-clause-marked
returns-in_ok-both_marking-in-Difference-clause-marked c = λ k. marked_bound c.args.classes.now c.args.bounds.now c.both_marking.new.bounds k c.args.marks.now c.both_marking.new.marks c.in_ok-both_marking-in-Difference.ensures.marked
