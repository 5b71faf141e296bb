use Rattle.std.proofs.Common.{refl}
use Rattle.vf_refute.specs.Closure.{level, squeezed}
use Rattle.vf_ground.proofs.Closing.{grown_edge, grown_merge, same_by, near_by}
use Rattle.vf_combination.proofs.Marked.{followed_of, marked_bound, bound_quiet, marked_merge, near_pushed, same_pushed, merged_kept}
use Rattle.vf_combination.proofs.exchange.supply.Goals as goal

pub returns-in_ok-bound_marking-in-OfBound-clause-followed : goal.returns-in_ok-bound_marking-in-OfBound-clause-followed
returns-in_ok-bound_marking-in-OfBound-clause-followed c = λ k.
    let t = rw c.in-OfBound.is at c.requires.task.task in
    followed_of c.args.classes.now c.args.bounds.now k c.args.classes.now c.bound_marking.new.bounds refl
    (grown_edge c.args.classes.now.nodes c.args.classes.now.merged c.args.bounds.now.edges c.bound_marking.new.bounds.edges _ c.in_ok-bound_marking-in-OfBound.ensures.edges
    (λ facts s. level t.0 t.1 (same_by c.args.classes.now.nodes facts c.args.classes.now.merged c.args.bounds.now.edges s t.2)))

pub returns-in_ok-bound_marking-in-OfBound-clause-marked : goal.returns-in_ok-bound_marking-in-OfBound-clause-marked
returns-in_ok-bound_marking-in-OfBound-clause-marked c = λ k.
    marked_bound c.args.classes.now c.args.bounds.now c.bound_marking.new.bounds k c.args.marks.now c.bound_marking.new.marks c.in_ok-bound_marking-in-OfBound.ensures.marked

pub returns-in_ok-bound_marking-in-OfBound-clause-quiet : goal.returns-in_ok-bound_marking-in-OfBound-clause-quiet
returns-in_ok-bound_marking-in-OfBound-clause-quiet c = λ k known fine u w.
    let t = rw c.in-OfBound.is at c.requires.task.task in
    bound_quiet c.args.classes.now c.bound_marking.new.bounds k c.args.task.left c.args.task.right t.2
    (near_pushed c.args.bounds.now.edges c.bound_marking.new.bounds.edges _ c.in_ok-bound_marking-in-OfBound.ensures.edges) known

pub returns-in_ok-merge_marking-in-OfEquality-clause-followed : goal.returns-in_ok-merge_marking-in-OfEquality-clause-followed
returns-in_ok-merge_marking-in-OfEquality-clause-followed c = λ k.
    let t = rw c.in-OfEquality.is at c.requires.task.task in
    followed_of c.args.classes.now c.args.bounds.now k c.merge_marking.new.classes c.args.bounds.now c.in_ok-merge_marking-in-OfEquality.ensures.on.nodes
    (grown_merge c.args.classes.now.nodes c.args.classes.now.merged c.merge_marking.new.classes.merged c.args.bounds.now.edges c.args.task.left c.args.task.right c.in_ok-merge_marking-in-OfEquality.ensures.merged
    (λ facts s. squeezed t.0 t.1 (near_by c.args.classes.now.nodes facts c.args.classes.now.merged c.args.bounds.now.edges s t.0 t.2) (near_by c.args.classes.now.nodes facts c.args.classes.now.merged c.args.bounds.now.edges s t.1 t.3)))

pub returns-in_ok-merge_marking-in-OfEquality-clause-marked : goal.returns-in_ok-merge_marking-in-OfEquality-clause-marked
returns-in_ok-merge_marking-in-OfEquality-clause-marked c = λ k. let h = c.in_ok-merge_marking-in-OfEquality.ensures in
    marked_merge c.args.classes.now c.merge_marking.new.classes c.args.bounds.now k c.args.marks.now c.merge_marking.new.marks h.on.nodes
    (merged_kept c.args.classes.now c.merge_marking.new.classes c.args.task.left c.args.task.right h.merged) h.marked

pub returns-in_ok-merge_marking-in-OfEquality-clause-quiet : goal.returns-in_ok-merge_marking-in-OfEquality-clause-quiet
returns-in_ok-merge_marking-in-OfEquality-clause-quiet c = λ k known fine u w. let h = c.in_ok-merge_marking-in-OfEquality.ensures in
    let t = rw c.in-OfEquality.is at c.requires.task.task in
    absurd (t.4 (h.marked.meet c.args.task.left c.args.task.right u w (same_pushed c.args.classes.now c.merge_marking.new.classes c.args.task.left c.args.task.right h.merged)))
