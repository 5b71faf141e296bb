use Rattle.vf_combination.proofs.Onward.{bounds_added}
use Rattle.vf_combination.proofs.Marked.{near_of}
use Rattle.vf_combination.proofs.marking.bound_marking.Goals as goal

pub returns-then-not-conflict-clause-on : goal.returns-then-not-conflict-clause-on
returns-then-not-conflict-clause-on c = let h = c.in_ok-add.ensures in bounds_added c.args.bounds.now c.add.new.self c.args.edge c.requires.of_steps h.size h.edges h.steps

pub returns-then-not-conflict-clause-marked : goal.returns-then-not-conflict-clause-marked
returns-then-not-conflict-clause-marked c = let h = c.in_ok-add.ensures in
    near_of c.args.bounds.now c.add.new.self c.args.edge c.shortened.result.now c.args.marks.now c.mark_squeezed.new.marks c.requires.of_steps h.steps h.size c.requires.long h.edges c.mark_squeezed.ensures c.shortened.ensures

pub returns-else-not-conflict-clause-on : goal.returns-else-not-conflict-clause-on
returns-else-not-conflict-clause-on c = let h = c.in_ok-add.ensures in bounds_added c.args.bounds.now c.add.new.self c.args.edge c.requires.of_steps h.size h.edges h.steps
