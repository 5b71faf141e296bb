use Rattle.std.proofs.Common.{length, ◌∙◌, ap, arith}
use Rattle.std.proofs.lemmas.List.{take_all}
use Rattle.vf_growing.specs.declared.journal.Step.TheVariants.{Merge}
use Rattle.vf_combination.proofs.Onward.{classes_merged}
use Rattle.vf_combination.proofs.Marked.{meet_of, unmarked_below}
use Rattle.vf_combination.proofs.marking.merge_marking.Goals as goal

pub returns-clause-on : goal.returns-clause-on
returns-clause-on c = let h = c.in_ok-merge.ensures in classes_merged c.args.classes.now c.merge.new.self c.args.a c.args.b c.requires.of_steps h.nodes h.merged h.steps

pub returns-clause-marked : goal.returns-clause-marked
returns-clause-marked c = let h = c.in_ok-merge.ensures in
    meet_of c.args.classes.now c.merge.new.self (Merge c.args.a c.args.b) c.moved.result.now c.args.marks.now c.mark_moved.new.marks c.requires.of_steps h.steps
    (let t = c.requires.of_steps.terms in let e = ap length h.nodes in take_all _ c.merge.new.self.nodes (omega arith) ∙ h.nodes)
    (λ x u. let m = c.mark_moved.ensures x u in (m.0, let l = unmarked_below c.args.marks.now x m.0 in omega arith, m.1)) c.moved.ensures
