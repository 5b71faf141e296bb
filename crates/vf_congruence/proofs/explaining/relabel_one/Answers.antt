use Rattle.std.proofs.Common.{slice_index}
use Rattle.vf_log.proofs.Continued.{added_has, added_continues}
use Rattle.vf_congruence.proofs.Explained.{explained_kept, explained_set}
use Rattle.vf_congruence.proofs.explaining.relabel_one.Goals as goal

pub returns-clause-continued : goal.returns-clause-continued
returns-clause-continued c = added_continues (c.in_ok-steps.ensures.added c.args.i (slice_index c.args.labels.now c.args.i) c.args.to (c.requires.explained.each c.args.i c.requires.within) c.requires.step)

pub returns-clause-explained : goal.returns-clause-explained
returns-clause-explained c =
    let h = c.in_ok-steps.ensures.added c.args.i (slice_index c.args.labels.now c.args.i) c.args.to (c.requires.explained.each c.args.i c.requires.within) c.requires.step in
    explained_set c.transitive.new.self.known c.args.labels.now c.args.steps.now c.args.i c.args.to c.in_ok-steps.field-0 (explained_kept (added_continues h) c.requires.explained) c.requires.within (added_has h)
