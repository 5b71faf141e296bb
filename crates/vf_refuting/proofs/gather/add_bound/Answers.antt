use Rattle.vf_refute.specs.declared.steps.Derived.TheVariants.{AreWithin}
use Rattle.vf_log.proofs.Continued.{added_has, added_continues}
use Rattle.vf_refuting.proofs.Deriving.{of_most, within_small}
use Rattle.vf_refuting.proofs.Running.{logged, goes_more}
use Rattle.vf_refuting.proofs.gather.add_bound.Goals as goal

pub fact-requires : goal.fact-requires
fact-requires c = record { gives = (AreWithin c.args.edge.from c.args.edge.to c.args.edge.most, of_most c.args.run.now.log.facts c.args.i c.args.edge.from c.args.edge.to c.args.edge.most c.requires.fact, within_small c.args.edge.most c.requires.fine.2) }

pub add-requires-clause-run : goal.add-requires-clause-run
add-requires-clause-run c =
    let a = c.in_ok-reason.ensures.added (AreWithin c.args.edge.from c.args.edge.to c.args.edge.most) (of_most c.args.run.now.log.facts c.args.i c.args.edge.from c.args.edge.to c.args.edge.most c.requires.fact) in
    (logged c.args.run.now c.fact.new.self c.requires.run (added_continues a)).is

pub add-requires-clause-reason : goal.add-requires-clause-reason
add-requires-clause-reason c =
    added_has (c.in_ok-reason.ensures.added (AreWithin c.args.edge.from c.args.edge.to c.args.edge.most) (of_most c.args.run.now.log.facts c.args.i c.args.edge.from c.args.edge.to c.args.edge.most c.requires.fact))

pub returns-clause-goes : goal.returns-clause-goes
returns-clause-goes c =
    let a = c.in_ok-reason.ensures.added (AreWithin c.args.edge.from c.args.edge.to c.args.edge.most) (of_most c.args.run.now.log.facts c.args.i c.args.edge.from c.args.edge.to c.args.edge.most c.requires.fact) in
    goes_more (logged c.args.run.now c.fact.new.self c.requires.run (added_continues a)) c.in_ok-add.ensures.goes
