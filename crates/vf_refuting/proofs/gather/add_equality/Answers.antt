use Rattle.vf_refute.specs.declared.steps.Derived.TheVariants.{AreEqual}
use Rattle.vf_log.proofs.Continued.{added_has, added_continues}
use Rattle.vf_refuting.proofs.Deriving.{of_equal}
use Rattle.vf_refuting.proofs.Running.{logged, goes_more}
use Rattle.vf_refuting.proofs.gather.add_equality.Goals as goal

pub fact-requires : goal.fact-requires
fact-requires c = record { gives = (AreEqual c.args.a c.args.b, of_equal c.args.run.now.log.facts c.args.i c.args.a c.args.b c.requires.fact, tt) }

pub merge-requires-clause-run : goal.merge-requires-clause-run
merge-requires-clause-run c =
    let a = c.in_ok-reason.ensures.added (AreEqual c.args.a c.args.b) (of_equal c.args.run.now.log.facts c.args.i c.args.a c.args.b c.requires.fact) in
    (logged c.args.run.now c.fact.new.self c.requires.run (added_continues a)).is

pub merge-requires-clause-reason : goal.merge-requires-clause-reason
merge-requires-clause-reason c =
    added_has (c.in_ok-reason.ensures.added (AreEqual c.args.a c.args.b) (of_equal c.args.run.now.log.facts c.args.i c.args.a c.args.b c.requires.fact))

pub returns-clause-goes : goal.returns-clause-goes
returns-clause-goes c =
    let a = c.in_ok-reason.ensures.added (AreEqual c.args.a c.args.b) (of_equal c.args.run.now.log.facts c.args.i c.args.a c.args.b c.requires.fact) in
    goes_more (logged c.args.run.now c.fact.new.self c.requires.run (added_continues a)) c.in_ok-merge.ensures.goes
