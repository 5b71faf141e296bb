use Rattle.std.proofs.Common.{refl}
use Rattle.vf_refuting.proofs.Running.{add_goes}
use Rattle.vf_refuting.proofs.run.add.Goals as goal

pub returns-clause-goes : goal.returns-clause-goes
returns-clause-goes c = add_goes c.args.run.now _ c.args.edge c.args.reason c.requires.run c.requires.reason refl refl c.in_ok-add.ensures.size c.in_ok-add.ensures.edges refl c.in_ok-push.ensures.items
