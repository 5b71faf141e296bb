use Rattle.vf_plain.specs.Identities.{paths_of}
use Rattle.vf_plain.proofs.Numbers.{more}
use Rattle.vf_plain.proofs.names.identities_named.Goals as goal

pub loop-done-preserved : goal.loop-done-preserved
loop-done-preserved c = more c.args.named (paths_of c.args.snapshot.now) c.args.scope.now.names c.args.scope.now.declarations c.len-names.result c.args.count c.loop-done.done c.loop-done.texts c.put_identity.new.texts c.len-names.ensures c.loop-done-test.true c.in_ok-put_identity.ensures c.loop-done.invariant
