use Rattle.vf_promises.proofs.Numbered.{more}
use Rattle.vf_promises.proofs.type_names.names_named.Goals as goal

pub loop-done-preserved : goal.loop-done-preserved
loop-done-preserved c = more c.args.scope.now c.args.named c.args.scope.now.names c.args.scope.now.declarations c.len-declared.result c.args.count c.loop-done.done c.loop-done.names c.put_name.new.names c.len-declared.ensures c.loop-done-test.true c.in_ok-put_name.ensures c.loop-done.invariant
