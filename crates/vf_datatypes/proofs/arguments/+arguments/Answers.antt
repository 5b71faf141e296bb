use Rattle.std.proofs.Common.{rules, ◌≡◌, Err, sym}
use Rattle.vf_datatypes.proofs.Spelled.{sorts_on, sorts_stop}
use Rattle.vf_datatypes.proofs.arguments.+arguments.Goals as goal

pub argument_sorts-returns-in_err-sort : goal.argument_sorts-returns-in_err-sort
argument_sorts-returns-in_err-sort t c =
    let e : c.from_residual.result ≡ Err c.in_err-sort.field-0.0 = search rules in
    sorts_stop c.args.scope.now c.args.stated.now c.args.own.now c.args.written.now c.loop-at.at c.in-Some.one.now c.loop-at.all _ _ (sym c.in-Some.ensures) c.in_err-sort.ensures e c.loop-at.invariant

pub argument_sorts-loop-at-preserved : goal.argument_sorts-loop-at-preserved
argument_sorts-loop-at-preserved t c = sorts_on c.args.scope.now c.args.stated.now c.args.own.now c.args.written.now c.loop-at.at c.in-Some.one.now c.loop-at.all c.push.new.self c.in_ok-sort.sort (sym c.in-Some.ensures) c.in_ok-sort.ensures c.in_ok-push.ensures.pushed c.loop-at.invariant
