use Rattle.std.proofs.Common.{rules, ◌≡◌, Err, sym}
use Rattle.vf_datatypes.proofs.Spelled.{arguments_on, arguments_stop}
use Rattle.vf_datatypes.proofs.arguments.sorts_of.Goals as goal

pub returns-in_err-sort : goal.returns-in_err-sort
returns-in_err-sort c =
    let e : c.from_residual.result ≡ Err c.in_err-sort.field-0.0 = search rules in
    arguments_stop c.args.scope.now c.args.stated.now c.args.own.now c.args.written.now c.loop-at.at c.in-Some.one.now c.loop-at.all _ _ (sym c.in-Some.ensures) c.in_err-sort.ensures e c.loop-at.invariant

pub loop-at-preserved : goal.loop-at-preserved
loop-at-preserved c = arguments_on c.args.scope.now c.args.stated.now c.args.own.now c.args.written.now c.loop-at.at c.in-Some.one.now c.loop-at.all c.push.new.self c.in_ok-sort.sort (sym c.in-Some.ensures) c.in_ok-sort.ensures c.in_ok-push.ensures.pushed c.loop-at.invariant
