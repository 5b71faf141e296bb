-- Each turn puts one step behind those that were read.
use Rattle.std.proofs.Common.{sym, ◌∙◌, arith}
use Rattle.vf_first.proofs.Loops.{steps_go, steps_stop, steps_more, steps_fail}
use Rattle.vf_first.proofs.statements.steps_of.Goals as goal

pub returns-in-Err : goal.returns-in-Err
returns-in-Err c =
    let l = c.loop-at in
    steps_fail c.in-Err.stop l.steps l.names c.args.all.now l.at _ c.in-Err.ensures.gives l.invariant.so_far

pub returns-then-at-count : goal.returns-then-at-count
returns-then-at-count c =
    let l = c.loop-at in
    steps_more l.steps l.names c.step_at.new.names c.args.all.now l.at c.in-Ok.step _ c.in-Ok.ensures.gives (sym c.if-is_last.ensures) (omega (arith, l.invariant.count, c.if-at-count.true)) l.invariant.so_far

pub returns-then-is_last : goal.returns-then-is_last
returns-then-is_last c =
    let l = c.loop-at in
    rw (c.in_ok-push.ensures.pushed, c.len-locals.ensures) (steps_stop l.steps l.names c.step_at.new.names c.args.all.now l.at c.in-Ok.step _ c.in-Ok.ensures.gives (sym c.if-is_last.ensures) (omega (arith, l.invariant.count, c.if-at-count.false)) l.invariant.so_far)

pub loop-at-preserved : goal.loop-at-preserved
loop-at-preserved c =
    let l = c.loop-at in
    record {
      count = l.invariant.count;
      few = omega (arith, c.in-Ok.ensures.one_more, l.invariant.few);
      so_far = rw c.in_ok-push.ensures.pushed (steps_go l.steps l.names c.step_at.new.names c.args.all.now l.at c.in-Ok.step _ c.in-Ok.ensures.gives (sym c.if-is_last.ensures) l.invariant.so_far);
    }
