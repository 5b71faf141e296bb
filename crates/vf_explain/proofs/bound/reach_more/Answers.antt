use Rattle.std.proofs.Common.{◌<◌, ◌∙◌, arith}
use Rattle.std.specs.Prelude.{count_by, is_none}
use Rattle.vf_log.proofs.Continued.{continued_more}
use Rattle.vf_explain.proofs.Reaching.{told_at_end, told_led, told_not, reasons_kept}
use Rattle.vf_explain.proofs.bound.reach_more.Goals.{then-branch, else-branch}
use Rattle.vf_explain.proofs.bound.reach_more.Goals as goal

pub returns-clause-told : goal.returns-clause-told
returns-clause-told c = told_at_end c.loop-i.is_any (count_by is_none c.loop-i.steps < count_by is_none c.args.steps.now) c.args.bounds.now.edges c.args.first.to c.loop-i.i c.loop-i.steps c.args.steps.now (let l = c.requires.reasons.long in let t = c.loop-i-test.false in omega (arith, l, t)) c.loop-i.invariant.told

pub loop-i-preserved : goal.loop-i-preserved
loop-i-preserved c =
    let over = c.in_ok-reach_over.ensures in
    let before = c.loop-i.invariant in
    record {
      continued = continued_more before.continued over.continued;
      reasons = reasons_kept c.loop-i.log.known c.reach_over.new.log.known c.args.bounds.now.edges c.args.reasons.now over.continued.kept before.reasons;
      reached = over.reached;
      long = over.long ∙ before.long;
      stays = λ y s h. over.stays y s (before.stays y s h);
      told = elim c.if-branch.branch [
        | then-branch w ↦ told_led c.args.bounds.now.edges c.args.first.to c.loop-i.i c.if-branch.is_any c.loop-i.is_any c.in_ok-reach_over.field-0 c.reach_over.new.steps c.loop-i.steps c.args.steps.now _ _ w.is_any-is w.if-branch.true over.told before.told
        | else-branch w ↦ told_not c.args.bounds.now.edges c.args.first.to c.loop-i.i c.edge_at-edge.result c.if-branch.is_any c.loop-i.is_any c.in_ok-reach_over.field-0 c.reach_over.new.steps c.loop-i.steps c.args.steps.now w.is_any-is w.if-branch.false c.edge_at-edge.ensures.found over.told before.told
      ];
    }
