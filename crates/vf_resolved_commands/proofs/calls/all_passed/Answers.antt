use Rattle.std.proofs.Common.{rules, ◌≡◌, ◌+◌, ◌≤◌, length, min, drop, Some, slice_get, sym, ap, ◌∙◌}
use Rattle.vf_terms.specs.Settings.{setting_of}
use Rattle.vf_resolved_commands.specs.Commands.{all_passed}
use Rattle.vf_resolved_commands.proofs.Lists.{more_passed, passed_all, put_terms}
use Rattle.vf_resolved_commands.proofs.calls.all_passed.Goals as goal

pub loop-at-preserved : goal.loop-at-preserved
loop-at-preserved c =
    let a = c.args in
    let s = setting_of a.setting.now in
    let ts = a.sorts.now in
    let xs = a.arguments.now in
    let i = c.loop-at.at in
    let sort_there : slice_get ts i ≡ Some c.in-Some.sort.now = sym c.in-Some.ensures in
    let there : slice_get xs i ≡ Some c.in-Some-get.argument.now = sym c.in-Some-get.ensures in
    ap (λ us. put_terms us (all_passed s (drop (i + 1) ts) c.in_ok-value.value.next (drop (i + 1) xs))) c.in_ok-push.ensures.pushed
    ∙ more_passed s ts xs i c.loop-at.row.next c.in-Some.sort.now c.in-Some-get.argument.now c.loop-at.row.terms c.in_ok-value.value _ sort_there there c.in_ok-value.ensures c.loop-at.invariant

pub returns : goal.returns
returns c =
    let a = c.args in
    let m : min (length a.arguments.now) (length a.sorts.now) ≤ c.loop-at.at = search rules in
    passed_all (setting_of a.setting.now) a.sorts.now a.arguments.now c.loop-at.at c.loop-at.row _ m c.loop-at.invariant
