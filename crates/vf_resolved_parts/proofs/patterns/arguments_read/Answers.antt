use Rattle.std.proofs.Common.{rules, ◌≡◌, ◌+◌, ◌≤◌, ◌++◌, length, min, drop, Some, slice_get, sym, ap, ◌∙◌}
use Rattle.vf_terms.specs.Settings.{setting_of}
use Rattle.vf_resolved_parts.specs.Patterns.{arguments_read}
use Rattle.vf_resolved_parts.proofs.Lists.{all_arguments, more_arguments, put_arguments}
use Rattle.vf_resolved_parts.proofs.patterns.arguments_read.Goals as goal

pub loop-at-preserved : goal.loop-at-preserved
loop-at-preserved c =
    let a = c.args in
    let s = setting_of a.setting.now in
    let ts = a.sorts.now in
    let xs = a.patterns.now in
    let i = c.loop-at.at in
    let sort_there : slice_get ts i ≡ Some c.in-Some.sort.now = sym c.in-Some.ensures in
    let there : slice_get xs i ≡ Some c.in-Some-get.pattern.now = sym c.in-Some-get.ensures in
    ap (λ ys. put_arguments ys (arguments_read s (drop (i + 1) ts) c.in_ok-value.value.next (drop (i + 1) xs))) c.in_ok-push.ensures.pushed
    ∙ more_arguments s ts xs i c.loop-at.all.next c.in-Some.sort.now c.in-Some-get.pattern.now c.loop-at.all.arguments c.in_ok-value.value c.in_ok-argument.argument _ sort_there there c.in_ok-value.ensures c.in_ok-argument.ensures c.loop-at.invariant

pub returns : goal.returns
returns c =
    let a = c.args in
    let m : min (length a.patterns.now) (length a.sorts.now) ≤ c.loop-at.at = search rules in
    all_arguments (setting_of a.setting.now) a.sorts.now a.patterns.now c.loop-at.at c.loop-at.all.next c.loop-at.all.arguments _ m c.loop-at.invariant
