use Rattle.std.proofs.Common.{rules, ◌≡◌, ◌+◌, ◌≤◌, ◌++◌, length, min, drop, Some, slice_get, sym, ap, ◌∙◌}
use Rattle.vf_terms.specs.Settings.{setting_of}
use Rattle.vf_resolved_parts.specs.Patterns.{patterns_read}
use Rattle.vf_resolved_parts.proofs.Lists.{all_patterns, more_patterns, put_patterns}
use Rattle.vf_resolved_parts.proofs.patterns.patterns_read.Goals as goal

pub loop-at-preserved : goal.loop-at-preserved
loop-at-preserved c =
    let a = c.args in
    let s = setting_of a.setting.now in
    let ts = a.sorts.now in
    let xs = a.patterns.now in
    let i = c.loop-at.at in
    let sort_there : slice_get ts i ≡ Some c.in-Some.sort.now = sym c.in-Some.ensures in
    let there : slice_get xs i ≡ Some c.in-Some-get.pattern.now = sym c.in-Some-get.ensures in
    ap (λ ys. put_patterns ys (patterns_read s a.first (drop (i + 1) ts) c.pattern_read.new.progress (drop (i + 1) xs))) c.in_ok-push.ensures.pushed
    ∙ more_patterns s a.first ts xs i c.loop-at.progress c.pattern_read.new.progress c.in-Some.sort.now c.in-Some-get.pattern.now c.loop-at.all c.in_ok-pattern.pattern _ sort_there there c.in_ok-pattern.ensures c.loop-at.invariant

pub returns : goal.returns
returns c =
    let a = c.args in
    let m : min (length a.patterns.now) (length a.sorts.now) ≤ c.loop-at.at = search rules in
    all_patterns (setting_of a.setting.now) a.first a.sorts.now a.patterns.now c.loop-at.at c.loop-at.progress c.loop-at.all _ m c.loop-at.invariant
