use Rattle.std.proofs.Common.{◌≡◌, ◌+◌, ◌++◌, drop, Some, slice_get, sym, ap, ◌∙◌}
use Rattle.vf_terms.specs.Settings.{setting_of}
use Rattle.vf_resolved_parts.specs.Shares.{links_read}
use Rattle.vf_resolved_parts.proofs.Lists.{more_factors, put_factors}
use Rattle.vf_resolved_parts.proofs.shares.product_read.Goals as goal

pub loop-at-preserved : goal.loop-at-preserved
loop-at-preserved c =
    let a = c.args in
    let s = setting_of a.setting.now in
    let ls = a.links.now in
    let i = c.loop-at.at in
    let there : slice_get ls i ≡ Some c.in-Some.link.now = sym c.in-Some.ensures in
    ap (λ ys. put_factors ys (links_read s c.factor_read-in-loop-at.new.next (drop (i + 1) ls))) c.in_ok-push-2.ensures.pushed
    ∙ more_factors s ls i c.loop-at.next c.factor_read-in-loop-at.new.next c.in-Some.link.now c.loop-at.all c.in_ok-factor.factor _ there c.in_ok-factor.ensures c.loop-at.invariant
