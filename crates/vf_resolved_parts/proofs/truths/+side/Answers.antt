use Rattle.std.proofs.Common.{◌≡◌, ◌+◌, drop, false, Some, slice_get, sym, ap, ◌∙◌}
use Rattle.vf_syntax.specs.GhostExprTree.{ghost_link_list}
use Rattle.vf_terms.specs.Settings.{setting_of}
use Rattle.vf_resolved_parts.specs.Truths.{sides}
use Rattle.vf_resolved_parts.proofs.Links.{more_sides}
use Rattle.vf_resolved_parts.proofs.truths.+side.Goals as goal

pub sides-loop-at-preserved : goal.sides-loop-at-preserved
sides-loop-at-preserved t c =
    let s = setting_of c.args.setting.now in
    let links = c.args.links.now in
    let there : slice_get links c.loop-at.at ≡ Some c.in-Some.link.now = sym c.in-Some.ensures in
    ap (λ x. sides s false x (ghost_link_list (drop (c.loop-at.at + 1) links))) c.in_ok-left.ensures
    ∙ more_sides s c.loop-at.is_left_null c.loop-at.left links c.loop-at.at c.in-Some.link.now _ there c.loop-at.invariant
