use Rattle.std.proofs.Common.{◌≡◌, ◌+◌, drop, Some, slice_get, sym, ap, ◌∙◌}
use Rattle.vf_syntax.specs.GhostExprTree.{ghost_link_list}
use Rattle.vf_terms.specs.Settings.{setting_of}
use Rattle.vf_resolved_parts.specs.Truths.{all_true, any_true}
use Rattle.vf_resolved_parts.proofs.Links.{more_true, more_either}
use Rattle.vf_resolved_parts.proofs.truths.+truth.Goals as goal

pub all_true-loop-at-preserved : goal.all_true-loop-at-preserved
all_true-loop-at-preserved t c =
    let s = setting_of c.args.setting.now in
    let links = c.args.links.now in
    let there : slice_get links c.loop-at.at ≡ Some c.in-Some.link.now = sym c.in-Some.ensures in
    ap (λ x. all_true s x (ghost_link_list (drop (c.loop-at.at + 1) links))) c.in_ok-left.ensures
    ∙ more_true s c.loop-at.left links c.loop-at.at c.in-Some.link.now _ there c.loop-at.invariant

pub any_true-loop-at-preserved : goal.any_true-loop-at-preserved
any_true-loop-at-preserved t c =
    let s = setting_of c.args.setting.now in
    let links = c.args.links.now in
    let there : slice_get links c.loop-at.at ≡ Some c.in-Some.link.now = sym c.in-Some.ensures in
    ap (λ x. any_true s x (ghost_link_list (drop (c.loop-at.at + 1) links))) c.in_ok-left.ensures
    ∙ more_either s c.loop-at.left links c.loop-at.at c.in-Some.link.now _ there c.loop-at.invariant
