use Rattle.std.proofs.Common.{◌≡◌, ◌+◌, drop, false, Some, slice_get, sym, ap, ◌∙◌}
use Rattle.vf_syntax.specs.GhostExprTree.{ghost_expr_list, ghost_link_list}
use Rattle.vf_sorting.specs.Kinds.{is_pointer}
use Rattle.vf_terms.specs.Readings.{read, read_all, read_links}
use Rattle.vf_terms.specs.Settings.{setting_of}
use Rattle.vf_terms.proofs.Rows.{put_before, link_read, argument_read}
use Rattle.vf_terms.proofs.expression.+read.Goals as goal

pub all_linked-loop-at-preserved : goal.all_linked-loop-at-preserved
all_linked-loop-at-preserved t c =
    let s = setting_of c.args.setting.now in
    let links = c.args.links.now in
    let there : slice_get links c.loop-at.at ≡ Some c.in-Some.link.now = sym c.in-Some.ensures in
    ap (λ x. read_links s false x (ghost_link_list (drop (c.loop-at.at + 1) links))) c.in_ok-left.ensures
    ∙ link_read s c.loop-at.is_left_null c.loop-at.left links c.loop-at.at c.in-Some.link.now _ there c.loop-at.invariant

pub all_read-loop-at-preserved : goal.all_read-loop-at-preserved
all_read-loop-at-preserved t c =
    let s = setting_of c.args.setting.now in
    let n = c.args.scheme.now.parameters in
    let sorts = c.args.scheme.now.arguments in
    let xs = c.args.arguments.now in
    let i = c.loop-at.at in
    let sort_there : slice_get sorts i ≡ Some c.in-Some.parameter.now = sym c.in-Some.ensures in
    let there : slice_get xs i ≡ Some c.in-Some-get.argument.now = sym c.in-Some-get.ensures in
    let is = c.in_ok-argument.ensures ∙ ap (λ b. read s b c.loop-at.row.next c.in-Some-get.argument.now) (c.is_pointer.ensures ∙ ap is_pointer c.in_ok-wanted.ensures) in
    ap (λ ts. put_before ts (read_all s c.args.first n (drop (i + 1) sorts) c.in_ok-argument.argument.next (ghost_expr_list (drop (i + 1) xs)))) c.in_ok-push.ensures.pushed
    ∙ argument_read s c.args.first n sorts xs i c.loop-at.row.next c.in-Some.parameter.now c.in-Some-get.argument.now c.loop-at.row.terms c.in_ok-argument.argument _ sort_there there is c.loop-at.invariant
