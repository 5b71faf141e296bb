use Rattle.std.proofs.Common.{◌≡◌, ◌+◌, ◌++◌, ◌∷◌, [], drop, map, Some, slice_get, sym, ap, ◌∙◌}
use Rattle.vf_sorting.specs.Schemes.{sort_of_local}
use Rattle.vf_resolved_contracts.proofs.Steps.{one_more}
use Rattle.vf_resolved_contracts.proofs.starts.sorts_of.Goals as goal

pub loop-at-preserved : goal.loop-at-preserved
loop-at-preserved c =
    let ls = c.args.locals.now in
    let i = c.loop-at.at in
    let there : slice_get ls i ≡ Some c.in-Some.local.now = sym c.in-Some.ensures in
    ap (λ ts. ts ++ map sort_of_local (drop (i + 1) ls)) (c.in_ok-push.ensures.pushed ∙ ap (λ t. c.loop-at.all ++ t ∷ []) c.in_ok-sort.ensures)
    ∙ one_more sort_of_local c.loop-at.all ls i c.in-Some.local.now _ there c.loop-at.invariant
