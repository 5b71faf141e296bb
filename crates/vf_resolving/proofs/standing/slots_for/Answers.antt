use Rattle.std.proofs.Common.{◌≡◌, ◌+◌, ◌++◌, drop, Some, slice_get, sym, ap, ◌∙◌, ◌∷◌, []}
use Rattle.vf_resolving.specs.Standings.{around_of, slots_for}
use Rattle.vf_resolving.proofs.Lists.{more_slots}
use Rattle.vf_resolving.proofs.standing.slots_for.Goals as goal

pub loop-at-preserved : goal.loop-at-preserved
loop-at-preserved c =
    let a = around_of c.args.around.now in
    let ts = c.args.sorts.now in
    let i = c.loop-at.at in
    let there : slice_get ts i ≡ Some c.in-Some.sort.now = sym c.in-Some.ensures in
    ap (λ xs. xs ++ slots_for a (c.args.first + (i + 1)) (drop (i + 1) ts)) (c.in_ok-push.ensures.pushed ∙ ap (λ x. c.loop-at.all ++ x ∷ []) c.slot_for.ensures)
    ∙ more_slots a c.args.first ts i c.in-Some.sort.now c.in_ok-sort.sort c.loop-at.all c.in_ok-number.number _ there c.in_ok-sort.ensures c.in_ok-number.ensures c.loop-at.invariant
