use Rattle.std.proofs.Common.{sym, subst}
use Rattle.vf_reasons.specs.declared.draft.Draft.{Draft}
use Rattle.vf_reasons.specs.Drafts.{IsDraft}
use Rattle.vf_reasons.proofs.Finding.{found_case, item_at}
use Rattle.vf_reasons.proofs.ways.find_case.Goals as goal

pub returns-in-Some-clause-found : goal.returns-in-Some-clause-found
returns-in-Some-clause-found g c = λ ls made d.
    let u = g.U.Unfolder.unfoldings c.args.unfolder.now in
    let b = c.args.basis.now in
    let m = c.args.unfolding.now in
    let stays = (rw c.in-Some.is at c.in_ok-found.ensures).stays in
    let now = subst (λ (e : Draft). IsDraft u ls made b e) (sym c.loop-k.invariant.still) d in
    let f = stays u ls made now in
    let at_k = item_at c.deref-by-items.result.now b.terms.items c.loop-k.k c.by-item.result c.deref-by-items.ensures.value c.loop-k-test.true c.by-item.is in
    (f.0, found_case u ls m b c.derive_equal.new.draft c.args.x c.loop-k.k c.by-item.result c.in-Some.found at_k (c.in_ok-is_case.ensures.is.0 c.if-branch.true) (c.in_ok-is_case.ensures.plain c.if-branch.true) f.1)
