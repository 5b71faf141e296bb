use Rattle.std.proofs.Common.{◌≡◌, ap, ◌∙◌, arith}
use Rattle.vf_question.specs.Numbered.{place}
use Rattle.vf_question.proofs.Places.{place_within}
use Rattle.vf_reasons.proofs.Based.{next_there}
use Rattle.vf_reasons.proofs.Finding.{does_unfold, does_by_case}
use Rattle.vf_reasons.proofs.adding.unfold_next.Goals as goal

pub overflow_cast-number : goal.overflow_cast-number
overflow_cast-number g c =
    let r = c.requires.next in
    let t = c.args.unfolding.now.application in
    let w = place_within t c.args.basis.now.terms.items in
    let few = r.2.based.interned.table.few in
    let e = c.place-number.ensures ∙ ap (place t) c.deref.ensures.value in
    omega (arith, w, few, e)

pub returns-in_ok-add_unfolding-in-Body : goal.returns-in_ok-add_unfolding-in-Body
returns-in_ok-add_unfolding-in-Body g c = λ ls made d n.
    let u = g.U.Unfolder.unfoldings c.args.unfolder.now in
    let b = c.args.basis.now in
    let m = c.args.unfolding.now in
    let w = (rw c.in-Body.is at c.in_ok-way_to.ensures) ls made d in
    let e : c.place-number.result ≡ place m.application b.terms.items = c.place-number.ensures ∙ ap (place m.application) c.deref.ensures.value in
    c.in_ok-add_unfolding-in-Body.ensures u ls made w.0 n (does_unfold u ls made b c.way_to.new.draft d.based m c.place-number.result (next_there ls made b d.based u m n) e w.1)

pub returns-in_ok-add_unfolding-in-Case : goal.returns-in_ok-add_unfolding-in-Case
returns-in_ok-add_unfolding-in-Case g c = λ ls made d n.
    let u = g.U.Unfolder.unfoldings c.args.unfolder.now in
    let b = c.args.basis.now in
    let m = c.args.unfolding.now in
    let w = (rw c.in-Case.is at c.in_ok-way_to.ensures) ls made d in
    let e : c.place-number.result ≡ place m.application b.terms.items = c.place-number.ensures ∙ ap (place m.application) c.deref.ensures.value in
    c.in_ok-add_unfolding-in-Case.ensures u ls made w.0 n (does_by_case u b c.way_to.new.draft m c.place-number.result c.in-Case.equal e w.1)
