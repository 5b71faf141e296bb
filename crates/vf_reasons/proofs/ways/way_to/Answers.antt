use Rattle.std.proofs.Common.{sym, ap, ◌∙◌, arith}
use Rattle.std.proofs.lemmas.Bool.{false≢true}
use Rattle.vf_question.specs.Numbered.{place}
use Rattle.vf_question.proofs.Has.{has_at}
use Rattle.vf_question.proofs.Places.{place_within}
use Rattle.vf_reasons.proofs.Based.{plain_term, next_there}
use Rattle.vf_reasons.proofs.Finding.{argument_there, has_argument, must_be_found, way_found}
use Rattle.vf_reasons.proofs.ways.way_to.Goals as goal

pub is_body-requires : goal.is_body-requires
is_body-requires g c = let r = c.requires.next in let b = c.args.basis.now in plain_term r.0 r.1 b r.2 c.args.unfolding.now.application (next_there r.0 r.1 b r.2 (g.U.Unfolder.unfoldings c.args.unfolder.now) c.args.unfolding.now r.3)

pub overflow_cast-x : goal.overflow_cast-x
overflow_cast-x g c =
    let r = c.requires.next in
    let w = place_within c.in-Some.argument.now c.args.basis.now.terms.items in
    let few = r.2.interned.table.few in
    let e = c.place-x.ensures ∙ ap (place c.in-Some.argument.now) c.deref.ensures.value in
    omega (arith, w, few, e)

pub find_case-requires-clause-plain : goal.find_case-requires-clause-plain
find_case-requires-clause-plain g c = λ k d l. let r = c.requires.next in let b = c.args.basis.now in plain_term r.0 r.1 b r.2 _ (has_at d b.terms.items k l)

pub find_case-requires-clause-application : goal.find_case-requires-clause-application
find_case-requires-clause-application g c = let r = c.requires.next in let b = c.args.basis.now in plain_term r.0 r.1 b r.2 c.args.unfolding.now.application (next_there r.0 r.1 b r.2 (g.U.Unfolder.unfoldings c.args.unfolder.now) c.args.unfolding.now r.3)

pub find_case-requires-clause-switched : goal.find_case-requires-clause-switched
find_case-requires-clause-switched g c =
    let r = c.requires.next in
    let b = c.args.basis.now in
    let u = g.U.Unfolder.unfoldings c.args.unfolder.now in
    let e = c.place-x.ensures ∙ ap (place c.in-Some.argument.now) c.deref.ensures.value in
    let h = has_argument u r.0 r.1 b r.2 c.args.unfolding.now r.3 (λ k. false≢true (sym c.if-branch.false ∙ c.in_ok-is_body.ensures.is.1 k)) c.in-Some.argument.now (sym c.in-Some.ensures) in
    omega (arith, e, h)

pub unreachable-requires : goal.unreachable-requires
unreachable-requires g c =
    let r = c.requires.next in
    let b = c.args.basis.now in
    let u = g.U.Unfolder.unfoldings c.args.unfolder.now in
    let e = c.place-x.ensures ∙ ap (place c.in-Some.argument.now) c.deref.ensures.value in
    let none = rw c.in-None-2.is at c.in_ok-found-in-Some.ensures in
    must_be_found u r.0 r.1 b r.2 c.args.unfolding.now r.3 (λ k. false≢true (sym c.if-branch.false ∙ c.in_ok-is_body.ensures.is.1 k)) c.in-Some.argument.now c.place-x.result (sym c.in-Some.ensures) e none.none

pub returns : goal.returns
returns g c = λ ls made d.
    let r = c.requires.next in
    let b = c.args.basis.now in
    let m = c.args.unfolding.now in
    let u = g.U.Unfolder.unfoldings c.args.unfolder.now in
    let e = c.place-x.ensures ∙ ap (place c.in-Some.argument.now) c.deref.ensures.value in
    let there = argument_there u r.0 r.1 b r.2 m r.3 (λ k. false≢true (sym c.if-branch.false ∙ c.in_ok-is_body.ensures.is.1 k)) c.in-Some.argument.now (sym c.in-Some.ensures) in
    let found = rw c.in-Some-2.is at c.in_ok-found-in-Some.ensures in
    let f = found.found ls made d in
    (f.0, way_found u ls made b d.based m c.find_case.new.draft (next_there r.0 r.1 b r.2 u m r.3) c.in-Some.argument.now c.place-x.result c.in-Some-2.found c.way_by.result (sym c.in-Some.ensures) e there f.1 c.way_by.ensures)
