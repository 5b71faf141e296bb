use Rattle.std.proofs.Common.{rules, sym, ◌∙◌}
use Rattle.std.proofs.lemmas.Bool.{false≢true}
use Rattle.vf_unfolding.specs.Searched.{AreDepths}
use Rattle.vf_unfolding.proofs.Standing.{terms_plain}
use Rattle.vf_unfolding.proofs.Rounded.{round_conflict, round_settled, round_next}
use Rattle.vf_unfolding.proofs.round.next_round.Goals as goal

pub returns-then-refuted : goal.returns-then-refuted
returns-then-refuted g c = λ facts kept right. round_conflict facts c.args.made.now c.args.asked.now c.args.interning.now.literals kept (c.refuted.ensures.0 c.if-refuted.true)

pub find_next-requires-clause-fine : goal.find_next-requires-clause-fine
find_next-requires-clause-fine g c = λ h. false≢true (sym c.if-refuted.false ∙ c.refuted.ensures.1 h)

pub find_next-requires-clause-plain : goal.find_next-requires-clause-plain
find_next-requires-clause-plain g c = terms_plain c.args.interning.now.literals c.terms-terms.result.now c.terms-terms.ensures.terms c.requires.plain

pub returns-in-Some : goal.returns-in-Some
returns-in-Some g c = λ facts kept right.
    let depths : AreDepths c.args.asked.now c.args.made.now c.terms-terms.result.now c.deref.result.now = search rules in
    round_next (g.U.Unfolder.unfoldings c.args.unfolder.now) facts c.args.made.now c.args.asked.now c.args.interning.now.literals c.terms-terms.result.now c.deref.result.now
    right kept c.terms-terms.ensures.terms depths c.in-Some.next (rw c.in-Some.is at c.in_ok-next.ensures)

pub returns : goal.returns
returns g c = λ facts kept right.
    let depths : AreDepths c.args.asked.now c.args.made.now c.terms-terms.result.now c.deref.result.now = search rules in
    round_settled (g.U.Unfolder.unfoldings c.args.unfolder.now) facts c.args.made.now c.args.asked.now c.args.interning.now.literals c.terms-terms.result.now c.deref.result.now
    right kept c.terms-terms.ensures.terms depths (λ h. false≢true (sym c.if-refuted.false ∙ c.refuted.ensures.1 h)) (rw c.in-None.is at c.in_ok-next.ensures)
