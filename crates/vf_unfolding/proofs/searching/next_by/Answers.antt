use Rattle.std.proofs.Common.{rules, ◌≡◌, max, sym, subst}
use Rattle.std.specs.Prelude.{slice_index}
use Rattle.vf_closure.specs.Closure.{no_unfoldings, Same}
use Rattle.vf_question.specs.Questions.{at}
use Rattle.vf_unfolding.specs.Searched.{IsOfConstructor}
use Rattle.vf_unfolding.proofs.Standing.{at_index, by_term}
use Rattle.vf_question.specs.Plain.{IsPlain}
use Rattle.vf_unfolding.proofs.searching.next_by.Goals as goal

pub next_case-requires-clause-by : goal.next_case-requires-clause-by
next_case-requires-clause-by g c = subst IsPlain (sym c.index-terms-by.is) (c.requires.plain c.args.by c.index-terms-by.result c.requires.by)

pub returns : goal.returns
returns g c =
    let ts = c.args.terms.now in
    let w : at ts c.args.by ≡ c.index-terms-by.result = at_index ts c.args.by c.index-terms-by.result c.requires.by c.index-terms-by.is in
    let d : c.max-deepest.result ≡ max c.args.depth (slice_index c.args.depths.now c.args.by) = search rules in
    let i : IsOfConstructor c.index-terms-by.result = search rules in
    let q : Same no_unfoldings c.args.interning.now.literals (at ts c.args.switched) (at ts c.args.by) = search rules in
    by_term (g.U.Unfolder.unfoldings c.args.unfolder.now) c.args.made.now c.args.interning.now.literals ts c.args.depths.now c.args.application.now c.args.depth c.args.switched c.args.by c.index-terms-by.result c.max-deepest.result w d i q c.in_ok-next.next c.in_ok-next.ensures
