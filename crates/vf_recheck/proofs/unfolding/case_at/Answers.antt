use Rattle.std.proofs.Common.{◌≡◌, Some, sym, ap, ◌∙◌, arith}
use Rattle.std.specs.Prelude.{slice_get}
use Rattle.std.proofs.lemmas.Option.{slice_get_within, slice_get-get_or}
use Rattle.vf_recheck.proofs.Turns.{case_told}
use Rattle.vf_recheck.proofs.unfolding.case_at.Goals as goal

pub returns-in-None-get : goal.returns-in-None-get
returns-in-None-get g c = λ b k. let l = c.in-None-get.ensures.lookup.3 in let w = slice_get_within c.args.terms.now c.args.number k.application k.stands in omega (arith, l, w)

pub returns-in_ok-case-in-Some-get : goal.returns-in_ok-case-in-Some-get
returns-in_ok-case-in-Some-get g c =
    let ts = c.args.terms.now in
    let n = c.args.number in
    let t = c.in-Some-get.application.now in
    let h = c.in-Some-get.ensures.lookup in
    let st : slice_get ts n ≡ Some t = slice_get-get_or ts n t h.3.0 ∙ ap Some (sym h.1) in
    case_told (g.U.Unfolder.unfoldings c.args.unfolder.now) ts c.args.known.now n c.args.step c.in-Some.equal.left c.in-Some.equal.right t c.in_ok-case-in-Some-get.case
    st c.in-Some.ensures (c.goes_by.ensures.0 c.if-not-goes_by.false) c.in_ok-case-in-Some-get.ensures
