use Rattle.std.proofs.Common.{sym, ◌∙◌, arith}
use Rattle.std.proofs.lemmas.Bool.{false≢true}
use Rattle.vf_interning.proofs.Stable.{place_found, place_passed}
use Rattle.vf_interning.proofs.numbering.place.Goals as goal

pub returns-then-same : goal.returns-then-same
returns-then-same c =
    let e = place_found c.args.terms.now c.loop-i.i c.index-terms-i.result c.args.term.now c.loop-i-test.true c.index-terms-i.is (c.same.ensures.0 c.if-same.true) in
    omega (arith, c.loop-i.invariant)

pub loop-i-preserved : goal.loop-i-preserved
loop-i-preserved c =
    let e = place_passed c.args.terms.now c.loop-i.i c.index-terms-i.result c.args.term.now c.loop-i-test.true c.index-terms-i.is (λ k. false≢true (sym c.if-same.false ∙ c.same.ensures.1 k)) in
    omega (arith, c.loop-i.invariant)
