use Rattle.std.proofs.Common.{◌+◌, ap, arith}
use Rattle.vf_closure.specs.Literals as pure
use Rattle.vf_formula.specs.Literals.{shown_literal}
use Rattle.vf_question.specs.Numbered.{terms_of}
use Rattle.vf_question.specs.Plain.{IsPlainLiteral}
use Rattle.vf_question.proofs.Plainness.{one_of_all}
use Rattle.std.proofs.Common.{List, length}
use Rattle.vf_unfolding.proofs.Marks.{taken_more, front_few}
use Rattle.vf_unfolding.proofs.deciding.path_of.Goals as goal

pub push-requires-clause-plain : goal.push-requires-clause-plain
push-requires-clause-plain g c = one_of_all IsPlainLiteral shown_literal c.args.facts.now c.loop-fact.fact-index c.fact-item.result c.requires c.loop-fact-test.true c.fact-item.is

pub returns-then-count-gt-MOST_TERMS : goal.returns-then-count-gt-MOST_TERMS
returns-then-count-gt-MOST_TERMS g c =
    let xs = c.args.facts.now in
    let i = c.loop-fact.fact-index in
    let e = taken_more xs i c.fact-item.result c.loop-fact.path.now.facts c.push.new.self.now.facts c.loop-fact-test.true c.fact-item.is c.loop-fact.invariant.facts c.in_ok-push.ensures.facts in
    let l = front_few xs (i + 1) in
    let n = ap (λ (ls : List pure.Literal). length (terms_of ls)) e in
    omega (arith, l, n, c.count.ensures, c.if-count-gt-MOST_TERMS.true)

pub loop-fact-preserved : goal.loop-fact-preserved
loop-fact-preserved g c = record {
  facts = taken_more c.args.facts.now c.loop-fact.fact-index c.fact-item.result c.loop-fact.path.now.facts c.push.new.self.now.facts c.loop-fact-test.true c.fact-item.is c.loop-fact.invariant.facts c.in_ok-push.ensures.facts;
  enough = c.in_ok-push.ensures.enough;
  few = omega (arith, c.count.ensures, c.if-count-gt-MOST_TERMS.false);
}
