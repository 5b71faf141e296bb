use Rattle.std.proofs.Common.{refl, sym, ◌∙◌, arith}
use Rattle.std.proofs.lemmas.Bool.{false≢true}
use Rattle.vf_formula.specs.declared.literal.Literal.TheVariants.{False}
use Rattle.vf_formula.specs.Literals.{shown_literal}
use Rattle.vf_question.specs.Plain.{IsPlainLiteral}
use Rattle.vf_question.proofs.Plainness.{one_of_all, all_of_each}
use Rattle.vf_question.proofs.plain.are_plain.Goals as goal

pub returns-then-not-is_plain_literal : goal.returns-then-not-is_plain_literal
returns-then-not-is_plain_literal c =
    (λ k. absurd (false≢true k), λ k. absurd (false≢true (sym c.if-not-is_plain_literal.true ∙ c.is_plain_literal.ensures.1 (one_of_all IsPlainLiteral shown_literal c.args.literals.now c.loop-literal.literal-index c.literal-item.result k c.loop-literal-test.true c.literal-item.is))))

pub returns : goal.returns
returns c = (λ k. all_of_each IsPlainLiteral shown_literal c.args.literals.now c.loop-literal.literal-index False (omega arith) c.loop-literal.invariant, λ k. refl)
