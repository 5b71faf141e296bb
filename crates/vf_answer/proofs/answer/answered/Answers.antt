use Rattle.std.proofs.Common.{List, map, subst}
use Rattle.std.specs.Prelude.{IfOk}
use Rattle.vf_closure.specs.Literals as pure
use Rattle.vf_formula.specs.Literals.{shown_literal}
use Rattle.vf_question.specs.Plain.{IsPlainLiteral}
use Rattle.vf_answer.specs.Answers.{IsAnswer}
use Rattle.vf_answer.proofs.Counting.{all_behind, facts_too_many}
use Rattle.vf_answer.proofs.answer.answered.Goals as goal

pub answered_along-requires-clause-plain : goal.answered_along-requires-clause-plain
answered_along-requires-clause-plain g c = all_behind IsPlainLiteral (map shown_literal c.args.facts.now) (pure.denied (shown_literal c.args.goal.now)) c.requires

pub returns-in-Some : goal.returns-in-Some
returns-in-Some g c =
    let u = g.U.Unfolder.unfoldings c.args.unfolder.now in
    let h = rw c.in-Some.is at c.in_ok-found.ensures in
    subst (λ (ls : List pure.Literal). IfOk c.answered_along.result (IsAnswer u ls (shown_literal c.args.goal.now))) h.1 c.answered_along.ensures.answer

pub returns-in-None : goal.returns-in-None
returns-in-None g c = facts_too_many (map shown_literal c.args.facts.now) (shown_literal c.args.goal.now) (rw c.in-None.is at c.in_ok-found.ensures)
