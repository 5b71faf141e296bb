use Rattle.std.proofs.Common.{◌≡◌, ◌++◌, [], List, sym, ap, ◌∙◌}
use Rattle.std.proofs.lemmas.List.{append-nil}
use Rattle.vf_closure.specs.Literals as pure
use Rattle.vf_formula.specs.Literals.{shown_literal}
use Rattle.vf_answer.proofs.Counting.{deniable}
use Rattle.vf_answer.proofs.answer.answered_along.Goals as goal

pub denied-requires : goal.denied-requires
denied-requires g c = deniable [] (shown_literal c.args.goal.now) c.requires.plain

pub returns-in-None-clause-answer : goal.returns-in-None-clause-answer
returns-in-None-clause-answer g c =
    let facts = c.args.path.now.now.facts in
    let asked = shown_literal c.args.goal.now in
    let none : pure.denied asked ≡ [] = rw c.in-None.is at c.in_ok-denial.ensures in
    c.answer_at.ensures (g.U.Unfolder.unfoldings c.args.unfolder.now) facts asked (sym (ap (λ (ls : List pure.Literal). facts ++ ls) none ∙ append-nil facts)) c.requires.enough
