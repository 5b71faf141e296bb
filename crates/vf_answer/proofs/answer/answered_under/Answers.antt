use Rattle.std.proofs.Common.{◌++◌, List, sym, ap, ◌∙◌}
use Rattle.vf_closure.specs.Literals as pure
use Rattle.vf_answer.proofs.answer.answered_under.Goals as goal

pub returns-clause-answer : goal.returns-clause-answer
returns-clause-answer g c = λ asked e.
    let facts = c.args.path.now.now.facts in
    c.answer_at-answer.ensures (g.U.Unfolder.unfoldings c.args.unfolder.now) facts asked (c.in_ok-push.ensures.facts ∙ ap (λ (ls : List pure.Literal). facts ++ ls) (sym e)) c.in_ok-push.ensures.enough
