use Rattle.std.proofs.Common.{◌≡◌, ◌++◌, [], List, ap, ◌∙◌, subst}
use Rattle.std.proofs.lemmas.List.{append-nil}
use Rattle.vf_closure.specs.Literals.{Literal, denied}
use Rattle.vf_closure.specs.Closure.{Conflict}
use Rattle.vf_formula.specs.Literals.{shown_literal}
use Rattle.vf_answer.proofs.Counting.{deniable}
use Rattle.vf_reasons.proofs.along.refutation_along.Goals as goal

pub denied-requires : goal.denied-requires
denied-requires g c = deniable [] (shown_literal c.args.goal.now) c.requires.plain

pub refutation_at-requires-clause-conflict : goal.refutation_at-requires-clause-conflict
refutation_at-requires-clause-conflict g c =
    let facts = c.args.path.now.now.facts in
    let none : denied (shown_literal c.args.goal.now) ≡ [] = rw c.in-None.is at c.in_ok-denial.ensures in
    subst (Conflict (g.U.Unfolder.unfoldings c.args.unfolder.now)) (ap (λ (ls : List Literal). facts ++ ls) none ∙ append-nil facts) c.requires.refuted
