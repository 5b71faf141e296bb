use Rattle.std.proofs.Common.{◌++◌, List, sym, subst}
use Rattle.vf_closure.specs.Literals.{Literal}
use Rattle.vf_closure.specs.Closure.{no_unfoldings, Conflict}
use Rattle.vf_question.specs.declared.unfolding.Unfolding.{Unfolding}
use Rattle.vf_question.specs.Unfolded.{equations}
use Rattle.vf_unfolding.specs.Rounds.{AreInTurn}
use Rattle.vf_reasons.proofs.along.refutation_at.Goals as goal

pub long_of-requires-clause-turn : goal.long_of-requires-clause-turn
long_of-requires-clause-turn g c =
    let u = g.U.Unfolder.unfoldings c.args.unfolder.now in
    subst (λ (fs : List Literal). AreInTurn u fs c.made.result.now) (sym c.facts.ensures) (subst (λ (ms : List Unfolding). AreInTurn u c.args.path.now.now.facts ms) (sym c.made.ensures) c.requires.enough.turn)

pub long_of-requires-clause-conflict : goal.long_of-requires-clause-conflict
long_of-requires-clause-conflict g c =
    subst (λ (fs : List Literal). Conflict no_unfoldings (fs ++ equations c.made.result.now)) (sym c.facts.ensures) (subst (λ (ms : List Unfolding). Conflict no_unfoldings (c.args.path.now.now.facts ++ equations ms)) (sym c.made.ensures) (c.requires.enough.enough.0 c.requires.conflict))
