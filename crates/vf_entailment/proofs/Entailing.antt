-- Right answers entail.
use Rattle.std.proofs.Common.{◌≡◌, zero, suc, List, [], ◌∷◌, map, subst, arith}
use Rattle.std.specs.Prelude.{Contains}
use Rattle.vf_meaning.specs.Valuations.{Valuation}
use Rattle.vf_meaning.specs.Structural.{AreOrdered}
use Rattle.vf_meaning.specs.Assertions.{Environment}
use Rattle.vf_meaning.specs.Environments.{Extends}
use Rattle.vf_closure.specs.Literals.{Literal, False}
use Rattle.vf_definitions.specs.declared.fixpoint.Fixpoint.{Fixpoint}
use Rattle.vf_asking.specs.declared.answers.Answer.TheVariants.{Proved}
use Rattle.vf_asking.specs.Journal.{Asked}
use Rattle.vf_asking.specs.Right.{IsRight}
use Rattle.vf_rules.specs.States.{meaning, IsMet, Meets}
use Rattle.vf_entailment.specs.Facts.{fact_of}
use Rattle.vf_entailment.specs.Trees.{tree_of, IsAmong, AreAmong}
use Rattle.vf_entailment.specs.Laws.{RightAnswersEntail, RightAnswersServeStates, ProvedFalsehoodIsInfeasible, LinkedDefinitionsStand, LinkedAnswersEntail}
use Rattle.vf_entailment.proofs.Facts.{literals_said}
use Rattle.vf_entailment.proofs.Trees.{definitions_met}

-- facts that are met are met one by one
each_met : (e : Environment) (v : Valuation) (path : List Literal) → Meets e v (map fact_of path) → (l : Literal) → Contains path l → IsMet e v (fact_of l)
each_met e v [] m l (k, low, is) = absurd (omega (arith, low))
each_met e v (x ∷ xs) m l (zero, low, is) = subst (λ y. IsMet e v (fact_of y)) is m.0
each_met e v (x ∷ xs) m l (suc k, low, is) = each_met e v xs m.1 l (k, omega (arith, low), is)

-- where each fact of the path is met, so is a goal that is proved
goal_met : (e : Environment) (a : Asked) → AreOrdered e.fixpoints → AreAmong e.fixpoints a.definitions → IsRight a → a.answer ≡ Proved → (v : Valuation) → ((l : Literal) → Contains a.path l → IsMet e v (fact_of l)) → IsMet e v (fact_of a.goal)
goal_met e a ordered among right proved v met =
    (literals_said (meaning e) v a.goal).1 (right.proved proved (meaning e) (definitions_met e a.definitions ordered among) v (λ l there. (literals_said (meaning e) v l).0 (met l there)))

pub right_answers_serve : RightAnswersServeStates
right_answers_serve e a ordered among right proved known meets = record { by = λ v m. goal_met e a ordered among right proved v (meets v m) }

pub right_answers_entail : RightAnswersEntail
right_answers_entail e a ordered among right proved = right_answers_serve e a ordered among right proved (map fact_of a.path) (λ v m. each_met e v a.path m)

pub falsehood_infeasible : ProvedFalsehoodIsInfeasible
falsehood_infeasible e a ordered among right proved goal = record {
  by = λ v m. (literals_said (meaning e) v False).0 (subst (λ g. IsMet e v (fact_of g)) goal ((right_answers_entail e a ordered among right proved).by v m));
}

-- what stands among the fixpoints of a unit stands among those of an environment that extends it
stands : (u e : Environment) (f : Fixpoint) → Extends u e → IsAmong u.fixpoints f → IsAmong e.fixpoints f
stands u e f extends h = record {
  sorts = h.sorts;
  result = h.result;
  body = h.body;
  number = h.number;
  is = h.is;
  there = extends.fixpoints (tree_of f.identity h.sorts h.result h.body) h.there;
}

pub linked_stand : LinkedDefinitionsStand
linked_stand units u e fs linked there among = (linked.ordered, λ f has. stands u e f (linked.all u there) (among f has))

pub linked_entail : LinkedAnswersEntail
linked_entail units u e a linked there among right proved =
    let stand = linked_stand units u e a.definitions linked there among in right_answers_entail e a stand.0 stand.1 right proved
