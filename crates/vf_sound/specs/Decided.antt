-- Goals of this form are decided.
use Rattle.std.specs.Prelude.{◌≡◌, ◌↔◌, ℤ, Bool}
use Rattle.vf_meaning.specs.Valuations.{Valuation}
use Rattle.vf_meaning.specs.GhostValues.{Interpretation}
use Rattle.vf_closure.specs.Literals.{Literal, False, Holds, Meets}
use Rattle.vf_definitions.specs.Laws.{MeetsDefinitions}
use Rattle.vf_asking.specs.declared.answers.Answer.TheVariants.{Proved}
use Rattle.vf_asking.specs.Journal.{Asked}
use Rattle.vf_asking.specs.Right.{IsRight}
use Rattle.vf_exec.specs.Literals.{at_most_of, equal_of, truth_of}
use Rattle.vf_exec.specs.Small.{IsSmall}

-- a goal that is asked for in this form: a comparison of numbers that terms have, a truth value, or `false`
pub data IsOfForm (goal : Literal) : Type 0 where
  at_most : {a b : ℤ} → IsSmall a → IsSmall b → goal ≡ at_most_of a b → IsOfForm goal
  equal : {a b : ℤ} → IsSmall a → IsSmall b → goal ≡ equal_of a b → IsOfForm goal
  truth : {b : Bool} → goal ≡ truth_of b → IsOfForm goal
  falsehood : goal ≡ False → IsOfForm goal

-- where facts hold, a right answer to such a goal is Proved exactly where the goal holds
abbrev pub AnswersDecideGoals : Type 0
AnswersDecideGoals = (i : Interpretation) (v : Valuation) (e : Asked) → IsOfForm e.goal → MeetsDefinitions i e.definitions → Meets i v e.path → IsRight e → (e.answer ≡ Proved) ↔ Holds i v e.goal
