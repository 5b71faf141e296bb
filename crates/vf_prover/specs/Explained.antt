-- What is handed over of the question that was answered last.
use Rattle.std.specs.Prelude.{◌≡◌, ℕ, ◌<◌, ◌≤◌, List, [], ◌∷◌, ◌++◌, length, Option, Some, None}
use Rattle.vf_closure.specs.Literals.{Literal, denied}
use Rattle.vf_closure.specs.Closure.{Unfoldings}
use Rattle.vf_definitions.specs.Unfolded.{unfoldings_of}
use Rattle.vf_recheck.specs.declared.steps.Step.{Step}
use Rattle.vf_recheck.specs.declared.steps.Refutation.{Refutation}
use Rattle.vf_recheck.specs.Refutations.{IsRefutation}
use Rattle.vf_answer.specs.Answers.{IsAnswer}
use Rattle.vf_answer.specs.declared.answer.Answer.TheVariants as answers
use Rattle.vf_asking.specs.declared.answers.Answer.TheVariants.{Proved}
use Rattle.vf_asking.specs.Journal.{Asked}
use Rattle.vf_prover.specs.declared.deciding.Explained.{Explained}
use Rattle.vf_prover.specs.declared.deciding.Explained.TheVariants as explained_

-- an answer to a question is right, and where it is Proved its refutation refutes the goal's negation beside the facts
abbrev pub IsExplained : Unfoldings → List Literal → Literal → Explained → Type 0
IsExplained u path goal (explained_.Proved r) = IsAnswer u path goal answers.Proved × IsRefutation u (path ++ denied goal) r.steps.items
IsExplained u path goal explained_.Unknown = IsAnswer u path goal answers.Unknown
IsExplained u path goal explained_.Terms = IsAnswer u path goal answers.Terms

-- the question that was answered last
abbrev pub last_asked : List Asked → Option Asked
last_asked [] = None
last_asked (e ∷ []) = Some e
last_asked (e ∷ f ∷ es) = last_asked (f ∷ es)

-- the last question was answered Proved after so many had been answered, and steps refute its goal's negation under its facts, its unit's fixpoints being unfolded
pub record DoExplain (entries : List Asked) (handed : ℕ) (steps : List Step) : Type 0 where
  pub new : handed < length entries
  pub last : Asked
  pub is : last_asked entries ≡ Some last
  pub proved : last.answer ≡ Proved
  pub refuted : IsRefutation (unfoldings_of last.definitions) (last.path ++ denied last.goal) steps

-- What is handed over: a refutation of the last question; or none, exactly where that was not answered Proved, or no question was answered since a refutation was asked for
abbrev pub IsHandedOver : List Asked → ℕ → Option Refutation → Type 0
IsHandedOver entries handed None = (e : Asked) → last_asked entries ≡ Some e → e.answer ≡ Proved → length entries ≤ handed
IsHandedOver entries handed (Some r) = DoExplain entries handed r.steps.items
