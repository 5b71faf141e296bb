-- Which answers are right.
use Rattle.std.specs.Prelude.{◌≡◌, ℕ, drop, All}
use Rattle.vf_meaning.specs.GhostValues.{Interpretation}
use Rattle.vf_closure.specs.Laws.{Entails}
use Rattle.vf_closure.specs.Closure.{IsRefuted}
use Rattle.vf_definitions.specs.Unfolded.{unfoldings_of}
use Rattle.vf_definitions.specs.Laws.{MeetsDefinitions}
use Rattle.vf_asking.specs.declared.answers.Answer.TheVariants.{Proved, Unknown}
use Rattle.vf_asking.specs.Journal.{Asked, Seen}

-- An answer is right. Proved comes where there is a plain refutation of the question, the fixpoints of the unit that asked being unfolded; and then the facts entail the goal, whatever else is declared, as long as these fixpoints have the values of their bodies. Unknown comes where there is none
pub record IsRight (e : Asked) : Type 0 where
  pub proved : e.answer ≡ Proved → (i : Interpretation) → MeetsDefinitions i e.definitions → Entails i e.path e.goal
  pub refuted : e.answer ≡ Proved → IsRefuted (unfoldings_of e.definitions) e.path e.goal
  pub unknown : e.answer ≡ Unknown → IsRefuted (unfoldings_of e.definitions) e.path e.goal → ⊥

-- the answers from an entry on are right
abbrev pub AreRightFrom : ℕ → Seen → Type 0
AreRightFrom origin s = All IsRight (drop origin s.entries)
