-- What a refutation shows.
use Rattle.std.specs.Prelude.{List, ◌++◌, All}
use Rattle.vf_meaning.specs.Valuations.{Valuation}
use Rattle.vf_meaning.specs.GhostValues.{Interpretation}
use Rattle.vf_closure.specs.Literals.{Literal, denied, Meets}
use Rattle.vf_closure.specs.Closure.{Unfoldings}
use Rattle.vf_closure.specs.Laws.{KeepValues, Entails}
use Rattle.vf_question.specs.Plain.{IsPlainLiteral}
use Rattle.vf_definitions.specs.declared.fixpoint.Fixpoint as declared
use Rattle.vf_definitions.specs.Unfolded.{unfoldings_of}
use Rattle.vf_definitions.specs.Laws.{MeetsDefinitions}
use Rattle.vf_recheck.specs.declared.steps.Step.{Step}
use Rattle.vf_recheck.specs.Closure.{HasConflict}
use Rattle.vf_recheck.specs.Refutations.{IsRefutation}

-- a refutation of plain literals shows a conflict of their closure
abbrev pub RefutationsShowConflicts : Type 0
RefutationsShowConflicts = (u : Unfoldings) (literals : List Literal) (steps : List Step) → All IsPlainLiteral literals → IsRefutation u literals steps → HasConflict u literals

-- where the closure of literals has a conflict, and unfolding keeps values, no valuation meets them all
abbrev pub ConflictsAreMetByNone : Type 0
ConflictsAreMetByNone = (i : Interpretation) (u : Unfoldings) (literals : List Literal) → KeepValues i u → HasConflict u literals → (v : Valuation) → Meets i v literals → ⊥

-- where the closure of facts and a goal's negation has a conflict, and unfolding keeps values, the facts entail the goal
abbrev pub RefutationsAreSound : Type 0
RefutationsAreSound = (i : Interpretation) (u : Unfoldings) (path : List Literal) (goal : Literal) → KeepValues i u → HasConflict u (path ++ denied goal) → Entails i path goal

-- where that closure has one with some fixpoints, the facts entail the goal whatever else is declared, as long as these have the values of their bodies
abbrev pub DefinitionsEntail : Type 0
DefinitionsEntail =
    (fs : List declared.Fixpoint) (path : List Literal) (goal : Literal) → HasConflict (unfoldings_of fs) (path ++ denied goal) → (i : Interpretation) → MeetsDefinitions i fs → Entails i path goal
