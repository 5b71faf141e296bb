-- What right answers allow a course of questions to come to, without the journal.
use Rattle.std.specs.Prelude.{◌≡◌, ◌⊎◌, ◌≤◌, ◌-◌, ℕ, List, length}
use Rattle.vf_meaning.specs.GhostValues.{Interpretation}
use Rattle.vf_closure.specs.Laws.{Entails}
use Rattle.vf_definitions.specs.declared.fixpoint.Fixpoint.{Fixpoint}
use Rattle.vf_definitions.specs.Laws.{MeetsDefinitions}
use Rattle.vf_asking.specs.Journal.{Seen, definitions_at}
use Rattle.vf_asking.specs.Course.{Course, done, ask, push, Follows}
use Rattle.vf_asking.specs.Right.{AreRightFrom}

-- Right answers allow a course to come to a result: a goal is taken as proved only where the facts entail it, with what is declared, while any goal may be left unproved, and a fact may find the trail full
unfoldable pub Allows : {A : Type 0} → Interpretation → Course A → A → Type 0
Allows i (done x) y = y ≡ x
Allows i (ask path goal proved unknown) y = (Entails i path goal × Allows i proved y) ⊎ Allows i unknown y
Allows i (push taken full) y = Allows i taken y ⊎ Allows i full y

-- the definitions of the unit begun last, which is the one that asks
abbrev pub definitions_of : Seen → List Fixpoint
definitions_of s = definitions_at s.units (length s.units - 1)

-- where the answers of a run of a course are right, they allow what it came to, whatever else is declared, as long as the fixpoints of the unit that asked have the values of their bodies
abbrev pub RightAnswersAllow : Type 0 → Type 0
RightAnswersAllow A = (i : Interpretation) (c : Course A) (origin : ℕ) (s t : Seen) (y : A) → MeetsDefinitions i (definitions_of s) → origin ≤ length s.entries → Follows c s t y → AreRightFrom origin t → Allows i c y
