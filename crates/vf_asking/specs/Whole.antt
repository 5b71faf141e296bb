-- What is true of every journal.
use Rattle.std.specs.Prelude.{ℕ, ◌<◌, ◌≤◌, ◌^◌, List, length, All, IsTrue}
use Rattle.vf_formula.specs.Literals.{shown_literal}
use Rattle.vf_formula.specs.declared.literal.Literal.{Literal}
use Rattle.vf_definitions.specs.declared.fixpoint.Fixpoint.{Fixpoint}
use Rattle.vf_asking.specs.Plain.{is_plain_literal}
use Rattle.vf_asking.specs.declared.journal.Entry.{Entry}

-- the trail's facts are between plain terms
abbrev pub ArePlainFacts : List (ℕ × Literal) → Type 0
ArePlainFacts facts = All (λ row. IsTrue (is_plain_literal (shown_literal row.1))) facts

-- the questions were asked at nodes that the trail has
abbrev pub ArePlaced : List (ℕ × Literal) → List Entry → Type 0
ArePlaced facts entries = All (λ e. e.at.number ≤ length facts) entries

-- the questions were asked by units that had begun
abbrev pub AreOfUnits : List (List Fixpoint) → List Entry → Type 0
AreOfUnits units entries = All (λ e. e.unit < length units) entries

-- units are numbered by 32 bits
abbrev pub AreFew : List (List Fixpoint) → Type 0
AreFew units = length units < 2 ^ 32
