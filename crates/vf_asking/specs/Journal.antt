-- What a journal shows to rules, and what calls do to one.
use Rattle.std.specs.Prelude.{◌≡◌, ℕ, zero, suc, ◌+◌, ◌-◌, ◌≤◌, List, [], ◌∷◌, ◌++◌, length, map}
use Rattle.vf_trail.specs.Trail.{path_of}
use Rattle.vf_trail.specs.declared.node.Node.{Node}
use Rattle.vf_closure.specs.Literals.{Literal}
use Rattle.vf_formula.specs.Literals.{shown_literal}
use Rattle.vf_formula.specs.declared.literal.Literal as declared
use Rattle.vf_definitions.specs.declared.fixpoint.Fixpoint.{Fixpoint}
use Rattle.vf_asking.specs.declared.answers.Answer.{Answer}
use Rattle.vf_asking.specs.declared.journal.Entry.{Entry}
use Rattle.vf_asking.specs.declared.journal.Journal.{Journal}

-- the definitions of a unit, counted from 0; none where there is no such unit
abbrev pub definitions_at : List (List Fixpoint) → ℕ → List Fixpoint
definitions_at [] k = []
definitions_at (d ∷ ds) zero = d
definitions_at (d ∷ ds) (suc k) = definitions_at ds k

-- a question with its answer: the unit that asked and its definitions, the facts of the path, first pushed first, the goal and the answer
pub record Asked : Type 0 where
  pub unit : ℕ
  pub definitions : List Fixpoint
  pub path : List Literal
  pub goal : Literal
  pub answer : Answer

-- what rules see of a journal: the definitions of the units that were begun, the questions with their answers, and how many facts the trail holds
pub record Seen : Type 0 where
  pub units : List (List Fixpoint)
  pub entries : List Asked
  pub facts : ℕ

-- the facts of a node's path, first pushed first
abbrev pub path_to : List (ℕ × declared.Literal) → ℕ → List Literal
path_to facts node = map shown_literal (path_of facts node)

-- an entry with its unit's definitions and the facts of its path
abbrev pub asked_of : List (List Fixpoint) → List (ℕ × declared.Literal) → Entry → Asked
asked_of units facts e = record { unit = e.unit; definitions = definitions_at units e.unit; path = path_to facts e.at.number; goal = shown_literal e.goal; answer = e.answer }

-- what rules see of a journal
unfoldable pub seen : Journal → Seen
seen j = record { units = j.units; entries = map (asked_of j.units j.trail.facts) j.entries; facts = length j.trail.facts }

-- nothing was begun, pushed or asked
abbrev pub nothing_seen : Seen
nothing_seen = record { units = []; entries = []; facts = 0 }

-- one more entry, of the unit begun last
abbrev pub noted : Seen → List Literal → Literal → Answer → Seen
noted s path goal answer = record s { entries = s.entries ++ (record { unit = length s.units - 1; definitions = definitions_at s.units (length s.units - 1); path = path; goal = goal; answer = answer }) ∷ [] }

-- one more fact
abbrev pub counted : Seen → Seen
counted s = record s { facts = s.facts + 1 }

-- one more unit, with its definitions
abbrev pub begun : List Fixpoint → Seen → Seen
begun d s = record s { units = s.units ++ d ∷ [] }

-- the facts of a node's path, first pushed first
unfoldable pub path_at : Journal → Node → List Literal
path_at j at = path_to j.trail.facts at.number

-- the trail has the node
unfoldable pub HasNode : Journal → Node → Type 0
HasNode j at = at.number ≤ length j.trail.facts

-- the facts, the units and the entries are as before; of the trail's room nothing is said
pub record IsAsBefore (j k : Journal) : Type 0 where
  pub facts : k.trail.facts ≡ j.trail.facts
  pub units : k.units ≡ j.units
  pub entries : k.entries ≡ j.entries

-- a unit was begun, with these definitions
pub record HasBegun (defs : List Fixpoint) (j k : Journal) : Type 0 where
  pub facts : k.trail.facts ≡ j.trail.facts
  pub units : k.units ≡ j.units ++ defs ∷ []
  pub entries : k.entries ≡ j.entries

-- a fact was hung on a node
pub record HasPushed (at : Node) (fact : declared.Literal) (j k : Journal) : Type 0 where
  pub facts : k.trail.facts ≡ j.trail.facts ++ (at.number, fact) ∷ []
  pub units : k.units ≡ j.units
  pub entries : k.entries ≡ j.entries

-- a goal was asked at a node by the unit begun last, with this answer
pub record HasAsked (at : Node) (goal : declared.Literal) (answer : Answer) (j k : Journal) : Type 0 where
  pub facts : k.trail.facts ≡ j.trail.facts
  pub units : k.units ≡ j.units
  pub entries : k.entries ≡ j.entries ++ (record { unit = length j.units - 1; at = at; goal = goal; answer = answer }) ∷ []

-- pushes and questions came between: the facts and the entries that were there still stand at the front, and the units are as before
pub record Grew (j k : Journal) : Type 0 where
  pub new_facts : List (ℕ × declared.Literal)
  pub facts : k.trail.facts ≡ j.trail.facts ++ new_facts
  pub units : k.units ≡ j.units
  pub new_entries : List Entry
  pub entries : k.entries ≡ j.entries ++ new_entries
