-- Which statements fail a clause, by where their subjects are mentioned first.
use Rattle.std.specs.Prelude.{◌≡◌, ◌≢◌, ℕ, ◌<◌, ◌≤◌, Bool, true, false, List, [], ◌++◌, length, get_or, map}
use Rattle.vf_manifest.specs.declared.line.Line.{Line}
use Rattle.vf_link.specs.declared.statement.Topic.TheVariants.{Provided, Required}
use Rattle.vf_link.specs.declared.requirements.Requirements.{Requirements}
use Rattle.vf_link.specs.declared.call_order.Calls.{Calls}
use Rattle.vf_link.specs.declared.call_order.Calls.TheVariants as calls
use Rattle.vf_link.specs.Statements.{place, statements, subjects, contents}
use Rattle.vf_link.specs.Least.{IsLeast, HasNone}
use Rattle.vf_link.specs.Linking.{agree, CallsItself, IsCallOrder}

-- for each of so many places it is marked whether this is so of it
pub record Marks (count : ℕ) (marks : List Bool) (P : ℕ → Type 0) : Type 0 where
  pub nodes : length marks ≡ count
  pub is : (k : ℕ) → k < count → get_or marks k false ≡ true → P k
  pub each : (k : ℕ) → k < count → P k → get_or marks k false ≡ true

-- a text is mentioned before
abbrev pub IsRepeated : List (List ℕ) → ℕ → Type 0
IsRepeated texts k = place texts (get_or texts k []) ≢ k

-- what is said of a subject is not what is said of it first
abbrev pub IsContradicted : List (List ℕ) → List (List ℕ) → ℕ → Type 0
IsContradicted subjects contents k = get_or contents (place subjects (get_or subjects k [])) [] ≢ get_or contents k []

-- a subject behind the first so many is none of these
abbrev pub IsNoneOf : ℕ → List (List ℕ) → ℕ → Type 0
IsNoneOf count subjects k = count ≤ place subjects (get_or subjects k [])

-- what is said of a subject behind the first so many does not agree with what is said first, among these
abbrev pub DisagreesWith : ℕ → List (List ℕ) → List (List ℕ) → ℕ → Type 0
DisagreesWith count subjects contents k =
    (count ≤ k) × (place subjects (get_or subjects k []) < count) × (agree (get_or contents (place subjects (get_or subjects k [])) []) (get_or contents k []) ≡ false)

-- the statements of some lines on what is provided, and behind them those on what is required, with the place where each identity is
-- mentioned first
pub record Meets (ls : List Line) (r : Requirements) : Type 0 where
  pub count : r.provided ≡ length (statements Provided ls)
  pub subjects : r.statements.subjects ≡ subjects (statements Provided ls) ++ subjects (statements Required ls)
  pub contents : r.statements.contents ≡ contents (statements Provided ls) ++ contents (statements Required ls)
  pub firsts : r.firsts.items ≡ map (place r.statements.subjects) r.statements.subjects

-- how the lemmas of some lines call each other: an order of them, or the least that calls itself
abbrev pub IsCalls : List Line → Calls → Type 0
IsCalls ls (calls.Ordered order) = HasNone (CallsItself ls) × IsCallOrder ls order
IsCalls ls (calls.Cyclic identity) = IsLeast (CallsItself ls) identity
