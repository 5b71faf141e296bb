-- The least text that has a property, in the order of bytes.
use Rattle.std.specs.Prelude.{◌≡◌, ℕ, ◌<◌, Bool, true, false, List, [], Option, Some, None, if◌then◌else◌, length, get_or}
use Rattle.std.specs.declared.cmp.Ordering.TheVariants.{Less}
use Rattle.std.specs.Cmp.Lexicographic.{slice_cmp}
use Rattle.std.specs.Ordering.{nat_cmp, is_lt}
use Rattle.vf_link.specs.Statements.{shown}
use Rattle.vf_link.specs.declared.statement.Topic.{Topic}

-- a text has the property, and none that stands before it in the order of bytes has
pub record IsLeast (P : List ℕ → Type 0) (text : List ℕ) : Type 0 where
  pub is : P text
  pub least : (other : List ℕ) → P other → slice_cmp nat_cmp other text ≡ Less → ⊥

-- no text has the property
abbrev pub HasNone : (List ℕ → Type 0) → Type 0
HasNone P = (text : List ℕ) → P text → ⊥

-- the least text with the property, or none where there is none
abbrev pub IsLeastOf : (List ℕ → Type 0) → Option (List ℕ) → Type 0
IsLeastOf P None = HasNone P
IsLeastOf P (Some text) = IsLeast P text

-- what is shown of a subject that is marked
pub record IsMarkedText (topic : Topic) (texts : List (List ℕ)) (marks : List Bool) (text : List ℕ) : Type 0 where
  pub at : ℕ
  pub within : at < length texts
  pub marked : get_or marks at false ≡ true
  pub is : text ≡ shown topic (get_or texts at [])

-- the lesser of two texts that may be missing
abbrev pub lesser : Option (List ℕ) → Option (List ℕ) → Option (List ℕ)
lesser None second = second
lesser (Some one) None = Some one
lesser (Some one) (Some other) = if is_lt (slice_cmp nat_cmp other one) then Some other else Some one
