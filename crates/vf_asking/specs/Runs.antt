-- Laws of courses.
use Rattle.std.specs.Prelude.{◌≡◌, ◌≤◌, ℕ, List, ◌++◌, length}
use Rattle.vf_asking.specs.Journal.{Asked, Seen}
use Rattle.vf_asking.specs.Course.{Course, Follows}
use Rattle.vf_asking.specs.Right.{AreRightFrom}

-- a run of a course puts entries at the end and changes no other, begins no unit, and takes no fact away
pub record OnlyAppends (s t : Seen) : Type 0 where
  pub new_entries : List Asked
  pub entries : t.entries ≡ s.entries ++ new_entries
  pub units : t.units ≡ s.units
  pub facts : s.facts ≤ t.facts

abbrev pub CoursesOnlyAppend : Type 0 → Type 0
CoursesOnlyAppend A = (c : Course A) (s t : Seen) (y : A) → Follows c s t y → OnlyAppends s t

-- two runs of one course from one beginning, with the same answers, have one result and one end
abbrev pub CoursesAreDetermined : Type 0 → Type 0
CoursesAreDetermined A = (c : Course A) (s t u : Seen) (y z : A) → Follows c s t y → Follows c s u z → t.entries ≡ u.entries → (y ≡ z) × (t ≡ u)

-- so they have where the answers of both are right
abbrev pub RightCoursesAreDetermined : Type 0 → Type 0
RightCoursesAreDetermined A = (c : Course A) (origin : ℕ) (s t u : Seen) (y z : A) → origin ≤ length s.entries → Follows c s t y → Follows c s u z → AreRightFrom origin t → AreRightFrom origin u → (y ≡ z) × (t ≡ u)
