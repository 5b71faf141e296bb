-- Two touches of one cell, and the race of two threads whose next steps these are.
use Rattle.std.specs.Prelude.{◌≡◌, ℕ, ◌≤◌, ◌||◌, Option, Some, IsTrue}
use Rattle.vf_base.specs.declared.place.Place.{Place}
use Rattle.vf_tree.specs.Core.{ProgramTree}
use Rattle.vf_model.specs.Memory.{Memory, Cell}
use Rattle.vf_model.specs.State.{State}
use Rattle.vf_model.specs.Acts.{Touch}
use Rattle.vf_model.specs.Races.{Covers, TouchesCell, Race, next_touch}

-- one cell is touched by both, and one of them writes it or frees its block
pub record Clash (m : Memory) (one two : Touch) : Type 0 where
  pub cell : Cell
  pub by_one : TouchesCell m one cell
  pub by_two : TouchesCell m two cell
  pub writes : IsTrue (one.writes || two.writes)

-- an index is covered by both
abbrev pub BothCover : Option ℕ → Option ℕ → ℕ → Type 0
BothCover one two index = Covers one index × Covers two index

-- the least index is found that both cover, if they cover one
pub record FindsCommon (one two found : Option ℕ) : Type 0 where
  pub covered : (index : ℕ) → found ≡ Some index → BothCover one two index
  pub least : (index : ℕ) → BothCover one two index → (k : ℕ) × (found ≡ Some k) × (k ≤ index)

-- the next step of a thread clashes with a touch, at a place
pub record ClashesAt (p : ProgramTree) (s : State) (one : Touch) (thread : ℕ) (place : Place) : Type 0 where
  pub two : Touch
  pub touches : next_touch p s thread ≡ Some two
  pub at : two.place ≡ place
  pub clash : Clash s.memory one two

-- the two threads race, by steps at these places
pub record IsRaceAt (p : ProgramTree) (s : State) (first : ℕ) (first_place : Place) (second : ℕ) (second_place : Place) : Type 0 where
  pub race : Race p s
  pub is_first : race.first ≡ first
  pub is_second : race.second ≡ second
  pub at_first : race.first_touch.place ≡ first_place
  pub at_second : race.second_touch.place ≡ second_place
