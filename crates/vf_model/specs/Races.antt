-- Data races: two threads whose next steps touch one cell, one of them writing it or freeing its block (after C11 5.1.2.4p25, where the order of two steps is any).
use Rattle.std.specs.Prelude.{◌≡◌, ◌≢◌, ℕ, ◌||◌, Option, Some, None, IsTrue}
use Rattle.vf_tree.specs.Core.{ProgramTree}
use Rattle.vf_model.specs.Memory.{Memory, Cell, HasCell}
use Rattle.vf_model.specs.State.{End, State}
use Rattle.vf_model.specs.Acts.{Touch, Act, Touches}
use Rattle.vf_model.specs.Steps.{next_act}

-- what an act reads, writes or frees; one that waits or has a fault touches nothing
abbrev pub touch_in : Act → Option Touch
touch_in (Touches touch new) = Some touch
touch_in _ = None

-- no step is taken after the end of a run
abbrev pub touch_unended : ProgramTree → State → ℕ → Option End → Option Touch
touch_unended p s t (Some end) = None
touch_unended p s t None = touch_in (next_act p s t)

-- what the next step of a thread that can step touches
abbrev pub next_touch : ProgramTree → State → ℕ → Option Touch
next_touch p s t = touch_unended p s t s.end

-- an index is the one that is touched, or all are
abbrev pub Covers : Option ℕ → ℕ → Type 0
Covers None i = Unit {0}
Covers (Some k) i = k ≡ i

-- a cell that is there is among those that a step touches; a block without cells has none
pub record TouchesCell (m : Memory) (touch : Touch) (c : Cell) : Type 0 where
  pub there : HasCell m c
  pub block : touch.block ≡ c.block
  pub covered : Covers touch.cell c.index

-- two different threads can step, their next steps touch one cell, and one of them writes it or frees its block
pub record Race (p : ProgramTree) (s : State) : Type 0 where
  pub first : ℕ
  pub second : ℕ
  pub different : first ≢ second
  pub first_touch : Touch
  pub second_touch : Touch
  pub first_touches : next_touch p s first ≡ Some first_touch
  pub second_touches : next_touch p s second ≡ Some second_touch
  pub cell : Cell
  pub by_first : TouchesCell s.memory first_touch cell
  pub by_second : TouchesCell s.memory second_touch cell
  pub writes : IsTrue (first_touch.writes || second_touch.writes)
