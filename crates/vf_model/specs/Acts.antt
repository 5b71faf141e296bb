-- What the next step of a thread does. A grant only chooses between the two states of an allocation, so no fault and no waiting depends on it.
use Rattle.std.specs.Prelude.{ℕ, Bool, Option}
use Rattle.vf_base.specs.declared.place.Place.{Place}
use Rattle.vf_model.specs.declared.words.FaultKind.{FaultKind}
use Rattle.vf_model.specs.State.{State}
use Rattle.vf_model.specs.Evaluation.{Evaluated, Gives, Fails}

-- what a step reads, writes or frees: a cell of a block, or all its cells (None)
pub record Touch : Type 0 where
  pub block : ℕ
  pub cell : Option ℕ
  pub writes : Bool
  pub place : Place

-- A step goes on to a state; or reads, writes or frees cells on its way to one; or allocates, with the state where that is denied and the state at each number of the new block; or waits; or has a fault.
-- A thread that is unknown or has ended waits for ever
pub data Act : Type 0 where
  Goes : State → Act
  Touches : Touch → State → Act
  Allocates : State → (ℕ → State) → Act
  Waits : Act
  Faults : FaultKind → Place → Act

-- what is done with a result, where there is one; else the fault
abbrev pub given : {A : Type 0} → Evaluated A → (A → Act) → Act
given (Gives v) act = act v
given (Fails kind place) act = Faults kind place
