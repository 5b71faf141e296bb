-- Runs that are done.
use Rattle.std.specs.Prelude.{◌≡◌, ℕ, ℤ, ◌<◌, ◌≤◌, List, length, slice_get, Some, IsTrue}
use Rattle.vf_model.specs.State.{Thread, State, Returned}
use Rattle.vf_model.specs.Calls.{has_ended}

-- each thread but main has ended
abbrev pub OthersEnded : List Thread → Type 0
OthersEnded threads = (t : ℕ) → 1 ≤ t → t < length threads → IsTrue (has_ended (slice_get threads t))

-- main has returned, and all other threads have ended
pub record IsSettled (s : State) : Type 0 where
  pub returned : (z : ℤ) × (s.end ≡ Some (Returned z))
  pub ended : OthersEnded s.threads
