-- Tables of what is known of the nodes of a body.
use Rattle.std.specs.Prelude.{◌≡◌, ℕ, ◌-◌, ◌<◌, List, length, take, get_or}
use Rattle.vf_flow.specs.declared.flow.Flow.{Flow}
use Rattle.vf_flow.specs.Leads.{count_steps, reached}

-- a list has the first values of a function
pub record Lists (f : ℕ → ℕ) (xs : List ℕ) : Type 0 where
  pub each : (i d : ℕ) → i < length xs → get_or xs i d ≡ f i

-- how many steps stand before a node
abbrev pub steps_before : List Flow → ℕ → ℕ
steps_before fs i = count_steps (take i fs)

-- which node is reached from the one that stands so many before the end
abbrev pub reached_backward : List Flow → ℕ → ℕ
reached_backward fs m = reached (length fs - m) fs
