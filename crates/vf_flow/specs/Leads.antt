-- Where the nodes of a body lead: to the steps of the machine, which alone have numbers.
use Rattle.std.specs.Prelude.{ℕ, zero, suc, ◌-◌, Bool, true, false, if◌then◌else◌, List, [], ◌∷◌, length, take, Option, Some, None, slice_get}
use Rattle.vf_flow.specs.declared.flow.Flow.{Flow}
use Rattle.vf_flow.specs.declared.flow.Flow.TheVariants as flows

-- a node is a step
abbrev pub is_step : Flow → Bool
is_step flows.Step = true
is_step f = false

-- how many of some nodes are steps
abbrev pub count_steps : List Flow → ℕ
count_steps [] = 0
count_steps (f ∷ fs) = if is_step f then suc (count_steps fs) else count_steps fs

-- how many nodes behind it a node skips, if it leads forward and is no step
abbrev pub skips : Flow → Option ℕ
skips (flows.Skip k) = Some k
skips f = None

-- how many nodes are passed at a node: none where it does not lead forward, and else itself and as many as are passed behind it, where so many are skipped
abbrev pub passed : Option ℕ → (ℕ → ℕ) → ℕ
passed None behind = 0
passed (Some k) behind = suc (behind k)

-- how many nodes are passed up to the first that does not lead forward, where so many are skipped first: there a step stands, a way back, an end, or nothing
abbrev pub reached : ℕ → List Flow → ℕ
reached k [] = 0
reached (suc k) (f ∷ fs) = suc (reached k fs)
reached zero (f ∷ fs) = passed (skips f) (λ k. reached k fs)

-- the number of the step to which a node leads that was reached: its own, which is how many steps stand before it; where it goes back, that to which the node leads to which it goes; and past the last step, where the body ends
abbrev pub comes_to : List Flow → (ℕ → ℕ) → ℕ → Option Flow → ℕ
comes_to fs before i None = count_steps fs
comes_to fs before i (Some flows.Step) = count_steps (take i fs)
comes_to fs before i (Some (flows.Skip k)) = count_steps (take i fs)
comes_to fs before i (Some (flows.Back k)) = before (i - k)
comes_to fs before i (Some flows.End) = count_steps fs

-- the number of the step to which a node leads on a way that goes back less than so many times; past the last step where the way does not come to one
abbrev pub leads : ℕ → List Flow → ℕ → ℕ
leads zero fs i = count_steps fs
leads (suc t) fs i = comes_to fs (leads t fs) (reached i fs) (slice_get fs (reached i fs))

-- the number of the step to which a node leads; a way that goes back as often as there are nodes never comes to a step
abbrev pub step_number : List Flow → ℕ → ℕ
step_number fs i = leads (length fs) fs i
