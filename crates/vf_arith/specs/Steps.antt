-- Steps in which points and bounds came about, and what there is after some of them.
use Rattle.std.specs.Prelude.{ℕ, ◌+◌, ◌-◌, List, [], ◌∷◌, length, take}
use Rattle.vf_arith.specs.declared.bounds.Edge.{Edge}
use Rattle.vf_arith.specs.declared.bounds.Step.{Step}
use Rattle.vf_arith.specs.declared.bounds.Step.TheVariants.{Point, Bound}

-- how many points came about
abbrev pub points_of : List Step → ℕ
points_of [] = 0
points_of (Point ∷ steps) = 1 + points_of steps
points_of (Bound e ∷ steps) = points_of steps

-- the bounds that came about, in order
abbrev pub bounds_of : List Step → List Edge
bounds_of [] = []
bounds_of (Point ∷ steps) = bounds_of steps
bounds_of (Bound e ∷ steps) = e ∷ bounds_of steps

-- all steps but the last
abbrev pub all_but_last : List Step → List Step
all_but_last steps = take (length steps - 1) steps
