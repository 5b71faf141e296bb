-- What the types of the code stand for.
use Rattle.std.specs.Prelude.{ℕ, get_or}
use Rattle.vf_flow.specs.declared.follow.Way.{Way}
use Rattle.vf_flow.specs.declared.follow.Way.TheVariants as ways
use Rattle.vf_flow.specs.declared.numbers.StepNumbers.{StepNumbers}

-- the number of a node's step
abbrev pub number_in : StepNumbers → ℕ → ℕ
number_in s i = get_or s.numbers i s.end

-- the number of the step that a way comes to, where the nodes before lead to some
abbrev pub come_to : (ℕ → ℕ) → Way → ℕ
come_to before (ways.Ends n) = n
come_to before (ways.Back i) = before i
