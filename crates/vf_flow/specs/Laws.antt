-- What is claimed of the steps of a body.
use Rattle.std.specs.Prelude.{◌≡◌, ℕ, List, Some, length, slice_get}
use Rattle.vf_tree.specs.Core.{StepTree}
use Rattle.vf_steps.specs.Tree.{NodeTree}
use Rattle.vf_steps.specs.Core.{Identities, step_tree}
use Rattle.vf_flow.specs.Leads.{count_steps}
use Rattle.vf_flow.specs.Steps.{flows_of, number_of, renumbered, steps_of}

-- there are as many steps as nodes that are steps, and a node that is a step leads to its own, which stands at its number
pub record StepsStand (d : Identities) (ns : List NodeTree) : Type 0 where
  pub count : length (steps_of d ns) ≡ count_steps (flows_of ns)
  pub own : (i : ℕ) (n : NodeTree) (s : StepTree) → slice_get ns i ≡ Some n → step_tree d i n.action ≡ Some s → slice_get (steps_of d ns) (number_of ns i) ≡ Some (renumbered (number_of ns) s)

-- this holds of every body
abbrev pub AllStepsStand : Type 0
AllStepsStand = (d : Identities) (ns : List NodeTree) → StepsStand d ns
