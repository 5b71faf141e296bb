use Rattle.std.proofs.Common.{◌≡◌, ◌++◌, drop, map}
use Rattle.vf_core.specs.Shown.{step_of}
use Rattle.vf_steps.specs.Shown.{nodes_of}
use Rattle.vf_flow.specs.Named.{naming_of}
use Rattle.vf_flow.specs.Shown.{number_in}
use Rattle.vf_flow.specs.Steps.{steps_from}
use Rattle.vf_flow.proofs.steps.all_steps.Given as goal

-- the steps so far, and those of the nodes that are left, are all
abbrev pub invariant-loop-at : goal.invariant-loop-at
invariant-loop-at l = map (step_of l.naming.names.now) l.steps ++ steps_from (naming_of l.naming) (number_in l.numbers) l.at (drop l.at (nodes_of l.nodes.items)) ≡ steps_from (naming_of l.naming) (number_in l.numbers) 0 (nodes_of l.nodes.items)
