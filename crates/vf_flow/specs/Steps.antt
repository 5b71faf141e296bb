-- The steps of a body in the core of whole programs.
use Rattle.std.specs.Prelude.{ℕ, ◌+◌, List, [], ◌∷◌, ◌++◌, map, option_map, option_to_list}
use Rattle.vf_tree.specs.Core as core
use Rattle.vf_tree.specs.Core.{StepTree}
use Rattle.vf_steps.specs.Tree.{ActionTree, NodeTree}
use Rattle.vf_steps.specs.Tree as tree
use Rattle.vf_steps.specs.Core.{Identities, step_tree}
use Rattle.vf_flow.specs.declared.flow.Flow.{Flow}
use Rattle.vf_flow.specs.declared.flow.Flow.TheVariants as flows
use Rattle.vf_flow.specs.Leads.{step_number}

-- what a node of a body is to the machine: jumps, ghost commands, declarations without a value, and the heads and ends of loops lead forward, and the end of a body that owes a value has no step left
abbrev pub flow_of : ActionTree → Flow
flow_of (tree.jump k) = flows.Skip k
flow_of (tree.unset x) = flows.Skip 0
flow_of (tree.ghost g) = flows.Skip 0
flow_of (tree.loop i n p) = flows.Skip 0
flow_of tree.exit = flows.Skip 0
flow_of (tree.back k) = flows.Back k
flow_of tree.no_return = flows.End
flow_of a = flows.Step

-- what the nodes of a body are to the machine
abbrev pub flows_of : List NodeTree → List Flow
flows_of ns = map (λ (n : NodeTree). flow_of n.action) ns

-- the number of the step that a node of a body leads to
abbrev pub number_of : List NodeTree → ℕ → ℕ
number_of ns i = step_number (flows_of ns) i

-- a step whose next steps have other numbers
abbrev pub renumbered : (ℕ → ℕ) → StepTree → StepTree
renumbered f (core.Set x v n) = core.Set x v (f n)
renumbered f (core.Load x v g p n) = core.Load x v g p (f n)
renumbered f (core.Store v g w p n) = core.Store v g w p (f n)
renumbered f (core.Allocate x s n) = core.Allocate x s (f n)
renumbered f (core.Free v s p n) = core.Free v s p (f n)
renumbered f (core.Offset x v w p n) = core.Offset x v w p (f n)
renumbered f (core.LoadAt x v w p n) = core.LoadAt x v w p (f n)
renumbered f (core.StoreAt v w u p n) = core.StoreAt v w u p (f n)
renumbered f (core.AllocateInts x v p n) = core.AllocateInts x v p (f n)
renumbered f (core.FreeInts v p n) = core.FreeInts v p (f n)
renumbered f (core.Call x g vs p n) = core.Call x g vs p (f n)
renumbered f (core.CallPointer x v s vs p n) = core.CallPointer x v s vs p (f n)
renumbered f (core.If c v w m n) = core.If c v w (f m) (f n)
renumbered f (core.Return v) = core.Return v

-- the steps of nodes, of which the first has a number, where nodes lead to steps by a map of numbers
abbrev pub steps_from : Identities → (ℕ → ℕ) → ℕ → List NodeTree → List StepTree
steps_from d f i [] = []
steps_from d f i (n ∷ ns) = option_to_list (option_map (renumbered f) (step_tree d i n.action)) ++ steps_from d f (i + 1) ns

-- the steps of a body: of each node that is a step, in order, whose next steps are those that the nodes lead to at which it goes on
abbrev pub steps_of : Identities → List NodeTree → List StepTree
steps_of d ns = steps_from d (number_of ns) 0 ns
