-- What the types of the code stand for.
use Rattle.std.specs.Prelude.{List, map}
use Rattle.std.specs.Option.{option_map}
use Rattle.vf_steps.specs.declared.value.Value.{Value}
use Rattle.vf_steps.specs.declared.value.Value.TheVariants as values
use Rattle.vf_steps.specs.declared.action.Action.{Action}
use Rattle.vf_steps.specs.declared.action.Action.TheVariants as actions
use Rattle.vf_steps.specs.declared.action.Node.{Node}
use Rattle.vf_steps.specs.Tree.{ValueTree, ActionTree, NodeTree}
use Rattle.vf_steps.specs.Tree as tree

-- a value
abbrev pub value_of : Value → ValueTree
value_of (values.Read local place) = tree.read local place
value_of (values.Number n) = tree.number n
value_of (values.Truth b) = tree.truth b
value_of values.Null = tree.null
value_of (values.Function f) = tree.function f
value_of (values.Negate' t p v place) = tree.negate t (value_of v) place
value_of (values.Arithmetic' o t p left q right place) = tree.arithmetic o t (value_of left) (value_of right) place
value_of (values.Convert' t u p v place) = tree.convert t u (value_of v) place

-- several in order
abbrev pub values_of : List Value → List ValueTree
values_of vs = map value_of vs

-- what a node does
abbrev pub action_of : Action → ActionTree
action_of (actions.Set local v) = tree.set local (value_of v)
action_of (actions.Load local pointer field place) = tree.load local (value_of pointer) field place
action_of (actions.Store pointer field v place) = tree.store (value_of pointer) field (value_of v) place
action_of (actions.Allocate local structure) = tree.allocate local structure
action_of (actions.Free pointer structure place) = tree.free (value_of pointer) structure place
action_of (actions.Offset local pointer by place) = tree.offset local (value_of pointer) (value_of by) place
action_of (actions.LoadAt local pointer index place) = tree.load_at local (value_of pointer) (value_of index) place
action_of (actions.StoreAt pointer index v place) = tree.store_at (value_of pointer) (value_of index) (value_of v) place
action_of (actions.AllocateInts local len place) = tree.allocate_ints local (value_of len) place
action_of (actions.FreeInts pointer place) = tree.free_ints (value_of pointer) place
action_of (actions.Call target function arguments place) = tree.call target function (values_of arguments) place
action_of (actions.CallPointer target pointer function_type arguments place) = tree.call_pointer target (value_of pointer) function_type (values_of arguments) place
action_of (actions.If comparison left right so otherwise) = tree.if_ comparison (value_of left) (value_of right) so otherwise
action_of (actions.Return v) = tree.return_ (option_map value_of v)
action_of (actions.Jump n) = tree.jump n
action_of (actions.Unset local) = tree.unset local
action_of (actions.Ghost command) = tree.ghost command.now
action_of (actions.Loop invariant len last) = tree.loop invariant.now len last
action_of (actions.Back n) = tree.back n
action_of actions.Exit = tree.exit
action_of actions.NoReturn = tree.no_return

-- a node
abbrev pub node_of : Node → NodeTree
node_of n = record { statement = n.statement; action = action_of n.action }

-- several in order
abbrev pub nodes_of : List Node → List NodeTree
nodes_of ns = map node_of ns
