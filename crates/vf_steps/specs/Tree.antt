-- The core of a function's body as lowering makes it, as pure data: its steps, and what stands between them. Functions, structs and function types go by the numbers that they have where they are declared.
use Rattle.std.specs.Prelude.{ℕ, Bool, List, Option}
use Rattle.vf_base.specs.declared.int_type.IntType.{IntType}
use Rattle.vf_base.specs.declared.place.Place.{Place}
use Rattle.vf_core.specs.declared.words.Comparison.{Comparison}
use Rattle.vf_core.specs.declared.words.Operator.{Operator}
use Rattle.vf_syntax.specs.declared.contract.Invariant.{Invariant}
use Rattle.vf_syntax.specs.GhostCommandTree.{GhostCommandTree}
use Rattle.vf_steps.specs.declared.action.FieldNumber.{FieldNumber}

-- A value that a step computes without an access to memory and without a call: what a local holds, at a place; constants; the number with the other sign and the arithmetic of a type, at the operator; a number of the first type in the second, at the first token of what is converted
pub data ValueTree : Type 0 where
  read : ℕ → Place → ValueTree
  number : ℕ → ValueTree
  truth : Bool → ValueTree
  null : ValueTree
  function : ℕ → ValueTree
  negate : IntType → ValueTree → Place → ValueTree
  arithmetic : Operator → IntType → ValueTree → ValueTree → Place → ValueTree
  convert : IntType → IntType → ValueTree → Place → ValueTree

-- What a node does. Up to `return_` these are steps: Set x e; Load x p f; Store p f e; Allocate x S; Free p S; Offset x p i; LoadAt x p i; StoreAt p i e; AllocateInts x n; FreeInts p; Call x f es; CallPointer x p T es; If, which skips so many nodes where the comparison holds and so many where not; Return.
-- The others are no steps: a jump over so many nodes; a local that is declared without a value; a ghost command; the head of a loop, with its invariant, of so many nodes that follow, whose body ends with a token; the way back over so many nodes, to the first behind the head; the end of the loop; and the end of a body that owes a value, at the closing brace
pub data ActionTree : Type 0 where
  set : ℕ → ValueTree → ActionTree
  load : ℕ → ValueTree → FieldNumber → Place → ActionTree
  store : ValueTree → FieldNumber → ValueTree → Place → ActionTree
  allocate : ℕ → ℕ → ActionTree
  free : ValueTree → ℕ → Place → ActionTree
  offset : ℕ → ValueTree → ValueTree → Place → ActionTree
  load_at : ℕ → ValueTree → ValueTree → Place → ActionTree
  store_at : ValueTree → ValueTree → ValueTree → Place → ActionTree
  allocate_ints : ℕ → ValueTree → Place → ActionTree
  free_ints : ValueTree → Place → ActionTree
  call : Option ℕ → ℕ → List ValueTree → Place → ActionTree
  call_pointer : Option ℕ → ValueTree → ℕ → List ValueTree → Place → ActionTree
  if_ : Comparison → ValueTree → ValueTree → ℕ → ℕ → ActionTree
  return_ : Option ValueTree → ActionTree
  jump : ℕ → ActionTree
  unset : ℕ → ActionTree
  ghost : GhostCommandTree → ActionTree
  loop : Option Invariant → ℕ → Place → ActionTree
  back : ℕ → ActionTree
  exit : ActionTree
  no_return : ActionTree

-- a node, and the place of the first token of the statement that it is part of
pub record NodeTree : Type 0 where
  pub statement : Place
  pub action : ActionTree
