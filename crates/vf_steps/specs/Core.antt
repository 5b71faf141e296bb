-- What a body's steps are in the core of whole programs, where functions, structs and function types have identities.
use Rattle.std.specs.Prelude.{ℕ, ◌+◌, pos, List, [], map, Option, Some, None, slice_get}
use Rattle.std.specs.Option.{option_map}
use Rattle.vf_tree.specs.Core as core
use Rattle.vf_tree.specs.Core.{Identity, TypeTree, ExpressionTree, StepTree}
use Rattle.vf_core.specs.Shown.{text_or_empty, operator_of, comparison_of}
use Rattle.vf_declared.specs.declared.ctype.CType.{CType}
use Rattle.vf_declared.specs.declared.ctype.CType.TheVariants as types
use Rattle.vf_declared.specs.declared.declaration.Signature.{Signature}
use Rattle.vf_steps.specs.declared.action.FieldNumber.{FieldNumber}
use Rattle.vf_steps.specs.Tree.{ValueTree, ActionTree, NodeTree}
use Rattle.vf_steps.specs.Tree as tree

-- the identities of what a unit declares, by number, and the signatures of its function types
pub record Identities : Type 0 where
  pub functions : List Identity
  pub structures : List Identity
  pub function_types : List Identity
  pub signatures : List Signature

-- the identity with a number, and the empty one where there is none
abbrev pub identity_at : List Identity → ℕ → Identity
identity_at xs n = text_or_empty (slice_get xs n)

-- a type; that of a function's name is the pointer to no function type
abbrev pub type_tree : Identities → CType → TypeTree
type_tree d types.Void = core.Void
type_tree d (types.Integer t) = core.Integer t
type_tree d types.VoidPointer = core.PointerToVoid
type_tree d types.IntPointer = core.PointerToInt
type_tree d (types.StructPointer n) = core.PointerToStruct (identity_at d.structures n)
type_tree d (types.FunctionPointer n) = core.PointerToFunction (identity_at d.function_types n)
type_tree d (types.Function n) = core.PointerToVoid

-- a value
abbrev pub expression_tree : Identities → ValueTree → ExpressionTree
expression_tree d (tree.read local p) = core.Read local p
expression_tree d (tree.number n) = core.Number (pos n)
expression_tree d (tree.truth b) = core.Truth b
expression_tree d tree.null = core.Null
expression_tree d (tree.function f) = core.Function (identity_at d.functions f)
expression_tree d (tree.negate t v p) = core.Negate t (expression_tree d v) p
expression_tree d (tree.arithmetic o t a b p) = core.Arithmetic (operator_of o) t (expression_tree d a) (expression_tree d b) p
expression_tree d (tree.convert t u v p) = core.Convert u (expression_tree d v) p

-- a field
abbrev pub field_tree : Identities → FieldNumber → core.Field
field_tree d f = record { structure = identity_at d.structures f.structure; index = f.index }

-- a signature, and one of nothing where there is none
abbrev pub signature_tree : Identities → Option Signature → core.Signature
signature_tree d None = record { result = core.Void; parameters = [] }
signature_tree d (Some g) = record { result = type_tree d g.result; parameters = map (type_tree d) g.parameters }

-- the step of a node with a number, if it is one: the steps that follow are numbers of nodes
abbrev pub step_tree : Identities → ℕ → ActionTree → Option StepTree
step_tree d n (tree.set x v) = Some (core.Set x (expression_tree d v) (n + 1))
step_tree d n (tree.load x v f p) = Some (core.Load x (expression_tree d v) (field_tree d f) p (n + 1))
step_tree d n (tree.store v f w p) = Some (core.Store (expression_tree d v) (field_tree d f) (expression_tree d w) p (n + 1))
step_tree d n (tree.allocate x s) = Some (core.Allocate x (identity_at d.structures s) (n + 1))
step_tree d n (tree.free v s p) = Some (core.Free (expression_tree d v) (identity_at d.structures s) p (n + 1))
step_tree d n (tree.offset x v w p) = Some (core.Offset x (expression_tree d v) (expression_tree d w) p (n + 1))
step_tree d n (tree.load_at x v w p) = Some (core.LoadAt x (expression_tree d v) (expression_tree d w) p (n + 1))
step_tree d n (tree.store_at v w u p) = Some (core.StoreAt (expression_tree d v) (expression_tree d w) (expression_tree d u) p (n + 1))
step_tree d n (tree.allocate_ints x v p) = Some (core.AllocateInts x (expression_tree d v) p (n + 1))
step_tree d n (tree.free_ints v p) = Some (core.FreeInts (expression_tree d v) p (n + 1))
step_tree d n (tree.call x f vs p) = Some (core.Call x (identity_at d.functions f) (map (expression_tree d) vs) p (n + 1))
step_tree d n (tree.call_pointer x v t vs p) = Some (core.CallPointer x (expression_tree d v) (signature_tree d (slice_get d.signatures t)) (map (expression_tree d) vs) p (n + 1))
step_tree d n (tree.if_ c v w so otherwise) = Some (core.If (comparison_of c) (expression_tree d v) (expression_tree d w) (n + 1 + so) (n + 1 + otherwise))
step_tree d n (tree.return_ v) = Some (core.Return (option_map (expression_tree d) v))
step_tree d n x = None
