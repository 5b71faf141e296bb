-- What the types of the code stand for in the pure data of the core.
use Rattle.std.specs.Prelude.{ℕ, ℤ, List, [], map, Option, Some, None, slice_get}
use Rattle.std.specs.Option.{option_map}
use Rattle.vf_tree.specs.Core as core
use Rattle.vf_tree.specs.Core.{Identity, TypeTree, ArithmeticOperator, ExpressionTree, StepTree, FunctionTree, StructTree, ProgramTree}
use Rattle.vf_model.specs.PreludeFunctions as prelude
use Rattle.vf_core.specs.declared.words.Name.{Name}
use Rattle.vf_core.specs.declared.words.Scalar.{Scalar}
use Rattle.vf_core.specs.declared.words.Scalar.TheVariants as scalars
use Rattle.vf_core.specs.declared.words.Operator.{Operator}
use Rattle.vf_core.specs.declared.words.Operator.TheVariants as operators
use Rattle.vf_core.specs.declared.words.Comparison.{Comparison}
use Rattle.vf_core.specs.declared.words.Comparison.TheVariants as comparisons
use Rattle.vf_core.specs.declared.words.Field.{Field}
use Rattle.vf_core.specs.declared.words.Signature.{Signature}
use Rattle.vf_core.specs.declared.words.PreludeFunction.{PreludeFunction}
use Rattle.vf_core.specs.declared.words.PreludeFunction.TheVariants as preludes
use Rattle.vf_core.specs.declared.expression.Expression.{Expression}
use Rattle.vf_core.specs.declared.expression.Expression.TheVariants as expressions
use Rattle.vf_core.specs.declared.step.CoreStep.{CoreStep}
use Rattle.vf_core.specs.declared.step.CoreStep.TheVariants as steps
use Rattle.vf_core.specs.declared.step.Function.{Function}
use Rattle.vf_core.specs.declared.step.StructBody.{StructBody}
use Rattle.vf_core.specs.declared.step.Unit as code

-- the text that was found, and the empty one where there is none
abbrev pub text_or_empty : Option Identity → Identity
text_or_empty None = []
text_or_empty (Some text) = text

-- the identity that a name stands for by the table of names
abbrev pub identity_of : List Identity → Name → Identity
identity_of names name = text_or_empty (slice_get names name.number)

-- a type
abbrev pub type_of : List Identity → Scalar → TypeTree
type_of names scalars.Void = core.Void
type_of names (scalars.Integer t) = core.Integer t
type_of names scalars.PointerToVoid = core.PointerToVoid
type_of names scalars.PointerToInt = core.PointerToInt
type_of names (scalars.PointerToStruct name) = core.PointerToStruct (identity_of names name)
type_of names (scalars.PointerToFunction name) = core.PointerToFunction (identity_of names name)

-- an arithmetic operator
abbrev pub operator_of : Operator → ArithmeticOperator
operator_of operators.Add = core.Add
operator_of operators.Subtract = core.Subtract
operator_of operators.Multiply = core.Multiply
operator_of operators.Divide = core.Divide
operator_of operators.Remainder = core.Remainder

-- a comparison
abbrev pub comparison_of : Comparison → core.Comparison
comparison_of comparisons.Equal = core.Equal
comparison_of comparisons.NotEqual = core.NotEqual
comparison_of comparisons.Less = core.Less
comparison_of comparisons.LessEqual = core.LessEqual
comparison_of comparisons.Greater = core.Greater
comparison_of comparisons.GreaterEqual = core.GreaterEqual

-- a prelude function
abbrev pub prelude_of : PreludeFunction → prelude.PreludeFunction
prelude_of preludes.Abort = prelude.Abort
prelude_of preludes.PutChar = prelude.PutChar
prelude_of preludes.PrintInt = prelude.PrintInt
prelude_of preludes.ThreadStart = prelude.ThreadStart
prelude_of preludes.ThreadStartJoinable = prelude.ThreadStartJoinable
prelude_of preludes.ThreadJoin = prelude.ThreadJoin
prelude_of preludes.CreateMutex = prelude.CreateMutex
prelude_of preludes.MutexAcquire = prelude.MutexAcquire
prelude_of preludes.MutexRelease = prelude.MutexRelease
prelude_of preludes.MutexDispose = prelude.MutexDispose

-- an expression
abbrev pub expression_of : List Identity → Expression → ExpressionTree
expression_of names (expressions.Read local place) = core.Read local place
expression_of names (expressions.Number z) = core.Number z
expression_of names (expressions.Truth b) = core.Truth b
expression_of names expressions.Null = core.Null
expression_of names (expressions.Function name) = core.Function (identity_of names name)
expression_of names (expressions.Negate' t p e place) = core.Negate t (expression_of names e) place
expression_of names (expressions.Arithmetic' op t p left q right place) =
    core.Arithmetic (operator_of op) t (expression_of names left) (expression_of names right) place
expression_of names (expressions.Convert' t p e place) = core.Convert t (expression_of names e) place

-- several in order
abbrev pub expressions_of : List Identity → List Expression → List ExpressionTree
expressions_of names es = map (expression_of names) es

-- a field
abbrev pub field_of : List Identity → Field → core.Field
field_of names field = record { structure = identity_of names field.structure; index = field.index }

-- a signature
abbrev pub signature_of : List Identity → Signature → core.Signature
signature_of names s = record { result = type_of names s.gives; parameters = map (type_of names) s.parameters }

-- a core step
abbrev pub step_of : List Identity → CoreStep → StepTree
step_of names (steps.Set local value next) = core.Set local (expression_of names value) next
step_of names (steps.Load local pointer field place next) = core.Load local (expression_of names pointer) (field_of names field) place next
step_of names (steps.Store pointer field value place next) = core.Store (expression_of names pointer) (field_of names field) (expression_of names value) place next
step_of names (steps.Allocate local structure next) = core.Allocate local (identity_of names structure) next
step_of names (steps.Free pointer structure place next) = core.Free (expression_of names pointer) (identity_of names structure) place next
step_of names (steps.Offset local pointer by place next) = core.Offset local (expression_of names pointer) (expression_of names by) place next
step_of names (steps.LoadAt local pointer index place next) = core.LoadAt local (expression_of names pointer) (expression_of names index) place next
step_of names (steps.StoreAt pointer index value place next) =
    core.StoreAt (expression_of names pointer) (expression_of names index) (expression_of names value) place next
step_of names (steps.AllocateInts local length place next) = core.AllocateInts local (expression_of names length) place next
step_of names (steps.FreeInts pointer place next) = core.FreeInts (expression_of names pointer) place next
step_of names (steps.Call target function arguments place next) = core.Call target (identity_of names function) (expressions_of names arguments) place next
step_of names (steps.CallPointer target pointer signature arguments place next) =
    core.CallPointer target (expression_of names pointer) (signature_of names signature) (expressions_of names arguments) place next
step_of names (steps.If comparison left right so otherwise) =
    core.If (comparison_of comparison) (expression_of names left) (expression_of names right) so otherwise
step_of names (steps.Return value) = core.Return (option_map (expression_of names) value)

-- a function
abbrev pub function_of : List Identity → Function → FunctionTree
function_of names f = record {
  identity = identity_of names f.identity;
  signature = signature_of names f.signature;
  locals = map (type_of names) f.locals;
  steps = map (step_of names) f.steps;
  closing = f.closing;
}

-- a struct's body
abbrev pub struct_of : List Identity → StructBody → StructTree
struct_of names s = record { identity = identity_of names s.identity; fields = map (type_of names) s.fields }

-- the program of one unit
abbrev pub program_of : code.Unit → ProgramTree
program_of u = record {
  functions = map (function_of u.names) u.functions;
  structs = map (struct_of u.names) u.structs;
  main = u.main;
}
