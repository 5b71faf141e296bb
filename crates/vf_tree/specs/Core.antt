-- The core of a C program, whole, as pure data: what each event of a thread is, and what a program is.
-- An expression has locals, constants, arithmetic and conversions, and no access to memory and no call.
use Rattle.std.specs.Prelude.{ℕ, ℤ, Bool, List, Option}
use Rattle.vf_base.specs.declared.place.Place.{Place}
use Rattle.vf_base.specs.declared.int_type.IntType.{IntType}

-- what names a function, a function type or a struct in every unit: the path of the file of its first declaration, '#' and the name, in bytes
abbrev pub Identity : Type 0
Identity = List ℕ

-- the types of C that locals, fields, parameters and results have (C11 6.2.5), bool among the integers
pub data TypeTree : Type 0 where
  Void : TypeTree
  Integer : IntType → TypeTree
  PointerToVoid : TypeTree
  PointerToInt : TypeTree
  PointerToStruct : Identity → TypeTree
  PointerToFunction : Identity → TypeTree

-- the arithmetic operators (C11 6.5.5, 6.5.6)
pub data ArithmeticOperator : Type 0 where
  Add Subtract Multiply Divide Remainder : ArithmeticOperator

-- the comparisons (C11 6.5.8, 6.5.9)
pub data Comparison : Type 0 where
  Equal NotEqual Less LessEqual Greater GreaterEqual : Comparison

-- Read is a local by its number, at its name. Arithmetic is done in its type; its place is the operator, and that of a conversion the first token of what is converted
pub data ExpressionTree : Type 0 where
  Read : ℕ → Place → ExpressionTree
  Number : ℤ → ExpressionTree
  Truth : Bool → ExpressionTree
  Null : ExpressionTree
  Function : Identity → ExpressionTree
  Negate : IntType → ExpressionTree → Place → ExpressionTree
  Arithmetic : ArithmeticOperator → IntType → ExpressionTree → ExpressionTree → Place → ExpressionTree
  Convert : IntType → ExpressionTree → Place → ExpressionTree

-- a field: its struct, and its place in the struct's body, counted from 0
pub record Field : Type 0 where
  pub structure : Identity
  pub index : ℕ

-- the result and the parameters of a function
pub record Signature : Type 0 where
  pub result : TypeTree
  pub parameters : List TypeTree

-- The core steps, one event each; the last number is the step that follows, and If has one for each way.
-- Set x e; Load x p f; Store p f e; Allocate x S; Free e S; Offset x p i; LoadAt x p i; StoreAt p i e; AllocateInts x n; FreeInts e;
-- Call x g es; CallPointer x e T es, with the signature of T; If; Return. A call without a target forgets the result.
-- Places: a field access its `->`, an array access its `[`, a pointer sum its `+`, the length of an allocation its `*`, `free` that word, another call its first token
pub data StepTree : Type 0 where
  Set : ℕ → ExpressionTree → ℕ → StepTree
  Load : ℕ → ExpressionTree → Field → Place → ℕ → StepTree
  Store : ExpressionTree → Field → ExpressionTree → Place → ℕ → StepTree
  Allocate : ℕ → Identity → ℕ → StepTree
  Free : ExpressionTree → Identity → Place → ℕ → StepTree
  Offset : ℕ → ExpressionTree → ExpressionTree → Place → ℕ → StepTree
  LoadAt : ℕ → ExpressionTree → ExpressionTree → Place → ℕ → StepTree
  StoreAt : ExpressionTree → ExpressionTree → ExpressionTree → Place → ℕ → StepTree
  AllocateInts : ℕ → ExpressionTree → Place → ℕ → StepTree
  FreeInts : ExpressionTree → Place → ℕ → StepTree
  Call : Option ℕ → Identity → List ExpressionTree → Place → ℕ → StepTree
  CallPointer : Option ℕ → ExpressionTree → Signature → List ExpressionTree → Place → ℕ → StepTree
  If : Comparison → ExpressionTree → ExpressionTree → ℕ → ℕ → StepTree
  Return : Option ExpressionTree → StepTree

-- A function: the first locals are the parameters. A body that comes past its last step owes a value and has none; the place of that is the closing brace
pub record FunctionTree : Type 0 where
  pub identity : Identity
  pub signature : Signature
  pub locals : List TypeTree
  pub steps : List StepTree
  pub closing : Place

-- a struct's body: the types of its fields in order
pub record StructTree : Type 0 where
  pub identity : Identity
  pub fields : List TypeTree

-- an erased program: its functions, with main's number among them, and its structs
pub record ProgramTree : Type 0 where
  pub functions : List FunctionTree
  pub structs : List StructTree
  pub main : ℕ
