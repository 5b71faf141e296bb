-- The types of C that expressions, steps and functions have, by the types of the locals.
use Rattle.std.specs.Prelude.{◌≡◌, ◌≢◌, ◌⊎◌, ℕ, false, List, [], ◌∷◌, ◌++◌, slice_get, Option, Some, None}
use Rattle.vf_base.specs.declared.int_type.IntType.{IntType}
use Rattle.vf_base.specs.declared.int_type.IntType.TheVariants as types
use Rattle.vf_tree.specs.Core.{Identity, TypeTree, Void, Integer, ExpressionTree, Read, StepTree, Set, Load, Store, Allocate, Free, Offset, LoadAt, StoreAt, AllocateInts, FreeInts, Call, CallPointer, If, Return, Signature, FunctionTree, ProgramTree}
use Rattle.vf_tree.specs.Core as core
use Rattle.vf_model.specs.Values as values
use Rattle.vf_model.specs.State.{function_named}
use Rattle.vf_model.specs.PreludeFunctions.{PreludeFunction, prelude_named, signature_of}
use Rattle.vf_rules.specs.Types.{is_bool, IsOfType, type_of_field}

-- a type is one of pointers
abbrev pub IsPointerType : TypeTree → Type 0
IsPointerType Void = ⊥
IsPointerType (Integer t) = ⊥
IsPointerType _ = Unit {0}

-- each value of one type is one of another: the types are the same, or both are of pointers
abbrev pub FitsInto : TypeTree → TypeTree → Type 0
FitsInto from into = (from ≡ into) ⊎ (IsPointerType from × IsPointerType into)

-- An expression over locals of some types has a type: a local what its own fits into, a constant each of which it is a value, and arithmetic and conversions, of numbers, their own
abbrev pub HasType : List TypeTree → ExpressionTree → TypeTree → Type 0
HasType locals (Read x place) type = (own : TypeTree) × (slice_get locals x ≡ Some own) × FitsInto own type
HasType locals (core.Number z) type = IsOfType type (values.Number z)
HasType locals (core.Truth b) type = IsOfType type (values.Truth b)
HasType locals core.Null type = IsOfType type values.Null
HasType locals (core.Function g) type = IsOfType type (values.Function g)
HasType locals (core.Negate ty a place) type = (type ≡ Integer ty) × (is_bool ty ≡ false) × HasType locals a (Integer ty)
HasType locals (core.Arithmetic op ty a b place) type = (type ≡ Integer ty) × (is_bool ty ≡ false) × HasType locals a (Integer ty) × HasType locals b (Integer ty)
HasType locals (core.Convert ty a place) type = (type ≡ Integer ty) × (is_bool ty ≡ false) × ((from : IntType) × (is_bool from ≡ false) × HasType locals a (Integer from))

-- several expressions have several types, one by one
abbrev pub HaveTypes : List TypeTree → List ExpressionTree → List TypeTree → Type 0
HaveTypes locals [] [] = Unit {0}
HaveTypes locals (a ∷ xs) (type ∷ wanted) = HasType locals a type × HaveTypes locals xs wanted
HaveTypes locals _ _ = ⊥

-- an expression has a type of numbers
abbrev pub HasNumberType : List TypeTree → ExpressionTree → Type 0
HasNumberType locals a = (ty : IntType) × (is_bool ty ≡ false) × HasType locals a (Integer ty)

-- an expression has a type of pointers
abbrev pub HasPointerType : List TypeTree → ExpressionTree → Type 0
HasPointerType locals a = (type : TypeTree) × IsPointerType type × HasType locals a type

-- an expression has a type of values
abbrev pub HasValueType : List TypeTree → ExpressionTree → Type 0
HasValueType locals a = (type : TypeTree) × (type ≢ Void) × HasType locals a type

-- a local has a type of which something is so
abbrev pub LocalIs : List TypeTree → ℕ → (TypeTree → Type 0) → Type 0
LocalIs locals x P = (type : TypeTree) × (slice_get locals x ≡ Some type) × P type

-- the local that wants a call's result, if one does, has a type into which it fits
abbrev pub TakesResult : List TypeTree → Option ℕ → TypeTree → Type 0
TakesResult locals None result = Unit {0}
TakesResult locals (Some x) result = LocalIs locals x (FitsInto result)

-- the signature of a function, of the program or of the prelude
pub data IsSignatureOf (p : ProgramTree) (g : Identity) : Signature → Type 0 where
  of_program : (number : ℕ) (callee : FunctionTree) → function_named p g ≡ Some number → slice_get p.functions number ≡ Some callee → IsSignatureOf p g callee.signature
  of_prelude : (function : PreludeFunction) → prelude_named g ≡ Some function → IsSignatureOf p g (signature_of function)

-- a step of a function keeps to types: what goes into a local, a field, a parameter or the result has its type, what stands for an index or a length is a number, and what is compared has a value
abbrev pub IsTypedStep : ProgramTree → FunctionTree → StepTree → Type 0
IsTypedStep p f (Set x a next) = LocalIs f.locals x (HasType f.locals a)
IsTypedStep p f (Load x a field place next) = LocalIs f.locals x (λ type. (own : TypeTree) × (type_of_field p field.structure field.index ≡ Some own) × FitsInto own type)
IsTypedStep p f (Store a field b place next) = (type : TypeTree) → type_of_field p field.structure field.index ≡ Some type → HasType f.locals b type × (type ≢ Void)
IsTypedStep p f (Allocate x g next) = LocalIs f.locals x IsPointerType
IsTypedStep p f (Free a g place next) = Unit {0}
IsTypedStep p f (Offset x a i place next) = LocalIs f.locals x IsPointerType × HasPointerType f.locals a × HasNumberType f.locals i
IsTypedStep p f (LoadAt x a i place next) = LocalIs f.locals x (FitsInto (Integer types.Int)) × HasNumberType f.locals i
IsTypedStep p f (StoreAt a i b place next) = HasNumberType f.locals i × HasType f.locals b (Integer types.Int)
IsTypedStep p f (AllocateInts x a place next) = LocalIs f.locals x IsPointerType × HasNumberType f.locals a
IsTypedStep p f (FreeInts a place next) = Unit {0}
IsTypedStep p f (Call target g operands place next) = (signature : Signature) → IsSignatureOf p g signature → TakesResult f.locals target signature.result × HaveTypes f.locals operands signature.parameters
IsTypedStep p f (CallPointer target a signature operands place next) = TakesResult f.locals target signature.result × HaveTypes f.locals operands signature.parameters
IsTypedStep p f (If c a b yes_step no_step) = HasValueType f.locals a × HasValueType f.locals b
IsTypedStep p f (Return None) = Unit {0}
IsTypedStep p f (Return (Some a)) = HasType f.locals a f.signature.result

-- a function of a program keeps to types: its first locals are the parameters, and each of its steps keeps to types
pub record IsTypedFunction (p : ProgramTree) (f : FunctionTree) : Type 0 where
  pub others : List TypeTree
  pub parameters : f.locals ≡ f.signature.parameters ++ others
  pub steps : (n : ℕ) (step : StepTree) → slice_get f.steps n ≡ Some step → IsTypedStep p f step
