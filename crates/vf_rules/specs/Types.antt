-- Values of the types of C, the facts that say of a term that it has one, and parts whose contents have their types.
use Rattle.std.specs.Prelude.{◌≡◌, ℕ, Bool, true, false, cond, List, [], ◌∷◌, slice_get, Option, Some, None}
use Rattle.std.specs.Bool.{MatchBool}
use Rattle.std.specs.List.{find}
use Rattle.vf_base.specs.declared.int_type.IntType.{IntType}
use Rattle.vf_base.specs.declared.int_type.IntType.TheVariants as types
use Rattle.vf_tree.specs.Core.{Identity, TypeTree, Void, Integer, PointerToVoid, PointerToInt, PointerToStruct, PointerToFunction, StructTree, ProgramTree, LessEqual}
use Rattle.vf_model.specs.Values.{Value, same_identity}
use Rattle.vf_model.specs.Values as values
use Rattle.vf_model.specs.Integers.{least, greatest, InRange}
use Rattle.vf_meaning.specs.Fractions.{IsPositive}
use Rattle.vf_meaning.specs.Ghost.{Sort, Truths, Integers, Pointers, Anything, Predicates, Number, Compare}
use Rattle.vf_meaning.specs.Ghost as ghost
use Rattle.vf_meaning.specs.Assertions.{Environment}
use Rattle.vf_meaning.specs.Sorts.{HasSort}
use Rattle.vf_meaning.specs.Parts.{Location, FieldCell, IndexCell, MutexAt, HeldAt, HandleAt, Content, CellOf, MutexOf, HeldOf, HandleOf, Part}
use Rattle.vf_rules.specs.Terms.{Term}
use Rattle.vf_rules.specs.States.{Fact, Holds, OfSort}

-- a value that a pointer of C has: null, a place in a block, or a function
abbrev pub IsPointer : Value → Type 0
IsPointer values.Null = Unit {0}
IsPointer (values.Pointer b o) = Unit {0}
IsPointer (values.Function g) = Unit {0}
IsPointer _ = ⊥

-- whether an integer type is bool
abbrev pub is_bool : IntType → Bool
is_bool types.Bool = true
is_bool _ = false

-- a value is a truth value
abbrev pub IsTruth : Value → Type 0
IsTruth (values.Truth b) = Unit {0}
IsTruth _ = ⊥

-- a value is a number in range of a type
abbrev pub IsNumberIn : IntType → Value → Type 0
IsNumberIn t (values.Number z) = InRange t z
IsNumberIn t _ = ⊥

-- a value of an integer type: a truth value of bool, and a number in range of any other (C11 6.2.5)
abbrev pub IsOfInteger : IntType → Value → Type 0
IsOfInteger t w = MatchBool (is_bool t) (IsTruth w) (IsNumberIn t w)

-- a value of a type of C
abbrev pub IsOfType : TypeTree → Value → Type 0
IsOfType Void w = ⊥
IsOfType (Integer t) w = IsOfInteger t w
IsOfType PointerToVoid w = IsPointer w
IsOfType PointerToInt w = IsPointer w
IsOfType (PointerToStruct g) w = IsPointer w
IsOfType (PointerToFunction g) w = IsPointer w

-- what is known of a term that has a value of an integer type: its sort, and of a number its range
abbrev pub facts_of_integer : IntType → Term → List Fact
facts_of_integer u t =
    cond (is_bool u) (OfSort t Truths ∷ [])
    (OfSort t Integers ∷ Holds (Compare LessEqual (Number (least u)) t) ∷ Holds (Compare LessEqual t (Number (greatest u))) ∷ [])

-- what is known of a term that has a value of a type of C
abbrev pub facts_of_type : TypeTree → Term → List Fact
facts_of_type Void t = []
facts_of_type (Integer u) t = facts_of_integer u t
facts_of_type _ t = OfSort t Pointers ∷ []

-- the types of a struct's fields
abbrev pub fields_in : Option StructTree → List TypeTree
fields_in None = []
fields_in (Some s) = s.fields

-- the type of a field in a program, if the program has it
abbrev pub type_of_field : ProgramTree → Identity → ℕ → Option TypeTree
type_of_field p g i = slice_get (fields_in (find (λ s. same_identity s.identity g) p.structs)) i

-- a content has the type or the sort of its location: a cell holds a value of its field's type or none, a mutex a predicate value without arguments, a held one also a positive fraction, and a handle a function, a pointer and a value of any sort
abbrev pub IsTypedContent : Environment → ProgramTree → Location → Content → Type 0
IsTypedContent e p (FieldCell b g i) (CellOf (Some w)) = (t : TypeTree) → type_of_field p g i ≡ Some t → IsOfType t w
IsTypedContent e p (IndexCell b i) (CellOf (Some w)) = IsOfInteger types.Int w
IsTypedContent e p (MutexAt b) (MutexOf q) = HasSort e q (Predicates ghost.none)
IsTypedContent e p (HeldAt b) (HeldOf q t f) = HasSort e q (Predicates ghost.none) × IsPositive f
IsTypedContent e p (HandleAt b) (HandleOf run argument info) = HasSort e run Pointers × HasSort e argument Pointers × HasSort e info Anything
IsTypedContent e p _ _ = Unit {0}

-- every content that a part owns has its type or sort
abbrev pub IsTypedPart : Environment → ProgramTree → Part → Type 0
IsTypedPart e p q = (l : Location) (c : Content) → IsPositive (q l c) → IsTypedContent e p l c
