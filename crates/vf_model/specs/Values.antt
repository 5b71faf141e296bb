-- Values of C and of annotations. C's are numbers, truth values, null, pointers and functions; the others are ghost.
use Rattle.std.specs.Prelude.{ℕ, ℤ, pos, Bool, true, false, not, ◌&&◌, ◌==◌, nat_eq, int_le, int_lt}
use Rattle.std.specs.Ordering.{int_eq}
use Rattle.std.specs.Cmp.Lexicographic.{pointwise}
use Rattle.vf_base.specs.declared.int_type.IntType.{IntType}
use Rattle.vf_base.specs.declared.int_type.IntType.TheVariants as types
use Rattle.vf_tree.specs.Core.{Identity, TypeTree, Void, Integer, PointerToVoid, PointerToInt, PointerToStruct, PointerToFunction, Signature, Comparison, Equal, NotEqual, Less, LessEqual, Greater, GreaterEqual}

-- a dyadic fraction, k or (2 j + 1) / 2 ^ (m + 1): each has one form, so that equal fractions are one value
pub data Dyadic : Type 0 where
  Whole : ℕ → Dyadic
  Odd : ℕ → ℕ → Dyadic

-- A pointer is a block's number and a whole offset. A constructor term has its arguments; a predicate value is a predicate or a constructor of predicates by identity, with its first arguments
mutual
  pub data Value : Type 0 where
    Number : ℤ → Value
    Truth : Bool → Value
    Null : Value
    Pointer : ℕ → ℤ → Value
    Function : Identity → Value
    Constructed : Identity → Values → Value
    Predicate : Identity → Values → Value
    Fraction : Dyadic → Value

  pub data Values : Type 0 where
    none : Values
    more : Value → Values → Values

-- the number that a value is, and 0 for every other value
abbrev pub number_of : Value → ℤ
number_of (Number z) = z
number_of (Truth b) = pos 0
number_of Null = pos 0
number_of (Pointer b o) = pos 0
number_of (Function g) = pos 0
number_of (Constructed c vs) = pos 0
number_of (Predicate p vs) = pos 0
number_of (Fraction d) = pos 0

-- whether two identities are one
abbrev pub same_identity : Identity → Identity → Bool
same_identity g h = pointwise nat_eq g h

-- whether two truth values are one
abbrev pub same_truth : Bool → Bool → Bool
same_truth true b = b
same_truth false b = not b

-- Whether two values of C are one (C11 6.5.9). Ghost values are never in a program's hands, and compare as different
abbrev pub same_value : Value → Value → Bool
same_value (Number y) (Number z) = int_eq y z
same_value (Truth a) (Truth b) = same_truth a b
same_value Null Null = true
same_value (Pointer b o) (Pointer c q) = (b == c) && int_eq o q
same_value (Function g) (Function h) = same_identity g h
same_value _ _ = false

-- What a comparison says of two values (C11 6.5.8, 6.5.9). In a typed program only numbers are compared by their order; every other value counts as the number 0 there
abbrev pub compares : Comparison → Value → Value → Bool
compares Equal v w = same_value v w
compares NotEqual v w = not (same_value v w)
compares Less v w = int_lt (number_of v) (number_of w)
compares LessEqual v w = int_le (number_of v) (number_of w)
compares Greater v w = int_lt (number_of w) (number_of v)
compares GreaterEqual v w = int_le (number_of w) (number_of v)

-- a number for each integer type, by which two of them are told apart
abbrev pub type_number : IntType → ℕ
type_number types.Bool = 0
type_number types.Char = 1
type_number types.UChar = 2
type_number types.Short = 3
type_number types.UShort = 4
type_number types.Int = 5
type_number types.UInt = 6
type_number types.Long = 7
type_number types.ULong = 8
type_number types.LongLong = 9
type_number types.ULongLong = 10

-- whether two types of C are one; structs and function types are one where their identities are
abbrev pub same_type : TypeTree → TypeTree → Bool
same_type Void Void = true
same_type (Integer t) (Integer u) = type_number t == type_number u
same_type PointerToVoid PointerToVoid = true
same_type PointerToInt PointerToInt = true
same_type (PointerToStruct g) (PointerToStruct h) = same_identity g h
same_type (PointerToFunction g) (PointerToFunction h) = same_identity g h
same_type _ _ = false

-- whether two functions have the same result and parameter types
abbrev pub same_signature : Signature → Signature → Bool
same_signature s r = same_type s.result r.result && pointwise same_type s.parameters r.parameters
