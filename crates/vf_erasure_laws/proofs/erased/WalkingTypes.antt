-- What tests of types and names say.
use Rattle.std.proofs.Common.{◌≡◌, ℕ, suc, Bool, true, false, if◌then◌else◌, List, [], ◌∷◌, ◌++◌, length, Option, Some, None, refl, sym, ap, ◌∙◌}
use Rattle.std.specs.Prelude.{slice_index_or}
use Rattle.std.specs.Str.{bytes_eq}
use Rattle.std.specs.Cmp.Lexicographic.{bytes_decides}
use Rattle.std.proofs.lemmas.Bool.{and_parts, eqb-true, false≢true}
use Rattle.vf_base.specs.declared.int_type.IntType.{IntType}
use Rattle.vf_base.specs.declared.int_type.IntType.TheVariants as integers
use Rattle.vf_declared.specs.declared.ctype.CType.{CType}
use Rattle.vf_declared.specs.declared.ctype.CType.TheVariants as types
use Rattle.vf_declared.specs.declared.declaration.Signature.{Signature}
use Rattle.vf_declared.specs.Types.{integer_number, same_integer, same_type, same_types}
use Rattle.vf_syntax.specs.declared.item.Typed.{Typed}
use Rattle.vf_walk.specs.Items.{first_renamed}
use Rattle.vf_walk.specs.Names.{has_types}
use Rattle.vf_erasure_laws.proofs.erased.WalkingSeen.{as_long, longer}

numbered : ℕ → IntType
numbered n =
    slice_index_or (integers.Bool ∷ integers.Char ∷ integers.UChar ∷ integers.Short ∷ integers.UShort ∷ integers.Int ∷ integers.UInt ∷ integers.Long ∷ integers.ULong ∷ integers.LongLong ∷ integers.ULongLong ∷ []) n integers.Bool

own_number : (t : IntType) → numbered (integer_number t) ≡ t
unfolding numbered
own_number integers.Bool = refl
own_number integers.Char = refl
own_number integers.UChar = refl
own_number integers.Short = refl
own_number integers.UShort = refl
own_number integers.Int = refl
own_number integers.UInt = refl
own_number integers.Long = refl
own_number integers.ULong = refl
own_number integers.LongLong = refl
own_number integers.ULongLong = refl

integer_is : (t u : IntType) → same_integer t u ≡ true → t ≡ u
integer_is t u h = sym (own_number t) ∙ ap numbered (eqb-true (integer_number t) (integer_number u) h) ∙ own_number u

type_is : (a b : CType) → same_type a b ≡ true → a ≡ b
type_is types.Void types.Void h = refl
type_is (types.Integer t) (types.Integer u) h = ap types.Integer (integer_is t u h)
type_is types.VoidPointer types.VoidPointer h = refl
type_is types.IntPointer types.IntPointer h = refl
type_is (types.StructPointer n) (types.StructPointer m) h = ap types.StructPointer (eqb-true n m h)
type_is (types.FunctionPointer n) (types.FunctionPointer m) h = ap types.FunctionPointer (eqb-true n m h)
type_is (types.Function n) (types.Function m) h = ap types.Function (eqb-true n m h)
type_is _ _ h = absurd (false≢true h)

types_are : (ts us : List CType) → same_types ts us ≡ true → ts ≡ us
types_are [] [] h = refl
types_are [] (u ∷ us) h = absurd (false≢true h)
types_are (t ∷ ts) [] h = absurd (false≢true h)
types_are (t ∷ ts) (u ∷ us) h =
    let k = and_parts (same_type t u) (same_types ts us) h in
    λ i. type_is t u k.0 i ∷ types_are ts us k.1 i

-- a function that has some types
pub record HasTypes (ts : List CType) (o : Option Signature) : Type 0 where
  pub function : Signature
  pub at : o ≡ Some function
  pub takes : function.parameters ≡ ts

pub has_types_is : (t : CType) (ts : List CType) (o : Option Signature) → has_types t ts o ≡ true → HasTypes ts o
has_types_is t ts None h = absurd (false≢true h)
has_types_is t ts (Some f) h =
    let k = and_parts (same_type f.«result» t) (same_types f.parameters ts) h in
    record { function = f; at = refl; takes = types_are f.parameters ts k.1 }

-- the names of parameters
abbrev pub texts : List Typed → List (List ℕ)
texts [] = []
texts (p ∷ ps) = p.name.text ∷ texts ps

pub as_many_texts : (ps : List Typed) → length (texts ps) ≡ length ps
as_many_texts [] = refl
as_many_texts (p ∷ ps) = ap suc (as_many_texts ps)

-- names of which none is another are those of the parameters
pub none_renamed : (xs ys : List (List ℕ)) (ps : List Typed) → length xs ≡ length ps → first_renamed (xs ++ ys) ps ≡ None → xs ≡ texts ps
none_renamed [] ys [] e h = refl
none_renamed [] ys (p ∷ ps) e h = longer (sym e)
none_renamed (x ∷ xs) ys [] e h = longer e
none_renamed (x ∷ xs) ys (p ∷ ps) e h = by_test (bytes_eq x p.name.text) refl h (none_renamed xs ys ps (as_long x xs p ps e))
  where
    by_test : (b : Bool) → bytes_eq x p.name.text ≡ b → (if b then first_renamed (xs ++ ys) ps else Some p.name.place) ≡ None → (first_renamed (xs ++ ys) ps ≡ None → xs ≡ texts ps) → x ∷ xs ≡ p.name.text ∷ texts ps
    by_test true t h f = λ i. (bytes_decides x p.name.text).0 t i ∷ f h i
    by_test false t h f = absurd cc
