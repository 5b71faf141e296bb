-- When a header shows the same in two units: the numbers of structs, functions and function types may differ, and names tell which is which.
use Rattle.std.specs.Prelude.{◌≡◌, ℕ, true, List, [], ◌∷◌, Option, Some, None, slice_get}
use Rattle.vf_base.specs.declared.int_type.IntType.{IntType}
use Rattle.vf_declared.specs.declared.ctype.CType.{CType}
use Rattle.vf_declared.specs.declared.ctype.CType.TheVariants as types
use Rattle.vf_declared.specs.declared.declaration.Meaning.{Meaning}
use Rattle.vf_declared.specs.declared.declaration.Meaning.TheVariants as meanings
use Rattle.vf_declared.specs.declared.declaration.Signature.{Signature}
use Rattle.vf_declared.specs.declared.scope.Scope.{Scope}
use Rattle.vf_declared.specs.Scopes.{declaration_of, field_of, function_type_of, signature_of, tag_of}
use Rattle.vf_header_laws.specs.c_names.Parts.{IsHeader, is_part_of, LiesWithin, part_of}

-- two things that may be there: neither is there, or both are and are alike
pub data Both {A B : Type 0} (Alike : A → B → Type 0) : Option A → Option B → Type 0 where
  neither : Both Alike None None
  both : {a : A} {b : B} → Alike a b → Both Alike (Some a) (Some b)

-- two lists of as many things, which are alike in order
pub data Each {A B : Type 0} (Alike : A → B → Type 0) : List A → List B → Type 0 where
  done : Each Alike [] []
  next : {a : A} {b : B} {xs : List A} {ys : List B} → Alike a b → Each Alike xs ys → Each Alike (a ∷ xs) (b ∷ ys)

-- in a header one tag is that of a struct of the first unit and of one of the second
pub record AreOneStruct (header : ℕ) (s t : Scope) (n m : ℕ) : Type 0 where
  pub tag : List ℕ
  pub first : tag_of s tag header ≡ Some n
  pub second : tag_of t tag header ≡ Some m

-- in a header one name means this in the first unit and that in the second
pub record AreOneName (header : ℕ) (s t : Scope) (x y : Meaning) : Type 0 where
  pub name : List ℕ
  pub first : declaration_of s name header ≡ Some x
  pub second : declaration_of t name header ≡ Some y

-- a type of the first unit and one of the second are the same, in the names of a header
pub data AreOneType (header : ℕ) (s t : Scope) : CType → CType → Type 0 where
  void : AreOneType header s t types.Void types.Void
  integer : {i : IntType} → AreOneType header s t (types.Integer i) (types.Integer i)
  void_pointer : AreOneType header s t types.VoidPointer types.VoidPointer
  int_pointer : AreOneType header s t types.IntPointer types.IntPointer
  struct_pointer : {n m : ℕ} → AreOneStruct header s t n m → AreOneType header s t (types.StructPointer n) (types.StructPointer m)
  function_pointer : {n m : ℕ} → AreOneName header s t (meanings.FunctionType n) (meanings.FunctionType m) → AreOneType header s t (types.FunctionPointer n) (types.FunctionPointer m)
  function : {n m : ℕ} → AreOneName header s t (meanings.Function n) (meanings.Function m) → AreOneType header s t (types.Function n) (types.Function m)

-- two signatures give the same type and take the same types
pub record AreOneSignature (header : ℕ) (s t : Scope) (f g : Signature) : Type 0 where
  pub gives : AreOneType header s t f.«result» g.«result»
  pub takes : Each (AreOneType header s t) f.parameters g.parameters

-- two meanings of a name are the same: functions, or function types, of the same signature; to C text all that annotations declare is the same
pub data MeanTheSame (header : ℕ) (s t : Scope) : Meaning → Meaning → Type 0 where
  functions : {n m : ℕ} {f g : Signature} → signature_of s n ≡ Some f → signature_of t m ≡ Some g → AreOneSignature header s t f g → MeanTheSame header s t (meanings.Function n) (meanings.Function m)
  function_types : {n m : ℕ} {f g : Signature} → function_type_of s n ≡ Some f → function_type_of t m ≡ Some g → AreOneSignature header s t f g → MeanTheSame header s t (meanings.FunctionType n) (meanings.FunctionType m)
  ghosts : {n m : ℕ} → MeanTheSame header s t (meanings.Ghost n) (meanings.Ghost m)

-- of two structs the same fields are seen from each file of which a header consists, and they have the same types
pub record HaveTheSameFields (header : ℕ) (s t : Scope) (n m : ℕ) : Type 0 where
  pub fields : (file : ℕ) (name : List ℕ) → is_part_of s header file ≡ true → Both (AreOneType header s t) (field_of s n name file) (field_of t m name file)

-- a header consists of the same files in two units, and in each of them every name and tag means the same in both
pub record ShowTheSame (header : ℕ) (s t : Scope) : Type 0 where
  pub files : (file : ℕ) → is_part_of s header file ≡ true → slice_get s.headers file ≡ slice_get t.headers file
  pub names : (file : ℕ) (name : List ℕ) → is_part_of s header file ≡ true → Both (MeanTheSame header s t) (declaration_of s name file) (declaration_of t name file)
  pub tags : (file : ℕ) (tag : List ℕ) → is_part_of s header file ≡ true → Both (HaveTheSameFields header s t) (tag_of s tag file) (tag_of t tag file)

-- a header consists of headers alone, and of all that these consist of
pub record ConsistsOfHeaders (s : Scope) (header : ℕ) : Type 0 where
  pub headers : (file : ℕ) → is_part_of s header file ≡ true → IsHeader s file
  pub within : (file : ℕ) → is_part_of s header file ≡ true → LiesWithin s header file

-- a header shows the same in two units just where it shows the same in the parts of them that stand in its files
abbrev pub PartsShowTheSame : Type 0
PartsShowTheSame = (header : ℕ) (s t : Scope) → ConsistsOfHeaders s header → ConsistsOfHeaders t header → (ShowTheSame header s t → ShowTheSame header (part_of header s) (part_of header t)) × (ShowTheSame header (part_of header s) (part_of header t) → ShowTheSame header s t)
