-- How the signatures of functions and lemmas are spelled.
use Rattle.std.specs.Prelude.{ℕ, zero, suc, ◌+◌, List, [], ◌++◌, map, codes, Option, Some, None, slice_get}
use Rattle.std.specs.Fmt.{decimal}
use Rattle.std.specs.List.{join_with_byte}
use Rattle.vf_base.specs.declared.int_type.IntType.{IntType}
use Rattle.vf_base.specs.declared.int_type.IntType.TheVariants as integers
use Rattle.vf_sorts.specs.declared.sort.Head.{Head}
use Rattle.vf_sorts.specs.declared.sort.Head.TheVariants as heads
use Rattle.vf_sorts.specs.Sorts.{Sort, Sorts, sort, no_sorts, and_sort, row}
use Rattle.vf_declared.specs.declared.ctype.CType.{CType}
use Rattle.vf_declared.specs.declared.ctype.CType.TheVariants as types
use Rattle.vf_declared.specs.declared.declaration.Lemma.{Lemma}
use Rattle.vf_declared.specs.declared.declaration.Signature.{Signature}
use Rattle.vf_manifest.specs.Trees as trees
use Rattle.vf_manifest.specs.Trees.{sorts_text}
use Rattle.vf_promises.specs.declared.type_names.TypeNames.{TypeNames}

-- a name that was found, and no bytes where there is none
abbrev pub name_or_none : Option (List ℕ) → List ℕ
name_or_none None = []
name_or_none (Some name) = name

-- the name with a number
abbrev pub name_at : List (List ℕ) → ℕ → List ℕ
name_at names n = name_or_none (slice_get names n)

-- a comma in front of all but the first
abbrev pub comma_before : ℕ → List ℕ
comma_before zero = []
comma_before (suc n) = codes ","

-- ---- functions

-- an integer type of C
abbrev pub integer_text : IntType → List ℕ
integer_text integers.Bool = codes "bool"
integer_text integers.Char = codes "char"
integer_text integers.UChar = codes "uchar"
integer_text integers.Short = codes "short"
integer_text integers.UShort = codes "ushort"
integer_text integers.Int = codes "int"
integer_text integers.UInt = codes "uint"
integer_text integers.Long = codes "long"
integer_text integers.ULong = codes "ulong"
integer_text integers.LongLong = codes "llong"
integer_text integers.ULongLong = codes "ullong"

-- a type of C; that of a function's name, which is the type of no parameter and no result, has no spelling of its own
abbrev pub type_text : TypeNames → CType → List ℕ
type_text t types.Void = codes "void"
type_text t (types.Integer i) = integer_text i
type_text t types.VoidPointer = codes "void*"
type_text t types.IntPointer = codes "int*"
type_text t (types.StructPointer n) = codes "struct:" ++ (name_at t.tags n ++ codes "*")
type_text t (types.FunctionPointer n) = codes "fn:" ++ (name_at t.function_types n ++ codes "*")
type_text t (types.Function n) = codes "?"

-- a function: the type of its result, and those of its parameters in parentheses
abbrev pub function_signature : TypeNames → Signature → List ℕ
function_signature t g = type_text t g.«result» ++ (codes "(" ++ (join_with_byte 44 (map (type_text t) g.parameters) ++ codes ")"))

-- ---- lemmas

-- a datatype: its name alone, or in front of the sorts in its brackets
abbrev pub datatype_shape : List ℕ → Sorts → trees.Shape
datatype_shape name no_sorts = trees.Word name
datatype_shape name (and_sort t ts) = trees.Applied name

-- a sort but for the sorts in its brackets; an unknown sort is one of any values, and a type parameter has its number, counted from 1
abbrev pub shape_of : List (List ℕ) → Head → Sorts → trees.Shape
shape_of names heads.Int ts = trees.Word (codes "int")
shape_of names heads.Bool ts = trees.Word (codes "bool")
shape_of names (heads.Pointer told) ts = trees.Word (codes "ptr")
shape_of names heads.Real ts = trees.Word (codes "real")
shape_of names heads.Any ts = trees.Word (codes "any")
shape_of names (heads.Parameter i) ts = trees.Word (codes "$" ++ decimal (i + 1))
shape_of names (heads.Unknown u) ts = trees.Word (codes "any")
shape_of names (heads.Datatype n) ts = datatype_shape (name_at names n) ts
shape_of names heads.Predicate ts = trees.Predicate

-- sorts as the trees that stand in signatures, by the names of datatypes
abbrev pub trees_of : List (List ℕ) → Sorts → trees.Sorts
trees_of names no_sorts = trees.None_left
trees_of names (and_sort (sort h ts) rest) = trees.Sort_then (shape_of names h ts) (trees_of names ts) (trees_of names rest)

-- a sort
abbrev pub sort_text : List (List ℕ) → Sort → List ℕ
sort_text names (sort h ts) = trees.sort_text (shape_of names h ts) (sorts_text (trees_of names ts))

-- the sorts in brackets behind the name of a datatype, if there are any
abbrev pub brackets_text : List (List ℕ) → Sorts → List ℕ
brackets_text names no_sorts = []
brackets_text names (and_sort t ts) = codes "<" ++ (sorts_text (trees_of names (and_sort t ts)) ++ codes ">")

-- a lemma: the number of its type parameters, and its sorts in parentheses
abbrev pub lemma_signature : TypeNames → Lemma → List ℕ
lemma_signature t l = codes "lemma/" ++ (decimal l.parameters ++ (codes "(" ++ (sorts_text (trees_of t.datatypes (row l.arguments)) ++ codes ")")))
