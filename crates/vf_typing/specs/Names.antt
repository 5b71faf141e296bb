-- The types of names, and of types as they are written.
use Rattle.std.specs.Prelude.{ℕ, if◌then◌else◌, List, Option, Some, None, Result, Ok, Err}
use Rattle.vf_base.specs.declared.int_type.IntType.{IntType}
use Rattle.vf_base.specs.declared.int_type.IntType.TheVariants as integers
use Rattle.vf_base.specs.declared.place.Place.{Place}
use Rattle.vf_base.specs.declared.refusal.Refusal.{Refusal}
use Rattle.vf_base.specs.declared.rule.Rule.TheVariants as rules
use Rattle.vf_declared.specs.declared.ctype.CType.{CType}
use Rattle.vf_declared.specs.declared.ctype.CType.TheVariants as types
use Rattle.vf_declared.specs.declared.declaration.Meaning.{Meaning}
use Rattle.vf_declared.specs.declared.declaration.Meaning.TheVariants as meanings
use Rattle.vf_declared.specs.declared.locals.Local.{Local}
use Rattle.vf_declared.specs.declared.locals.Local.TheVariants as locals
use Rattle.vf_declared.specs.declared.scope.Scope.{Scope}
use Rattle.vf_declared.specs.Scopes.{local_of, declaration_of, is_later_predicate, tag_of}
use Rattle.vf_syntax.specs.declared.written.CType.{CType as WrittenType}
use Rattle.vf_syntax.specs.declared.written.IntegerWords.{IntegerWords}
use Rattle.vf_syntax.specs.declared.written.IntegerWords.TheVariants as words
use Rattle.vf_syntax.specs.declared.written.Sign.TheVariants as signs
use Rattle.vf_syntax.specs.declared.written.TypeForm.{TypeForm}
use Rattle.vf_syntax.specs.declared.written.TypeForm.TheVariants as forms
use Rattle.vf_syntax.specs.declared.written.Width.{Width}
use Rattle.vf_syntax.specs.declared.written.Width.TheVariants as widths
use Rattle.vf_typing.specs.Refusals.{refused}

-- the type of a name of file level: a ghost name is none of C, and a function type no value
abbrev pub declared_type : Scope → Place → List ℕ → Option Meaning → Result CType Refusal
declared_type s p x None = Err (refused (if is_later_predicate s x p.file then rules.GhostInReal else rules.Name) p)
declared_type s p x (Some (meanings.Function n)) = Ok (types.Function n)
declared_type s p x (Some (meanings.FunctionType n)) = Err (refused rules.Typing p)
declared_type s p x (Some (meanings.Ghost n)) = Err (refused rules.GhostInReal p)

-- the type of a name that is that of a local, or of none
abbrev pub local_type : Scope → Place → List ℕ → Option Local → Result CType Refusal
local_type s p x None = declared_type s p x (declaration_of s x p.file)
local_type s p x (Some (locals.Real t)) = Ok t
local_type s p x (Some (locals.Ghost g)) = Err (refused rules.GhostInReal p)

-- the type of a name at a place: a local hides a name of file level
abbrev pub name_type : Scope → Place → List ℕ → Result CType Refusal
name_type s p x = local_type s p x (local_of s x)

-- the rule by which a name is refused that is of no function type, where it may be that of a local
abbrev pub no_function_type : Option Local → Place → Result CType Refusal
no_function_type (Some (locals.Ghost g)) p = Err (refused rules.GhostInReal p)
no_function_type l p = Err (refused rules.Name p)

-- a pointer to what a name of file level means in a type: a function type, else the name is refused
abbrev pub pointer_to : Scope → Place → List ℕ → Option Meaning → Result CType Refusal
pointer_to s p x (Some (meanings.FunctionType n)) = Ok (types.FunctionPointer n)
pointer_to s p x (Some (meanings.Ghost n)) = Err (refused rules.GhostInReal p)
pointer_to s p x m = no_function_type (local_of s x) p

-- a pointer to a struct by its number, or a refusal of the tag
abbrev pub struct_pointer : Place → Option ℕ → Result CType Refusal
struct_pointer p None = Err (refused rules.Name p)
struct_pointer p (Some n) = Ok (types.StructPointer n)

-- the type of a width with a sign
abbrev pub signed_width : Width → IntType
signed_width widths.Char = integers.Char
signed_width widths.Short = integers.Short
signed_width widths.ShortInt = integers.Short
signed_width widths.Int = integers.Int
signed_width widths.Long = integers.Long
signed_width widths.LongInt = integers.Long
signed_width widths.LongLong = integers.LongLong
signed_width widths.LongLongInt = integers.LongLong

-- the type of a width without a sign
abbrev pub unsigned_width : Width → IntType
unsigned_width widths.Char = integers.UChar
unsigned_width widths.Short = integers.UShort
unsigned_width widths.ShortInt = integers.UShort
unsigned_width widths.Int = integers.UInt
unsigned_width widths.Long = integers.ULong
unsigned_width widths.LongInt = integers.ULong
unsigned_width widths.LongLong = integers.ULongLong
unsigned_width widths.LongLongInt = integers.ULongLong

-- the integer type that words name (C11 6.7.2)
abbrev pub integer_type : IntegerWords → IntType
integer_type (words.Sign signs.Signed) = integers.Int
integer_type (words.Sign signs.Unsigned) = integers.UInt
integer_type (words.Width w) = signed_width w
integer_type (words.Both signs.Signed w) = signed_width w
integer_type (words.Both signs.Unsigned w) = unsigned_width w

-- the type of a form at a place
abbrev pub form_type : Scope → Place → TypeForm → Result CType Refusal
form_type s p (forms.Integer w) = Ok (types.Integer (integer_type w))
form_type s p forms.Bool = Ok (types.Integer integers.Bool)
form_type s p forms.VoidPointer = Ok types.VoidPointer
form_type s p forms.IntPointer = Ok types.IntPointer
form_type s p (forms.StructPointer n) = struct_pointer n.place (tag_of s n.text n.place.file)
form_type s p (forms.NamedPointer x) = pointer_to s p x (declaration_of s x p.file)

-- the type that is written: an unknown tag is refused at the tag, and an unknown function type at its name
abbrev pub written_type : Scope → WrittenType → Result CType Refusal
written_type s t = form_type s t.place t.form
