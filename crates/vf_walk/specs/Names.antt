-- When a name of file level may be declared.
use Rattle.std.specs.Prelude.{ℕ, Bool, true, false, not, ◌&&◌, if◌then◌else◌, List, [], ◌∷◌, codes, is_some, Option, Some, None, Result, Ok, Err, slice_get}
use Rattle.std.specs.Str.{bytes_eq}
use Rattle.vf_base.specs.declared.refusal.Refusal.{Refusal}
use Rattle.vf_base.specs.declared.rule.Rule.TheVariants as rules
use Rattle.vf_declared.specs.declared.ctype.CType.{CType}
use Rattle.vf_declared.specs.declared.declaration.Declaration.{Declaration}
use Rattle.vf_declared.specs.declared.declaration.Meaning.{Meaning}
use Rattle.vf_declared.specs.declared.declaration.Meaning.TheVariants as meanings
use Rattle.vf_declared.specs.declared.declaration.Sides.{Sides}
use Rattle.vf_declared.specs.declared.declaration.Signature.{Signature}
use Rattle.vf_declared.specs.declared.declaration.Structure.{Structure}
use Rattle.vf_declared.specs.declared.scope.Scope.{Scope}
use Rattle.vf_declared.specs.Scopes.{at_name, has, is_declared, is_visible}
use Rattle.vf_declared.specs.Types.{same_type, same_types}
use Rattle.vf_syntax.specs.declared.written.Name.{Name}
use Rattle.vf_typing.specs.Refusals.{refused}

-- the name of `free` in a unit that has `<stdlib.h>`
abbrev pub is_taken : Scope → List ℕ → Bool
is_taken s x = s.has_stdlib && bytes_eq x (codes "free")

-- the first file in which something is declared is a prelude's
abbrev pub is_of_prelude : Scope → List ℕ → Bool
is_of_prelude s [] = false
is_of_prelude s (file ∷ files) = has s.preludes file

-- a function has no prototype so far, or no body
abbrev pub lacks : Bool → Option Sides → Bool
lacks body None = false
lacks true (Some x) = not x.is_defined
lacks false (Some x) = not (is_some x.prototype)

-- the function of a meaning that a prototype or a body may be added to
abbrev pub function_of : Scope → Bool → Meaning → Option ℕ
function_of s body (meanings.Function n) = if lacks body (slice_get s.sides n) then Some n else None
function_of s body m = None

-- the same of a declaration: it is seen from the file of the new one, and is no prelude's
abbrev pub extended : Scope → ℕ → Bool → Declaration → Option ℕ
extended s file body d = if is_visible s file d.files && not (is_of_prelude s d.files) then function_of s body d.meaning else None

-- the function that is meant, or the refusal of its name
abbrev pub extends : Name → Option ℕ → Result (Option ℕ) Refusal
extends n None = Err (refused rules.Name n.place)
extends n (Some k) = Ok (Some k)

-- what a prototype or a body is of where a declaration of its name may stand before: of none, or of a function by its number
abbrev pub earlier_in : Scope → Name → Bool → Option Declaration → Result (Option ℕ) Refusal
earlier_in s n body None = Ok None
earlier_in s n body (Some d) = extends n (extended s n.place.file body d)

-- the same of a name
abbrev pub earlier : Scope → Name → Bool → Result (Option ℕ) Refusal
earlier s n body = if is_taken s n.text then Err (refused rules.Name n.place) else earlier_in s n body (at_name s.names s.declarations n.text)

-- a name that nothing of file level has so far
abbrev pub is_new : Scope → List ℕ → Bool
is_new s x = not (is_taken s x) && not (is_declared s x)

-- a function has these types
abbrev pub has_types : CType → List CType → Option Signature → Bool
has_types t ts None = false
has_types t ts (Some x) = same_type x.«result» t && same_types x.parameters ts

-- a struct is declared already as opaque, or with its fields
abbrev pub is_stated : Bool → Structure → Bool
is_stated true x = x.is_opaque
is_stated false x = is_some x.fields

-- a struct may be declared again in a file, as opaque or with its fields: it is seen there, is not so declared yet, and preludes' structs are declared by preludes alone
abbrev pub may_be_stated : Scope → ℕ → Bool → Option Structure → Bool
may_be_stated s file opaque None = false
may_be_stated s file opaque (Some x) = is_visible s file x.files && (not (is_stated opaque x) && not (is_of_prelude s x.files && not (has s.preludes file)))
