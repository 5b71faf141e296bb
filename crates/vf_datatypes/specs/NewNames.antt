-- Which names annotations may declare: at file level, and as type parameters.
use Rattle.std.specs.Prelude.{ℕ, Bool, true, false, ◌&&◌, ◌||◌, if◌then◌else◌, List, [], ◌∷◌, ◌++◌, codes, is_some, Option, Some, None, Result, Ok}
use Rattle.std.specs.Str.{bytes_eq}
use Rattle.vf_base.specs.declared.refusal.Refusal.{Refusal}
use Rattle.vf_base.specs.declared.rule.Rule.TheVariants as rules
use Rattle.vf_names.specs.Names.{number_of}
use Rattle.vf_declared.specs.declared.declaration.Declaration.{Declaration}
use Rattle.vf_declared.specs.declared.declaration.Meaning.{Meaning}
use Rattle.vf_declared.specs.declared.declaration.Meaning.TheVariants as meanings
use Rattle.vf_declared.specs.declared.scope.Scope.{Scope}
use Rattle.vf_declared.specs.Scopes.{at_name, is_visible}
use Rattle.vf_syntax.specs.declared.written.Name.{Name}
use Rattle.vf_sorting.specs.Refusals.{refused}
use Rattle.vf_datatypes.specs.Walking.{unless}

-- what C text declares
abbrev pub is_of_c : Meaning → Bool
is_of_c (meanings.Ghost n) = false
is_of_c m = true

-- a name is that of `free`, in a unit that has `<stdlib.h>`
abbrev pub is_free : Scope → List ℕ → Bool
is_free s x = s.has_stdlib && bytes_eq x (codes "free")

-- a declaration of C is seen from a file
abbrev pub is_seen_c : Scope → ℕ → Option Declaration → Bool
is_seen_c s file None = false
is_seen_c s file (Some d) = is_visible s file d.files && is_of_c d.meaning

-- a name of file level is one of C that is seen from a file, or that of `free`
abbrev pub names_c : Scope → List ℕ → ℕ → Bool
names_c s x file = is_free s x || is_seen_c s file (at_name s.names s.declarations x)

-- why annotations may not declare a name at file level, if they may not: it is one of C that is seen there, or it is declared already
abbrev pub name_refusal : Scope → Name → Option Refusal
name_refusal s n = if names_c s n.text n.place.file then Some (refused rules.GhostInReal n.place) else (if is_some (number_of s.names n.text) then Some (refused rules.Name n.place) else None)

-- why a name may not be a type parameter behind others, if it may not: it is one of them, or one of C
abbrev pub parameter_refusal : Scope → List (List ℕ) → Name → Option Refusal
parameter_refusal s ps n = if is_some (number_of ps n.text) then Some (refused rules.Name n.place) else (if names_c s n.text n.place.file then Some (refused rules.GhostInReal n.place) else None)

-- type parameters behind others
abbrev pub parameters_behind : Scope → List Name → List (List ℕ) → Result (List (List ℕ)) Refusal
parameters_behind s [] ps = Ok ps
parameters_behind s (n ∷ ns) ps = unless (parameter_refusal s ps n) (parameters_behind s ns (ps ++ n.text ∷ []))
