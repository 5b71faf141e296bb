-- Names that patterns bind: when they are refused, and how they are declared behind the part in which they stand.
use Rattle.std.specs.Prelude.{ℕ, Bool, true, false, ◌&&◌, ◌||◌, if◌then◌else◌, List, [], ◌∷◌, ◌++◌, codes, is_some, map, Option, Some, None}
use Rattle.std.specs.Str.{bytes_eq}
use Rattle.vf_base.specs.declared.refusal.Refusal.{Refusal}
use Rattle.vf_base.specs.declared.rule.Rule.TheVariants as rules
use Rattle.vf_names.specs.Names.{number_of}
use Rattle.vf_sorts.specs.Sorts.{Sort}
use Rattle.vf_declared.specs.declared.declaration.Meaning.{Meaning}
use Rattle.vf_declared.specs.declared.declaration.Meaning.TheVariants as meanings
use Rattle.vf_declared.specs.declared.locals.Local.{Local}
use Rattle.vf_declared.specs.declared.locals.Local.TheVariants as locals
use Rattle.vf_declared.specs.declared.scope.Scope.{Scope}
use Rattle.vf_declared.specs.Scopes.{declaration_of, local_of}
use Rattle.vf_syntax.specs.declared.written.Name.{Name}
use Rattle.vf_sorting.specs.Refusals.{refused}
use Rattle.vf_binding.specs.declared.bound.Bound.{Bound}

-- no names
abbrev pub no_names : Bound
no_names = record { names = []; sorts = [] }

-- some names, and one more of a sort
abbrev pub with_bound : Bound → List ℕ → Sort → Bound
with_bound b x t = record { names = b.names ++ x ∷ []; sorts = b.sorts ++ t ∷ [] }

-- a name that is bound, as a local: it is never assigned
abbrev pub bound_local : Sort → Local
bound_local t = locals.Ghost (record { is_variable = false; sort = t })

-- a scope in which some names are locals too
abbrev pub with_names : Scope → Bound → Scope
with_names s b = record s { locals = record { names = s.locals.names ++ b.names; meanings = s.locals.meanings ++ map bound_local b.sorts } }

-- a local is one of C
abbrev pub is_real : Option Local → Bool
is_real (Some (locals.Real t)) = true
is_real l = false

-- a name of file level is one of C: that of a function or of a function type
abbrev pub is_of_c : Option Meaning → Bool
is_of_c (Some (meanings.Function n)) = true
is_of_c (Some (meanings.FunctionType n)) = true
is_of_c m = false

-- a name is one of C in a file: that of a local, of a function or function type, or `free` in a unit that has `<stdlib.h>`
abbrev pub names_real : Scope → List ℕ → ℕ → Bool
names_real s x file = is_real (local_of s x) || (is_of_c (declaration_of s x file) || (s.has_stdlib && bytes_eq x (codes "free")))

-- a name is that of a local, or is bound already in the same part
abbrev pub is_bound : Scope → Bound → List ℕ → Bool
is_bound s b x = is_some (number_of s.locals.names x) || is_some (number_of b.names x)

-- why a name may not be bound, if it may not
abbrev pub name_refusal : Scope → Bound → Name → Option Refusal
name_refusal s b n = if names_real s n.text n.place.file then Some (refused rules.GhostInReal n.place) else if is_bound s b n.text then Some (refused rules.Name n.place) else None
