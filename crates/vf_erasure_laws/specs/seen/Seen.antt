-- What C text sees of what is declared: all but what annotations declare.
use Rattle.std.specs.Prelude.{◌≡◌, ℕ, Bool, true, false, if◌then◌else◌, List, [], ◌∷◌, ◌++◌, length, filter, map, Some, slice_get}
use Rattle.std.specs.Option.{option_map}
use Rattle.vf_declared.specs.declared.declaration.Declaration.{Declaration}
use Rattle.vf_declared.specs.declared.declaration.Meaning.{Meaning}
use Rattle.vf_declared.specs.declared.declaration.Meaning.TheVariants as meanings
use Rattle.vf_declared.specs.declared.declaration.Sides.{Sides}
use Rattle.vf_declared.specs.declared.locals.Local.{Local}
use Rattle.vf_declared.specs.declared.locals.Local.TheVariants as locals
use Rattle.vf_declared.specs.declared.locals.Locals.{Locals}
use Rattle.vf_declared.specs.declared.scope.Scope.{Scope}
use Rattle.vf_declared.specs.Changes.{IsAligned}

-- a local is one of C, and no name of an annotation
abbrev pub is_real : Local → Bool
is_real (locals.Real t) = true
is_real (locals.Ghost g) = false

-- the names of the locals of C, where names stand beside what they mean
abbrev pub real_names : List (List ℕ) → List Local → List (List ℕ)
real_names (x ∷ xs) (l ∷ ls) = if is_real l then x ∷ real_names xs ls else real_names xs ls
real_names xs ls = []

-- the locals of C among locals
unfoldable pub real_locals : Locals → Locals
real_locals l = record { names = real_names l.names l.meanings; meanings = filter is_real l.meanings }

-- a name of file level means a function or a function type, and nothing that annotations declare
abbrev pub is_of_c : Meaning → Bool
is_of_c (meanings.Function n) = true
is_of_c (meanings.FunctionType n) = true
is_of_c (meanings.Ghost n) = false

-- the same of a declaration
abbrev pub declares_c : Declaration → Bool
declares_c d = is_of_c d.meaning

-- the names of file level that C text sees, where names stand beside their declarations
abbrev pub names_of_c : List (List ℕ) → List Declaration → List (List ℕ)
names_of_c (x ∷ xs) (d ∷ ds) = if declares_c d then x ∷ names_of_c xs ds else names_of_c xs ds
names_of_c xs ds = []

-- what a function is declared with so far, of which C text sees no names of its contract
abbrev pub seen_sides : Sides → Sides
seen_sides x = record x { prototype = option_map real_locals x.prototype }

-- what C text sees of what is declared
unfoldable pub seen : Scope → Scope
seen s = record s {
  locals = real_locals s.locals;
  names = names_of_c s.names s.declarations;
  declarations = filter declares_c s.declarations;
  predicates = [];
  predicate_files = [];
  predicate_sorts = [];
  sides = map seen_sides s.sides;
  ghosts = [];
  ghost_sides = [];
  datatypes = [];
}

-- locals behind a prototype: its parameters, and then names of its contract
pub record AreBehindPrototype (l : Locals) : Type 0 where
  pub aligned : IsAligned l
  pub rest : List (List ℕ)
  pub first : l.names ≡ real_names l.names l.meanings ++ rest

-- names stand beside what they mean: locals, names of file level, and the locals behind each prototype
pub record IsOrderly (s : Scope) : Type 0 where
  pub locals : IsAligned s.locals
  pub names : length s.names ≡ length s.declarations
  pub prototypes : (k : ℕ) (x : Sides) (l : Locals) → slice_get s.sides k ≡ Some x → x.prototype ≡ Some l → AreBehindPrototype l
