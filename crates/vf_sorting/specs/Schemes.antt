-- What names may be used at in ghost text: sorts with type parameters, for which each use has sorts of its own.
use Rattle.std.specs.Prelude.{ℕ, Bool, true, false, nat_eq, if◌then◌else◌, List, [], ◌∷◌, Option, Some, None, Result, Ok, Err, drop, ◌&&◌, codes}
use Rattle.std.specs.List.{starts_with}
use Rattle.vf_base.specs.declared.int_type.IntType.TheVariants as integers
use Rattle.vf_base.specs.declared.place.Place.{Place}
use Rattle.vf_base.specs.declared.refusal.Refusal.{Refusal}
use Rattle.vf_base.specs.declared.rule.Rule.TheVariants as rules
use Rattle.vf_sorts.specs.declared.sort.Head.TheVariants as heads
use Rattle.vf_sorts.specs.Sorts.{Sort}
use Rattle.vf_sorts.specs.Unknowns.{Known, leaf}
use Rattle.vf_declared.specs.declared.ctype.CType.{CType}
use Rattle.vf_declared.specs.declared.ctype.CType.TheVariants as types
use Rattle.vf_declared.specs.declared.declaration.Meaning.{Meaning}
use Rattle.vf_declared.specs.declared.declaration.Meaning.TheVariants as meanings
use Rattle.vf_declared.specs.declared.declaration.GhostDeclaration.{GhostDeclaration}
use Rattle.vf_declared.specs.declared.declaration.GhostDeclaration.TheVariants as ghosts
use Rattle.vf_declared.specs.declared.declaration.Constructor.{Constructor}
use Rattle.vf_declared.specs.declared.declaration.Datatype.{Datatype}
use Rattle.vf_declared.specs.declared.locals.Local.{Local}
use Rattle.vf_declared.specs.declared.locals.Local.TheVariants as locals
use Rattle.vf_declared.specs.declared.scope.Scope.{Scope}
use Rattle.vf_declared.specs.Scopes.{datatype_of, declaration_of, ghost_of, is_later_predicate, later_predicate, local_of}
use Rattle.vf_sorting.specs.declared.scheme.Scheme.{Scheme}
use Rattle.vf_sorting.specs.Kinds.{bool_sort, datatype_sort, int_sort, is_predicate, pointer_sort, predicate_sort, resolved}
use Rattle.vf_sorting.specs.Refusals.{refused}

-- the sort of a type of C
abbrev pub sort_of_type : CType → Sort
sort_of_type (types.Integer integers.Bool) = bool_sort
sort_of_type (types.Integer i) = int_sort
sort_of_type (types.StructPointer n) = leaf (heads.Pointer (Some n))
sort_of_type t = pointer_sort

-- the sort of a local
abbrev pub sort_of_local : Local → Sort
sort_of_local (locals.Real t) = sort_of_type t
sort_of_local (locals.Ghost g) = g.sort

-- what is used at one sort, and is applied to nothing
abbrev pub at_sort : Sort → Scheme
at_sort t = record { parameters = 0; arguments = []; result = t }

-- how many type parameters a datatype has that may be none
abbrev pub count_in : Option Datatype → ℕ
count_in None = 0
count_in (Some d) = d.parameters

-- the constructor of a datatype
abbrev pub constructor_scheme : Scope → Constructor → Scheme
constructor_scheme s k = record { parameters = count_in (datatype_of s k.datatype); arguments = k.arguments; result = datatype_sort k.datatype (count_in (datatype_of s k.datatype)) }

-- a constructor as a value at a place: it has no arguments
abbrev pub constant_scheme : Scope → Place → Constructor → List Sort → Result Scheme Refusal
constant_scheme s p k [] = Ok (constructor_scheme s k)
constant_scheme s p k (t ∷ ts) = Err (refused rules.Typing p)

-- what annotations declare as a value at a place: a constructor without arguments, or a predicate
abbrev pub ghost_scheme : Scope → Place → Option GhostDeclaration → Result Scheme Refusal
ghost_scheme s p (Some (ghosts.Constructor k)) = constant_scheme s p k k.arguments
ghost_scheme s p (Some (ghosts.Predicate ss)) = Ok (at_sort (predicate_sort ss))
ghost_scheme s p d = Err (refused rules.Typing p)

-- a predicate that stands later in the unit as a value at a place, where there is one
abbrev pub later_scheme : Place → Option (List Sort) → Result Scheme Refusal
later_scheme p None = Err (refused rules.Name p)
later_scheme p (Some ss) = Ok (at_sort (predicate_sort ss))

-- what a name of file level means as a value at a place: a function is a pointer
abbrev pub declared_scheme : Scope → Place → List ℕ → Option Meaning → Result Scheme Refusal
declared_scheme s p x None = later_scheme p (later_predicate s x p.file)
declared_scheme s p x (Some (meanings.Function n)) = Ok (at_sort pointer_sort)
declared_scheme s p x (Some (meanings.FunctionType n)) = Err (refused rules.Typing p)
declared_scheme s p x (Some (meanings.Ghost n)) = ghost_scheme s p (ghost_of s n)

-- the same of a name that may be that of a local
abbrev pub local_scheme : Scope → Place → List ℕ → Option Local → Result Scheme Refusal
local_scheme s p x None = declared_scheme s p x (declaration_of s x p.file)
local_scheme s p x (Some l) = Ok (at_sort (sort_of_local l))

-- what a name is as a value at a place, or its refusal: a local hides a name of file level
abbrev pub name_scheme : Scope → Place → List ℕ → Result Scheme Refusal
name_scheme s p x = local_scheme s p x (local_of s x)

-- how many type parameters stand for unknown sorts where something is used that has a number: none in its own text
abbrev pub used_parameters : Option ℕ → ℕ → ℕ → ℕ
used_parameters None n count = count
used_parameters (Some own) n count = if nat_eq own n then 0 else count

-- what annotations declare by a number is applied at a place: a constructor, a fixpoint or a predicate constructor
abbrev pub applied_ghost : Scope → Option ℕ → Place → ℕ → Option GhostDeclaration → Result Scheme Refusal
applied_ghost s own p n (Some (ghosts.Constructor k)) = Ok (constructor_scheme s k)
applied_ghost s own p n (Some (ghosts.Fixpoint f)) = Ok (record { parameters = used_parameters own n f.parameters; arguments = f.arguments; result = f.result })
applied_ghost s own p n (Some (ghosts.PredicateConstructor c)) = Ok (record { parameters = 0; arguments = c.first; result = predicate_sort c.second })
applied_ghost s own p n d = Err (refused rules.Typing p)

-- a name of file level is that of a function type
abbrev pub is_function_type : Option Meaning → Bool
is_function_type (Some (meanings.FunctionType n)) = true
is_function_type m = false

-- a name is `is_T` for a function type T that is seen from a file
abbrev pub tests_type : Scope → List ℕ → ℕ → Bool
tests_type s x file = starts_with nat_eq x (codes "is_") && is_function_type (declaration_of s (drop 3 x) file)

-- `is_T`, which is applied to a pointer
abbrev pub test_scheme : Scheme
test_scheme = record { parameters = 0; arguments = pointer_sort ∷ []; result = bool_sort }

-- a name that is not declared is applied at a place
abbrev pub applied_test : Scope → Place → List ℕ → Result Scheme Refusal
applied_test s p x = if tests_type s x p.file then Ok test_scheme else Err (refused (if is_later_predicate s x p.file then rules.Typing else rules.Name) p)

-- what a name of file level means is applied at a place
abbrev pub applied_scheme : Scope → Option ℕ → Place → List ℕ → Option Meaning → Result Scheme Refusal
applied_scheme s own p x None = applied_test s p x
applied_scheme s own p x (Some (meanings.Function n)) = Err (refused rules.Typing p)
applied_scheme s own p x (Some (meanings.FunctionType n)) = Err (refused rules.Typing p)
applied_scheme s own p x (Some (meanings.Ghost n)) = applied_ghost s own p n (ghost_of s n)

-- what a name in front of arguments is, or its refusal, in the text of something that has a number or none
abbrev pub application_scheme : Scope → Option ℕ → Place → List ℕ → Result Scheme Refusal
application_scheme s own p x = applied_scheme s own p x (declaration_of s x p.file)

-- a local has a predicate sort, as far as is known
abbrev pub is_predicate_local : Known → Option Local → Bool
is_predicate_local k None = false
is_predicate_local k (Some l) = is_predicate (resolved k (sort_of_local l))

-- a name in front of arguments is that of a local with a predicate sort
abbrev pub names_predicate : Scope → Known → List ℕ → Bool
names_predicate s k x = is_predicate_local k (local_of s x)
