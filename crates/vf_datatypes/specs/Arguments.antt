-- The sorts of a constructor's arguments: they may use the datatype itself, at its own type parameters in order.
use Rattle.std.specs.Prelude.{ℕ, ◌+◌, Bool, true, false, not, ◌&&◌, nat_eq, if◌then◌else◌, List, [], ◌∷◌, length, Option, Some, None, Result, Ok, Err}
use Rattle.vf_base.specs.declared.place.Place.{Place}
use Rattle.vf_base.specs.declared.refusal.Refusal.{Refusal}
use Rattle.vf_base.specs.declared.rule.Rule.TheVariants as rules
use Rattle.vf_names.specs.Names.{number_of}
use Rattle.vf_sorts.specs.declared.sort.Head.TheVariants as heads
use Rattle.vf_sorts.specs.Sorts.{Sort, Sorts, sort, no_sorts, and_sort, row}
use Rattle.vf_sorts.specs.Unknowns.{leaf}
use Rattle.vf_declared.specs.declared.scope.Scope.{Scope}
use Rattle.vf_declared.specs.Scopes.{at_name, datatype_of, declaration_of, is_declared, stands_in}
use Rattle.vf_syntax.specs.declared.item.ConstructorArgument.{ConstructorArgument}
use Rattle.vf_syntax.specs.SortTree.{SortTree, SortTrees, no_sort, more_sort}
use Rattle.vf_syntax.specs.SortTree as tree
use Rattle.vf_sorting.specs.Kinds.{value_sort}
use Rattle.vf_sorting.specs.Refusals.{refused}
use Rattle.vf_sorting.specs.Schemes.{count_in}
use Rattle.vf_sorting.specs.Spelling.{applied_datatype, datatype_meant, form_sort, in_front, parameter_over, predicate_over}
use Rattle.vf_datatypes.specs.declared.stated.Stated.{Stated}
use Rattle.vf_datatypes.specs.declared.own.Own.{Own}
use Rattle.vf_datatypes.specs.Walking.{behind}

-- a datatype of this name stands anywhere in the unit, in a file that is seen from another
abbrev pub is_stated : Scope → Stated → List ℕ → ℕ → Bool
is_stated s d x file = stands_in s file (at_name d.names d.files x)

-- a name at a place that is no datatype's so far: a datatype may not use one that stands later
abbrev pub unmet : Scope → Stated → Own → Place → List ℕ → Refusal
unmet s d o p x = if not (is_declared s x) && is_stated s d x p.file then refused rules.Inductive o.place else refused rules.Name p

-- there are no parts
abbrev pub has_none : Sorts → Bool
has_none no_sorts = true
has_none (and_sort t ts) = false

-- a sort is the type parameter with a number
abbrev pub is_parameter : ℕ → Sort → Bool
is_parameter n (sort (heads.Parameter i) ts) = nat_eq i n && has_none ts
is_parameter n t = false

-- sorts are the type parameters from a number on, in order
abbrev pub are_parameters : ℕ → List Sort → Bool
are_parameters n [] = true
are_parameters n (t ∷ ts) = is_parameter n t && are_parameters (n + 1) ts

-- a datatype over so many sorts as it has type parameters, which are these in order where it is the datatype itself
abbrev pub datatype_at : Scope → Own → Place → ℕ → List Sort → Result Sort Refusal
datatype_at s o p k ts = if nat_eq k o.number
    then (if nat_eq (length ts) (length o.parameters) && are_parameters 0 ts then Ok (sort (heads.Datatype k) (row ts)) else Err (refused rules.Typing p))
    else applied_datatype p k (count_in (datatype_of s k)) ts

-- a datatype by a number that may be none, over sorts of which one may be refused
abbrev pub named_over : Scope → Stated → Own → Place → List ℕ → Option ℕ → Result (List Sort) Refusal → Result Sort Refusal
named_over s d o p x None r = Err (unmet s d o p x)
named_over s d o p x (Some k) r = behind (datatype_at s o p k) r

-- a name over arguments: a type parameter, or a datatype
abbrev pub name_over : Scope → Stated → Own → Place → List ℕ → Option ℕ → SortTrees → Result (List Sort) Refusal → Result Sort Refusal
name_over s d o p x (Some i) xs r = parameter_over p i xs
name_over s d o p x None xs r = named_over s d o p x (datatype_meant s (declaration_of s x p.file)) r

abbrev mutual
  -- the sort of a constructor's argument as it is written, or its first refusal
  pub argument_sort : Scope → Stated → Own → SortTree → Result Sort Refusal
  argument_sort s d o (tree.real_ p) = Ok (leaf heads.Real)
  argument_sort s d o (tree.any_ p) = Ok value_sort
  argument_sort s d o (tree.type_ p t) = form_sort s t.place t.form
  argument_sort s d o (tree.name_ p x xs) = name_over s d o p x (number_of o.parameters x) xs (argument_sorts s d o xs)
  argument_sort s d o (tree.predicate_ p xs) = predicate_over (argument_sorts s d o xs)

  -- the same of sorts one after the other
  pub argument_sorts : Scope → Stated → Own → SortTrees → Result (List Sort) Refusal
  argument_sorts s d o no_sort = Ok []
  argument_sorts s d o (more_sort x xs) = in_front (argument_sort s d o x) (argument_sorts s d o xs)

-- the sorts of a constructor's arguments, or the first refusal in them
abbrev pub sorts_of : Scope → Stated → Own → List ConstructorArgument → Result (List Sort) Refusal
sorts_of s d o [] = Ok []
sorts_of s d o (x ∷ xs) = in_front (argument_sort s d o x.sort) (sorts_of s d o xs)

-- the same of arguments that may be absent
abbrev pub sorts_within : Scope → Stated → Own → Option (List ConstructorArgument) → Result (List Sort) Refusal
sorts_within s d o None = Ok []
sorts_within s d o (Some xs) = sorts_of s d o xs
