-- Sorts as they are written.
use Rattle.std.specs.Prelude.{ℕ, nat_eq, if◌then◌else◌, List, [], ◌∷◌, length, Option, Some, None, Result, Ok, Err}
use Rattle.vf_base.specs.declared.place.Place.{Place}
use Rattle.vf_base.specs.declared.refusal.Refusal.{Refusal}
use Rattle.vf_base.specs.declared.rule.Rule.TheVariants as rules
use Rattle.vf_names.specs.Names.{number_of}
use Rattle.vf_sorts.specs.declared.sort.Head.TheVariants as heads
use Rattle.vf_sorts.specs.Sorts.{Sort, sort, row}
use Rattle.vf_sorts.specs.Unknowns.{leaf}
use Rattle.vf_declared.specs.declared.declaration.Meaning.{Meaning}
use Rattle.vf_declared.specs.declared.declaration.Meaning.TheVariants as meanings
use Rattle.vf_declared.specs.declared.declaration.GhostDeclaration.{GhostDeclaration}
use Rattle.vf_declared.specs.declared.declaration.GhostDeclaration.TheVariants as ghosts
use Rattle.vf_declared.specs.declared.scope.Scope.{Scope}
use Rattle.vf_declared.specs.Scopes.{datatype_of, declaration_of, ghost_of, tag_of}
use Rattle.vf_syntax.specs.declared.written.TypeForm.{TypeForm}
use Rattle.vf_syntax.specs.declared.written.TypeForm.TheVariants as forms
use Rattle.vf_syntax.specs.SortTree.{SortTree, SortTrees, no_sort, more_sort}
use Rattle.vf_syntax.specs.SortTree as tree
use Rattle.vf_sorting.specs.Kinds.{bool_sort, int_sort, pointer_sort, predicate_sort, value_sort}
use Rattle.vf_sorting.specs.Refusals.{refused}
use Rattle.vf_sorting.specs.Schemes.{count_in, is_function_type}

-- pointers to a struct by its number, or a refusal of the tag
abbrev pub tagged_sort : Place → Option ℕ → Result Sort Refusal
tagged_sort p None = Err (refused rules.Name p)
tagged_sort p (Some n) = Ok (leaf (heads.Pointer (Some n)))

-- the sort of a type of C that is written at a place: an unknown tag and an unknown function type are refused
abbrev pub form_sort : Scope → Place → TypeForm → Result Sort Refusal
form_sort s p (forms.Integer w) = Ok int_sort
form_sort s p forms.Bool = Ok bool_sort
form_sort s p forms.VoidPointer = Ok pointer_sort
form_sort s p forms.IntPointer = Ok pointer_sort
form_sort s p (forms.StructPointer g) = tagged_sort g.place (tag_of s g.text g.place.file)
form_sort s p (forms.NamedPointer x) = if is_function_type (declaration_of s x p.file) then Ok pointer_sort else Err (refused rules.Name p)

-- the number of the datatype that annotations declare, where it is one
abbrev pub datatype_in : Option GhostDeclaration → Option ℕ
datatype_in (Some (ghosts.Datatype d)) = Some d
datatype_in d = None

-- the number of the datatype that a name of file level means, where it means one
abbrev pub datatype_meant : Scope → Option Meaning → Option ℕ
datatype_meant s (Some (meanings.Ghost n)) = datatype_in (ghost_of s n)
datatype_meant s m = None

-- a datatype at a place with so many type parameters over sorts: they are as many
abbrev pub applied_datatype : Place → ℕ → ℕ → List Sort → Result Sort Refusal
applied_datatype p d n ts = if nat_eq (length ts) n then Ok (sort (heads.Datatype d) (row ts)) else Err (refused rules.Typing p)

-- a datatype by a number that may be none, over sorts of which one may be refused
abbrev pub datatype_over : Scope → Place → Option ℕ → Result (List Sort) Refusal → Result Sort Refusal
datatype_over s p None r = Err (refused rules.Name p)
datatype_over s p (Some d) (Err x) = Err x
datatype_over s p (Some d) (Ok ts) = applied_datatype p d (count_in (datatype_of s d)) ts

-- a type parameter by its number, over arguments: it has none
abbrev pub parameter_over : Place → ℕ → SortTrees → Result Sort Refusal
parameter_over p i no_sort = Ok (leaf (heads.Parameter i))
parameter_over p i (more_sort x xs) = Err (refused rules.Typing p)

-- a name over arguments: a type parameter of some, or a datatype
abbrev pub name_over : Scope → Place → List ℕ → Option ℕ → SortTrees → Result (List Sort) Refusal → Result Sort Refusal
name_over s p x (Some i) xs r = parameter_over p i xs
name_over s p x None xs r = datatype_over s p (datatype_meant s (declaration_of s x p.file)) r

-- predicates over sorts of which one may be refused
abbrev pub predicate_over : Result (List Sort) Refusal → Result Sort Refusal
predicate_over (Err x) = Err x
predicate_over (Ok ts) = Ok (predicate_sort ts)

-- a sort in front of others: the first refusal is that of all
abbrev pub in_front : Result Sort Refusal → Result (List Sort) Refusal → Result (List Sort) Refusal
in_front (Err x) r = Err x
in_front (Ok t) (Err x) = Err x
in_front (Ok t) (Ok ts) = Ok (t ∷ ts)

abbrev mutual
  -- the sort that is written in the text of a declaration with these type parameters, or its first refusal
  pub written_sort : Scope → List (List ℕ) → SortTree → Result Sort Refusal
  written_sort s ps (tree.real_ p) = Ok (leaf heads.Real)
  written_sort s ps (tree.any_ p) = Ok value_sort
  written_sort s ps (tree.type_ p t) = form_sort s t.place t.form
  written_sort s ps (tree.name_ p x xs) = name_over s p x (number_of ps x) xs (written_sorts s ps xs)
  written_sort s ps (tree.predicate_ p xs) = predicate_over (written_sorts s ps xs)

  -- the same of sorts one after the other
  pub written_sorts : Scope → List (List ℕ) → SortTrees → Result (List Sort) Refusal
  written_sorts s ps no_sort = Ok []
  written_sorts s ps (more_sort x xs) = in_front (written_sort s ps x) (written_sorts s ps xs)
