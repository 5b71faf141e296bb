-- Sorts of text that stands later, as far as they can be told ahead of it.
use Rattle.std.specs.Prelude.{ℕ, nat_eq, if◌then◌else◌, List, [], ◌∷◌, length, map, slice_get, Option, Some, None}
use Rattle.vf_names.specs.Names.{number_of}
use Rattle.vf_sorts.specs.declared.sort.Head.TheVariants as heads
use Rattle.vf_sorts.specs.Sorts.{Sort, sort, row}
use Rattle.vf_sorts.specs.Unknowns.{leaf}
use Rattle.vf_syntax.specs.declared.item.GhostParameter.{GhostParameter}
use Rattle.vf_syntax.specs.declared.written.TypeForm.{TypeForm}
use Rattle.vf_syntax.specs.declared.written.TypeForm.TheVariants as forms
use Rattle.vf_syntax.specs.SortTree.{SortTree, SortTrees, no_sort, more_sort}
use Rattle.vf_syntax.specs.SortTree as tree
use Rattle.vf_sorting.specs.Kinds.{bool_sort, int_sort, pointer_sort, predicate_sort, value_sort}
use Rattle.vf_gathering.specs.declared.ahead.Ahead.{Ahead}

-- the sort of a type of C: a pointer to a struct tells the struct, where it stands in the unit
abbrev pub told_form : Ahead → TypeForm → Sort
told_form w (forms.Integer x) = int_sort
told_form w forms.Bool = bool_sort
told_form w (forms.StructPointer g) = leaf (heads.Pointer (number_of w.tags g.text))
told_form w f = pointer_sort

-- a datatype with a number of type parameters that may be told, over sorts: any value where these are not as many
abbrev pub told_over : ℕ → Option ℕ → List Sort → Sort
told_over d (Some m) ts = if nat_eq (length ts) m then sort (heads.Datatype d) (row ts) else value_sort
told_over d None ts = value_sort

-- a datatype by a number that may be none, over sorts: any value where there is none
abbrev pub told_name : Ahead → Option ℕ → List Sort → Sort
told_name w (Some d) ts = told_over d (slice_get w.counts d) ts
told_name w None ts = value_sort

abbrev mutual
  -- the sort that is written, as far as it can be told
  pub told : Ahead → SortTree → Sort
  told w (tree.real_ p) = leaf heads.Real
  told w (tree.any_ p) = value_sort
  told w (tree.type_ p t) = told_form w t.form
  told w (tree.name_ p x xs) = told_name w (number_of w.datatypes x) (told_all w xs)
  told w (tree.predicate_ p xs) = predicate_sort (told_all w xs)

  -- the same of sorts one after the other
  pub told_all : Ahead → SortTrees → List Sort
  told_all w no_sort = []
  told_all w (more_sort x xs) = told w x ∷ told_all w xs

-- the sorts of parameters, as far as they can be told
abbrev pub told_parameters : Ahead → List GhostParameter → List Sort
told_parameters w gs = map (λ (g : GhostParameter). told w g.sort) gs
