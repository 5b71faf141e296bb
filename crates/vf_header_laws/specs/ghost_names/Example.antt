-- Two units that include one header, whose datatype is the second one of the first unit and the first one of the second.
use Rattle.std.specs.Prelude.{◌≡◌, ℕ, false, List, [], ◌∷◌, codes, None, Some, Ok}
use Rattle.vf_declared.specs.declared.declaration.GhostDeclaration.TheVariants as ghosts
use Rattle.vf_declared.specs.declared.scope.Scope.{Scope}
use Rattle.vf_declared.specs.Scopes.{ghost_of}
use Rattle.vf_syntax.specs.declared.item.Constructor.{Constructor}
use Rattle.vf_syntax.specs.declared.item.ConstructorArgument.{ConstructorArgument}
use Rattle.vf_syntax.specs.declared.item.GhostForm.{GhostForm}
use Rattle.vf_syntax.specs.declared.item.GhostForm.TheVariants as forms
use Rattle.vf_syntax.specs.declared.item.Item.{Item}
use Rattle.vf_syntax.specs.declared.item.Item.TheVariants as items
use Rattle.vf_syntax.specs.SortTree.{SortTree, no_sort}
use Rattle.vf_syntax.specs.SortTree as tree
use Rattle.vf_sorting.specs.Kinds.{datatype_sort}
use Rattle.vf_datatypes.specs.declared.stated.Stated.{Stated}
use Rattle.vf_annotations.specs.Forms.{meanings}
use Rattle.vf_walk.specs.Items.{WalksItems}
use Rattle.vf_header_laws.specs.c_names.Example.{first_beginning, name_in, second_beginning, start_of}
use Rattle.vf_header_laws.specs.ghost_names.Meaning.{ghost_at, MeansDatatype}
use Rattle.vf_header_laws.specs.ghost_names.Same.{ShowTheSameGhosts}

-- an item of annotations in a file
abbrev pub item_in : ℕ → GhostForm → Item
item_in file x = items.Ghost (record { place = start_of file; form = x })

-- a constructor in a file, without arguments
abbrev pub constant_in : ℕ → List ℕ → Constructor
constant_in file x = record { name = name_in file x; arguments = None }

-- the sort of the header's datatype, as it is written there
abbrev pub values_sort : SortTree
values_sort = tree.name_ (start_of 1) (codes "values") no_sort

-- an argument of a constructor, without a name
abbrev pub argument : SortTree → ConstructorArgument
argument t = record { sort = t; name = None }

-- in the header, which is file 1, stands `inductive values = nil | cons(any, values);`
abbrev pub values : Item
values = item_in 1 (forms.Inductive (name_in 1 (codes "values")) [] false (constant_in 1 (codes "nil") ∷ (record { name = name_in 1 (codes "cons"); arguments = Some (argument (tree.any_ (start_of 1)) ∷ argument values_sort ∷ []) }) ∷ []))

-- and behind it `predicate holds(values all);`
abbrev pub holds : Item
holds = item_in 1 (forms.Predicate (name_in 1 (codes "holds")) ((record { after_semicolon = false; sort = values_sort; name = name_in 1 (codes "all") }) ∷ []))

-- in the first unit, whose own file is file 0, stands `inductive colour = red;` in front of it
abbrev pub colour : Item
colour = item_in 0 (forms.Inductive (name_in 0 (codes "colour")) [] false (constant_in 0 (codes "red") ∷ []))

-- in which files the datatypes of the first unit stand
abbrev pub first_stated : Stated
first_stated = record { names = codes "colour" ∷ codes "values" ∷ []; files = (0 ∷ []) ∷ (1 ∷ []) ∷ [] }

-- the same of the second
abbrev pub second_stated : Stated
second_stated = record { names = codes "values" ∷ []; files = (1 ∷ []) ∷ [] }

-- the units are accepted, the header shows the same names of annotations in both, and there its datatype and its predicate have two numbers, and the predicate is over two sorts
pub record OneGhostHeaderOfTwoUnits : Type 0 where
  pub first : Scope
  pub second : Scope
  pub first_walk : WalksItems (meanings first_stated) (colour ∷ values ∷ holds ∷ []) first_beginning (Ok first)
  pub second_walk : WalksItems (meanings second_stated) (values ∷ holds ∷ []) second_beginning (Ok second)
  pub first_datatype : MeansDatatype first (codes "values") 1 1
  pub second_datatype : MeansDatatype second (codes "values") 1 0
  pub first_number : ghost_at first (codes "holds") 1 ≡ Some 5
  pub second_number : ghost_at second (codes "holds") 1 ≡ Some 3
  pub first_predicate : ghost_of first 5 ≡ Some (ghosts.Predicate (datatype_sort 1 0 ∷ []))
  pub second_predicate : ghost_of second 3 ≡ Some (ghosts.Predicate (datatype_sort 0 0 ∷ []))
  pub shows : ShowTheSameGhosts 1 first second
