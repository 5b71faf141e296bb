-- Items of annotations that stand in a header declare the same in each unit, and items that stand elsewhere nothing that the header sees.
use Rattle.std.specs.Prelude.{◌≡◌, ℕ, Bool, true, false, List, [], ◌∷◌, ◌++◌, Option, Some, None, Ok}
use Rattle.std.specs.List.{list_all, list_any}
use Rattle.vf_declared.specs.declared.declaration.Datatype.{Datatype}
use Rattle.vf_declared.specs.declared.declaration.GhostDeclaration.{GhostDeclaration}
use Rattle.vf_declared.specs.declared.scope.Scope.{Scope}
use Rattle.vf_declared.specs.Scopes.{datatype_of, ghost_of, tag_of}
use Rattle.vf_syntax.specs.declared.item.Constructor.{Constructor}
use Rattle.vf_syntax.specs.declared.item.ConstructorArgument.{ConstructorArgument}
use Rattle.vf_syntax.specs.declared.item.GhostForm.{GhostForm}
use Rattle.vf_syntax.specs.declared.item.GhostForm.TheVariants as forms
use Rattle.vf_syntax.specs.declared.item.GhostParameter.{GhostParameter}
use Rattle.vf_syntax.specs.declared.item.Item.{Item}
use Rattle.vf_syntax.specs.declared.item.Item.TheVariants as items
use Rattle.vf_syntax.specs.declared.written.Name.{Name}
use Rattle.vf_syntax.specs.SortTree.{SortTree, SortTrees, no_sort, more_sort}
use Rattle.vf_syntax.specs.SortTree as tree
use Rattle.vf_datatypes.specs.declared.stated.Stated.{Stated}
use Rattle.vf_annotations.specs.Forms.{FormComes, meanings}
use Rattle.vf_walk.specs.Items.{WalksItem}
use Rattle.vf_header_laws.specs.c_names.Items.{IsBetweenItems}
use Rattle.vf_header_laws.specs.c_names.Parts.{is_part_of}
use Rattle.vf_header_laws.specs.c_names.Same.{ConsistsOfHeaders}
use Rattle.vf_header_laws.specs.c_names.Types.{files_of_form}
use Rattle.vf_header_laws.specs.ghost_names.Meaning.{ghost_at}
use Rattle.vf_header_laws.specs.ghost_names.Same.{ShowTheSameGhosts}

-- ---- where items stand
-- the files in which names stand
abbrev pub files_of_names : List Name → List ℕ
files_of_names [] = []
files_of_names (n ∷ ns) = n.place.file ∷ files_of_names ns

abbrev mutual
  -- the files in which the names of a sort stand: of its datatypes, type parameters and structs
  pub files_of_sort : SortTree → List ℕ
  files_of_sort (tree.real_ p) = []
  files_of_sort (tree.any_ p) = []
  files_of_sort (tree.type_ p t) = files_of_form t.form
  files_of_sort (tree.name_ p x xs) = p.file ∷ files_of_sorts xs
  files_of_sort (tree.predicate_ p xs) = files_of_sorts xs

  -- the same of sorts one after the other
  pub files_of_sorts : SortTrees → List ℕ
  files_of_sorts no_sort = []
  files_of_sorts (more_sort x xs) = files_of_sort x ++ files_of_sorts xs

-- the files in which stand the names of the sorts of parameters
abbrev pub files_of_parameters : List GhostParameter → List ℕ
files_of_parameters [] = []
files_of_parameters (g ∷ gs) = files_of_sort g.sort ++ files_of_parameters gs

-- the files in which stand the names of the sorts of a constructor's arguments
abbrev pub files_of_arguments : List ConstructorArgument → List ℕ
files_of_arguments [] = []
files_of_arguments (x ∷ xs) = files_of_sort x.sort ++ files_of_arguments xs

-- the same of arguments that may be absent
abbrev pub files_within : Option (List ConstructorArgument) → List ℕ
files_within None = []
files_within (Some xs) = files_of_arguments xs

-- the same of constructors
abbrev pub files_of_constructors : List Constructor → List ℕ
files_of_constructors [] = []
files_of_constructors (c ∷ cs) = files_within c.arguments ++ files_of_constructors cs

-- the names of constructors
abbrev pub names_of_constructors : List Constructor → List Name
names_of_constructors [] = []
names_of_constructors (c ∷ cs) = c.name ∷ names_of_constructors cs

-- the names that a form declares: a body of a family for a function declares none
abbrev pub names_of_form : GhostForm → List Name
names_of_form (forms.Inductive n ns b cs) = n ∷ names_of_constructors cs
names_of_form (forms.Fixpoint t n ns gs b) = n ∷ []
names_of_form (forms.Predicate n gs) = n ∷ []
names_of_form (forms.PredicateBody n gs a) = n ∷ []
names_of_form (forms.Family n i gs) = n ∷ []
names_of_form (forms.Instance f g gs a) = []
names_of_form (forms.PredicateConstructor n fs gs a) = n ∷ []
names_of_form (forms.LemmaPrototype n ns gs c) = n ∷ []
names_of_form (forms.Lemma n ns gs c b) = n ∷ []

-- the files in which stand the names of the sorts over which a form declares something
abbrev pub files_of_heads : GhostForm → List ℕ
files_of_heads (forms.Inductive n ns b cs) = files_of_constructors cs
files_of_heads (forms.Fixpoint t n ns gs b) = files_of_sort t ++ files_of_parameters gs
files_of_heads (forms.Predicate n gs) = files_of_parameters gs
files_of_heads (forms.PredicateBody n gs a) = files_of_parameters gs
files_of_heads (forms.Family n i gs) = files_of_sort i.sort ++ files_of_parameters gs
files_of_heads (forms.Instance f g gs a) = []
files_of_heads (forms.PredicateConstructor n fs gs a) = files_of_parameters fs ++ files_of_parameters gs
files_of_heads (forms.LemmaPrototype n ns gs c) = files_of_parameters gs
files_of_heads (forms.Lemma n ns gs c b) = files_of_parameters gs

-- a form stands in files of which a header consists, where a test says of which it does: the names that it declares, and those of their sorts
abbrev pub IsFormInside : (ℕ → Bool) → GhostForm → Type 0
IsFormInside part x = list_all part (files_of_names (names_of_form x) ++ files_of_heads x) ≡ true

-- the names of annotations that an item declares: an item of C declares none
abbrev pub names_of_item : Item → List Name
names_of_item (items.Ghost x) = names_of_form x.form
names_of_item x = []

-- the names of annotations that an item declares stand in other files alone
abbrev pub IsDeclaredOutside : (ℕ → Bool) → Item → Type 0
IsDeclaredOutside part x = list_any part (files_of_names (names_of_item x)) ≡ false

-- ---- what items declare
-- behind a part of a unit a header sees of annotations what it saw in front of it, and nothing else; numbers and tags mean what they meant
pub record SeesGhostsAsBefore (header : ℕ) (s t : Scope) : Type 0 where
  pub file : t.file ≡ s.file
  pub headers : t.headers ≡ s.headers
  pub names : (from : ℕ) (name : List ℕ) → is_part_of s header from ≡ true → ghost_at t name from ≡ ghost_at s name from
  pub tags : (tag : List ℕ) (n : ℕ) → tag_of s tag header ≡ Some n → tag_of t tag header ≡ Some n
  pub ghosts : (n : ℕ) (g : GhostDeclaration) → ghost_of s n ≡ Some g → ghost_of t n ≡ Some g
  pub datatypes : (n : ℕ) (x : Datatype) → datatype_of s n ≡ Some x → datatype_of t n ≡ Some x

-- an item that is accepted changes nothing that a header sees of annotations, where the names that it declares stand in other files alone; an item of C is such
abbrev pub GhostsElsewhereAreUnseen : Type 0
GhostsElsewhereAreUnseen = (header : ℕ) (d : Stated) (x : Item) (s t : Scope) → ConsistsOfHeaders s header → IsBetweenItems s → IsDeclaredOutside (is_part_of s header) x → WalksItem (meanings d) x s (Ok t) → SeesGhostsAsBefore header s t × IsBetweenItems t

-- where a header shows the same names of annotations in two units, it shows the same behind a form of annotations that stands in it and is accepted in both
abbrev pub FormsInsideShowTheSame : Type 0
FormsInsideShowTheSame = (header : ℕ) (d e : Stated) (x : GhostForm) (s t u v : Scope) → ConsistsOfHeaders s header → ConsistsOfHeaders t header → IsBetweenItems s → IsBetweenItems t → IsFormInside (is_part_of s header) x → FormComes d x s (Ok u) → FormComes e x t (Ok v) → ShowTheSameGhosts header s t → ShowTheSameGhosts header u v
