-- A unit that is accepted, with a datatype that has a type parameter, a fixpoint over it, and a predicate over it that stands behind a fixpoint.
use Rattle.std.specs.Prelude.{◌≡◌, ℕ, false, List, [], ◌∷◌, codes, None, Some, Ok}
use Rattle.vf_base.specs.declared.place.Place.{Place}
use Rattle.vf_sorts.specs.declared.sort.Head.TheVariants as heads
use Rattle.vf_sorts.specs.Sorts.{Sort, sort, row}
use Rattle.vf_sorts.specs.Unknowns.{leaf}
use Rattle.vf_declared.specs.declared.declaration.GhostDeclaration.TheVariants as ghosts
use Rattle.vf_declared.specs.declared.scope.Scope.{Scope}
use Rattle.vf_declared.specs.Scopes.{later_predicate}
use Rattle.vf_syntax.specs.declared.item.FixpointBody.TheVariants as bodies
use Rattle.vf_syntax.specs.declared.item.GhostForm.{GhostForm}
use Rattle.vf_syntax.specs.declared.item.GhostForm.TheVariants as forms
use Rattle.vf_syntax.specs.declared.item.Item.{Item}
use Rattle.vf_syntax.specs.declared.item.Item.TheVariants as items
use Rattle.vf_syntax.specs.declared.written.IntegerWords.TheVariants as words
use Rattle.vf_syntax.specs.declared.written.Name.{Name}
use Rattle.vf_syntax.specs.declared.written.TypeForm.TheVariants as types
use Rattle.vf_syntax.specs.declared.written.Width.TheVariants as widths
use Rattle.vf_syntax.specs.GhostExprTree as tree
use Rattle.vf_syntax.specs.SortTree.{SortTree, more_sort, no_sort}
use Rattle.vf_syntax.specs.SortTree as sorts
use Rattle.vf_sorting.specs.Kinds.{int_sort, value_sort}
use Rattle.vf_resolve.specs.declared.files.Files.{Files}
use Rattle.vf_resolve.specs.Beginning.{beginning}
use Rattle.vf_resolve.specs.Units.{ItemsCome}
use Rattle.vf_defining.specs.UpTo.{up_to}
use Rattle.vf_fixpoint_laws.specs.values.Declares.{Declares}
use Rattle.vf_fixpoint_laws.specs.bodies.Bodies.{IsWellDeclared, declared_at}
use Rattle.vf_fixpoint_laws.specs.bodies.Units.{EachIsWritten}
use Rattle.vf_fixpoint_laws.specs.well_declared.Names.{AreUnmarked}

-- ---- a unit of one file
-- a place on a line of the file
abbrev pub line : ℕ → Place
line n = record { file = 0; line = n; column = 1 }

-- a name there
abbrev pub name_on : ℕ → List ℕ → Name
name_on n text = record { text = text; place = line n }

-- a ghost item there
abbrev pub ghost_on : ℕ → GhostForm → Item
ghost_on n form = items.Ghost (record { place = line n; form = form })

abbrev pub one_file : Files
one_file = record { own = 0; headers = (0 ∷ []) ∷ []; preludes = []; has_stdlib = false; has_arrays = false }

-- the path of the file
abbrev pub one_path : List (List ℕ)
one_path = codes "a.c" ∷ []

-- ---- its items
-- `box<..>` as it is written on a line, over another sort
abbrev pub box_on : ℕ → SortTree → SortTree
box_on n x = sorts.name_ (line n) (codes "box") (more_sort x no_sort)

-- the type parameter `t` as it is written on a line
abbrev pub parameter_on : ℕ → SortTree
parameter_on n = sorts.name_ (line n) (codes "t") no_sort

-- `inductive box<t> = boxed(t);`
abbrev pub box : Item
box = ghost_on 1 (forms.Inductive (name_on 1 (codes "box")) (name_on 1 (codes "t") ∷ []) false ((record { name = name_on 1 (codes "boxed"); arguments = Some ((record { sort = parameter_on 1; name = None }) ∷ []) }) ∷ []))

-- `fixpoint any kept<t>(box<t> b) { return b; }`
abbrev pub kept : Item
kept = ghost_on 2 (forms.Fixpoint (sorts.any_ (line 2)) (name_on 2 (codes "kept")) (name_on 2 (codes "t") ∷ []) ((record { after_semicolon = false; sort = box_on 2 (parameter_on 2); name = name_on 2 (codes "b") }) ∷ []) (bodies.Value (tree.name_ (line 2) (codes "b"))))

-- `fixpoint any early() { return full; }`
abbrev pub early : Item
early = ghost_on 3 (forms.Fixpoint (sorts.any_ (line 3)) (name_on 3 (codes "early")) [] [] (bodies.Value (tree.name_ (line 3) (codes "full"))))

-- `predicate full(box<int> b);`
abbrev pub full : Item
full = ghost_on 4 (forms.Predicate (name_on 4 (codes "full")) ((record { after_semicolon = false; sort = box_on 4 (sorts.type_ (line 4) (record { place = line 4; form = types.Integer (words.Width widths.Int) })); name = name_on 4 (codes "b") }) ∷ []))

abbrev pub unit : List Item
unit = box ∷ kept ∷ early ∷ full ∷ []

-- ---- what it declares
-- boxes of a sort
abbrev pub box_of : Sort → Sort
box_of t = sort (heads.Datatype 0) (row (t ∷ []))

-- the sort that `t` is in a text with the type parameter `t`
abbrev pub element : Sort
element = leaf (heads.Parameter 0)

-- the unit is accepted; what it declares is well declared, and each fixpoint is written; and in front of its predicate this stands later, over the sort that it is declared over
pub record BoxesStand : Type 0 where
  pub whole : Scope
  pub accepted : ItemsCome unit (beginning one_file unit) (Ok whole)
  pub unmarked : AreUnmarked unit
  pub well : IsWellDeclared (declared_at whole one_path)
  pub constructor : Declares (declared_at whole one_path) (codes "a.c#boxed") (ghosts.Constructor (record { datatype = 0; arguments = element ∷ [] }))
  pub written : EachIsWritten whole one_path unit
  pub fixpoint : Declares (declared_at whole one_path) (codes "a.c#kept") (ghosts.Fixpoint (record { parameters = 1; arguments = box_of element ∷ []; result = value_sort }))
  pub later : later_predicate (up_to (name_on 3 (codes "early")) whole) (codes "full") 0 ≡ Some (box_of int_sort ∷ [])
  pub declared : Declares (declared_at whole one_path) (codes "a.c#full") (ghosts.Predicate (box_of int_sort ∷ []))
