-- A unit of a datatype and a fixpoint over it.
use Rattle.std.specs.Prelude.{◌≡◌, ℕ, pos, false, List, [], ◌∷◌, Some, None, codes}
use Rattle.vf_base.specs.declared.int_type.IntType.TheVariants as integers
use Rattle.vf_base.specs.declared.place.Place.{Place}
use Rattle.vf_tree.specs.Core.{Add}
use Rattle.vf_meaning.specs.Ghost.{Numbered}
use Rattle.vf_closure.specs.Terms.{Integer, Other, Arithmetic, Fixpoint, Symbol, Term, term, no_terms, and_term, number}
use Rattle.vf_formula.specs.declared.head.Kind.TheVariants as kinds
use Rattle.vf_syntax.specs.declared.item.Constructor as written
use Rattle.vf_syntax.specs.declared.item.FixpointBody.{FixpointBody}
use Rattle.vf_syntax.specs.declared.item.FixpointBody.TheVariants as texts
use Rattle.vf_syntax.specs.declared.item.FixpointCase.{FixpointCase}
use Rattle.vf_syntax.specs.declared.item.GhostForm.TheVariants as forms
use Rattle.vf_syntax.specs.declared.item.GhostParameter.{GhostParameter}
use Rattle.vf_syntax.specs.declared.item.Item.{Item}
use Rattle.vf_syntax.specs.declared.item.Item.TheVariants as items
use Rattle.vf_syntax.specs.declared.operator.BinaryOperator.TheVariants as operators
use Rattle.vf_syntax.specs.declared.operator.Level.TheVariants as levels
use Rattle.vf_syntax.specs.declared.written.IntegerWords.TheVariants as words
use Rattle.vf_syntax.specs.declared.written.Name.{Name}
use Rattle.vf_syntax.specs.declared.written.TypeForm.TheVariants as types
use Rattle.vf_syntax.specs.declared.written.Width.TheVariants as widths
use Rattle.vf_syntax.specs.GhostExprTree.{GhostExprTree, no_ghost_expr, more_ghost_expr, no_ghost_link, more_ghost_link}
use Rattle.vf_syntax.specs.GhostExprTree as tree
use Rattle.vf_syntax.specs.SortTree.{SortTree, no_sort}
use Rattle.vf_syntax.specs.SortTree as sorts
use Rattle.vf_declared.specs.declared.scope.Scope.{Scope}
use Rattle.vf_resolve.specs.declared.files.Files.{Files}
use Rattle.vf_definitions.specs.declared.fixpoint.Body.TheVariants.{Switches}
use Rattle.vf_definitions.specs.declared.fixpoint.Case.{Case}
use Rattle.vf_definitions.specs.declared.fixpoint.Fixpoint as definitions
use Rattle.vf_fixpoint_laws.specs.bodies.Bodies.{declared_at}
use Rattle.vf_fixpoint_laws.specs.bodies.Units.{GoDown, HaveEachCase}
use Rattle.vf_fixpoint_laws.specs.descending.Laws.{IsAccepted}
use Rattle.vf_fixpoint_laws.specs.descending.Ranks.{ranks_of}

-- a place in the unit's own file
abbrev pub here : Place
here = record { file = 0; line = 1; column = 1 }

-- a name there
abbrev pub named : List ℕ → Name
named x = record { text = x; place = here }

-- a unit of one file
abbrev pub one_file : Files
one_file = record { own = 0; headers = []; preludes = []; has_stdlib = false; has_arrays = false }

-- its path
abbrev pub list_paths : List (List ℕ)
list_paths = codes "one.c" ∷ []

-- ---- the text
-- `int`
abbrev pub int_written : SortTree
int_written = sorts.type_ here (record { place = here; form = types.Integer (words.Width widths.Int) })

-- `list`
abbrev pub list_written : SortTree
list_written = sorts.name_ here (codes "list") no_sort

-- `nil`
abbrev pub nil_written : written.Constructor
nil_written = record { name = named (codes "nil"); arguments = None }

-- `cons(int, list)`
abbrev pub cons_written : written.Constructor
cons_written = record { name = named (codes "cons"); arguments = Some ((record { sort = int_written; name = None }) ∷ (record { sort = list_written; name = None }) ∷ []) }

-- `inductive list = nil | cons(int, list);`
abbrev pub datatype : Item
datatype = items.Ghost (record { place = here; form = forms.Inductive (named (codes "list")) [] false (nil_written ∷ cons_written ∷ []) })

-- `list xs`
abbrev pub parameter : GhostParameter
parameter = record { after_semicolon = false; sort = list_written; name = named (codes "xs") }

-- `length(t)`
abbrev pub tail_length : GhostExprTree
tail_length = tree.application here (codes "length") (more_ghost_expr (tree.name_ here (codes "t")) no_ghost_expr)

-- `1 + length(t)`
abbrev pub one_more : GhostExprTree
one_more = tree.chain here levels.Additive (tree.number here 1 integers.Int) (more_ghost_link (tree.ghost_link here operators.Plus tail_length) no_ghost_link)

-- `case nil: return 0;`
abbrev pub nil_text : FixpointCase
nil_text = record { place = here; pattern = record { constructor = named (codes "nil"); names = None }; value = tree.number here 0 integers.Int }

-- `case cons(h, t): return 1 + length(t);`
abbrev pub cons_text : FixpointCase
cons_text = record { place = here; pattern = record { constructor = named (codes "cons"); names = Some (named (codes "h") ∷ named (codes "t") ∷ []) }; value = one_more }

-- `switch (xs) { .. }`
abbrev pub length_text : FixpointBody
length_text = texts.Switch (named (codes "xs")) (nil_text ∷ cons_text ∷ [])

-- `fixpoint int length(list xs) { switch (xs) { .. } }`
abbrev pub length : Item
length = items.Ghost (record { place = here; form = forms.Fixpoint int_written (named (codes "length")) [] (parameter ∷ []) length_text })

-- the unit
abbrev pub list_items : List Item
list_items = datatype ∷ length ∷ []

-- ---- the body as terms
-- the length of the second component, which stands behind the parameter
abbrev pub length_of_tail : Term
length_of_tail = term (Fixpoint Integer (codes "one.c#length")) (and_term (term (Symbol Other (Numbered 2)) no_terms) no_terms)

abbrev pub nil_case : Case
nil_case = record { constructor = codes "one.c#nil"; names = 0; result = number (pos 0) }

abbrev pub cons_case : Case
cons_case = record { constructor = codes "one.c#cons"; names = 2; result = term (Arithmetic Add) (and_term (number (pos 1)) (and_term length_of_tail no_terms)) }

-- the definitions of the unit
abbrev pub list_definitions : List definitions.Fixpoint
list_definitions = (record { kind = kinds.Integer; identity = codes "one.c#length"; parameters = 1; body = Switches 0 (nil_case ∷ cons_case ∷ []) }) ∷ []

-- the unit is accepted with these definitions, which go down in the order in which they are declared and have each case; the fixpoint is declared behind the datatype and its constructors
pub record ListsAreAccepted : Type 0 where
  pub whole : Scope
  pub accepted : IsAccepted one_file list_paths list_items whole list_definitions
  pub rank : ranks_of whole (codes "one.c#length") ≡ 3
  pub down : GoDown (ranks_of whole) list_definitions
  pub cases : HaveEachCase (declared_at whole list_paths) list_definitions
