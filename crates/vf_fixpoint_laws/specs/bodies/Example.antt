-- A unit of a datatype, two fixpoints over it and a predicate behind them: its fixpoints have the values of their bodies.
use Rattle.std.specs.Prelude.{◌≡◌, ◌+◌, ℕ, pos, false, cond, List, [], ◌∷◌, Some, None, codes}
use Rattle.vf_base.specs.declared.int_type.IntType.TheVariants as integers
use Rattle.vf_tree.specs.Core.{Identity, Add}
use Rattle.vf_names.specs.Names.{number_of}
use Rattle.vf_model.specs.Values.{same_identity}
use Rattle.vf_model.specs.Values as values
use Rattle.vf_meaning.specs.Ghost.{Numbered}
use Rattle.vf_meaning.specs.Valuations.{value_at}
use Rattle.vf_meaning.specs.GhostValues.{Interpretation}
use Rattle.vf_closure.specs.Terms.{Integer, Other, Arithmetic, Fixpoint, Symbol, Term, term, no_terms, and_term, number}
use Rattle.vf_formula.specs.declared.head.Kind.TheVariants as kinds
use Rattle.vf_sorts.specs.declared.sort.Head.TheVariants as heads
use Rattle.vf_sorts.specs.Sorts.{Sort}
use Rattle.vf_sorts.specs.Unknowns.{leaf}
use Rattle.vf_syntax.specs.declared.item.Constructor as written
use Rattle.vf_syntax.specs.declared.item.FixpointBody.TheVariants as texts
use Rattle.vf_syntax.specs.declared.item.FixpointCase.{FixpointCase}
use Rattle.vf_syntax.specs.declared.item.GhostForm.TheVariants as forms
use Rattle.vf_syntax.specs.declared.item.GhostParameter.{GhostParameter}
use Rattle.vf_syntax.specs.declared.item.Item.{Item}
use Rattle.vf_syntax.specs.declared.item.Item.TheVariants as items
use Rattle.vf_syntax.specs.declared.operator.BinaryOperator.TheVariants as operators
use Rattle.vf_syntax.specs.declared.operator.Level.TheVariants as levels
use Rattle.vf_syntax.specs.declared.written.IntegerWords.TheVariants as words
use Rattle.vf_syntax.specs.declared.written.Name.{Name}
use Rattle.vf_syntax.specs.declared.written.TypeForm.TheVariants as types
use Rattle.vf_syntax.specs.declared.written.Width.TheVariants as widths
use Rattle.vf_syntax.specs.GhostExprTree.{GhostExprTree, no_ghost_expr, more_ghost_expr, no_ghost_link, more_ghost_link}
use Rattle.vf_syntax.specs.GhostExprTree as tree
use Rattle.vf_syntax.specs.SortTree.{SortTree, no_sort}
use Rattle.vf_syntax.specs.SortTree as sorts
use Rattle.vf_declared.specs.declared.declaration.Constructor.{Constructor}
use Rattle.vf_declared.specs.declared.declaration.Fixpoint as declaration
use Rattle.vf_declared.specs.declared.declaration.GhostDeclaration.TheVariants as ghosts
use Rattle.vf_declared.specs.declared.scope.Scope.{Scope}
use Rattle.vf_declared.specs.Beginning.{empty}
use Rattle.vf_sorting.specs.Kinds.{int_sort}
use Rattle.vf_definitions.specs.declared.fixpoint.Body.{Body}
use Rattle.vf_definitions.specs.declared.fixpoint.Body.TheVariants.{Returns, Switches}
use Rattle.vf_definitions.specs.declared.fixpoint.Case.{Case}
use Rattle.vf_definitions.specs.declared.fixpoint.Fixpoint as definitions
use Rattle.vf_defining.specs.UpTo.{up_to}
use Rattle.vf_defining.specs.Units.{Written}
use Rattle.vf_fixpoint_laws.specs.values.Example.{declared_as, here, length_in}
use Rattle.vf_fixpoint_laws.specs.bodies.Expressions.{DefinesUnit}

-- a name in the first file
abbrev pub named : List ℕ → Name
named x = record { text = x; place = here }

-- ---- the text
-- `int`
abbrev pub int_written : SortTree
int_written = sorts.type_ here (record { place = here; form = types.Integer (words.Width widths.Int) })

-- `list`
abbrev pub list_written : SortTree
list_written = sorts.name_ here (codes "list") no_sort

-- `list xs`
abbrev pub parameter : GhostParameter
parameter = record { after_semicolon = false; sort = list_written; name = named (codes "xs") }

-- `nil`
abbrev pub nil_written : written.Constructor
nil_written = record { name = named (codes "nil"); arguments = None }

-- `cons(int, list)`
abbrev pub cons_written : written.Constructor
cons_written = record { name = named (codes "cons"); arguments = Some ((record { sort = int_written; name = None }) ∷ (record { sort = list_written; name = None }) ∷ []) }

-- `inductive list = nil | cons(int, list);`
abbrev pub datatype_item : Item
datatype_item = items.Ghost (record { place = here; form = forms.Inductive (named (codes "list")) [] false (nil_written ∷ cons_written ∷ []) })

-- `length(x)` of a name
abbrev pub length_at : List ℕ → GhostExprTree
length_at x = tree.application here (codes "length") (more_ghost_expr (tree.name_ here x) no_ghost_expr)

-- the sum of two expressions
abbrev pub sum_of : GhostExprTree → GhostExprTree → GhostExprTree
sum_of a b = tree.chain here levels.Additive a (more_ghost_link (tree.ghost_link here operators.Plus b) no_ghost_link)

-- `case nil: return 0;`
abbrev pub nil_text : FixpointCase
nil_text = record { place = here; pattern = record { constructor = named (codes "nil"); names = None }; value = tree.number here 0 integers.Int }

-- `case cons(h, t): return 1 + length(t);`
abbrev pub cons_text : FixpointCase
cons_text = record {
  place = here;
  pattern = record { constructor = named (codes "cons"); names = Some (named (codes "h") ∷ named (codes "t") ∷ []) };
  value = sum_of (tree.number here 1 integers.Int) (length_at (codes "t"));
}

-- `fixpoint int length(list xs) { switch (xs) { .. } }`
abbrev pub length_written : Written
length_written = record { name = named (codes "length"); parameters = parameter ∷ []; body = texts.Switch (named (codes "xs")) (nil_text ∷ cons_text ∷ []) }

-- `fixpoint int twice(list xs) { return length(xs) + length(xs); }`
abbrev pub twice_written : Written
twice_written = record { name = named (codes "twice"); parameters = parameter ∷ []; body = texts.Value (sum_of (length_at (codes "xs")) (length_at (codes "xs"))) }

-- a fixpoint with a result of integers as an item
abbrev pub item_of : Written → Item
item_of w = items.Ghost (record { place = here; form = forms.Fixpoint int_written w.name [] w.parameters w.body })

-- `predicate held(list xs);`
abbrev pub predicate_item : Item
predicate_item = items.Ghost (record { place = here; form = forms.Predicate (named (codes "held")) (parameter ∷ []) })

-- the unit
abbrev pub list_items : List Item
list_items = datatype_item ∷ item_of length_written ∷ item_of twice_written ∷ predicate_item ∷ []

-- ---- what is declared
-- the sort of lists
abbrev pub list_sort : Sort
list_sort = leaf (heads.Datatype 0)

-- the constructors of lists
abbrev pub nil_constructor : Constructor
nil_constructor = record { datatype = 0; arguments = [] }

abbrev pub cons_constructor : Constructor
cons_constructor = record { datatype = 0; arguments = int_sort ∷ list_sort ∷ [] }

-- both fixpoints are declared alike
abbrev pub over_lists : declaration.Fixpoint
over_lists = record { parameters = 0; arguments = list_sort ∷ []; result = int_sort }

-- the path of the file
abbrev pub list_paths : List (List ℕ)
list_paths = codes "one.c" ∷ []

-- what the unit declares, and what is told of its predicate ahead
abbrev pub list_scope : Scope
list_scope = record (empty 0) {
  names = codes "list" ∷ codes "nil" ∷ codes "cons" ∷ codes "length" ∷ codes "twice" ∷ codes "held" ∷ [];
  declarations = declared_as 0 ∷ declared_as 1 ∷ declared_as 2 ∷ declared_as 3 ∷ declared_as 4 ∷ declared_as 5 ∷ [];
  predicates = codes "held" ∷ [];
  predicate_files = (0 ∷ []) ∷ [];
  predicate_sorts = (list_sort ∷ []) ∷ [];
  ghosts = ghosts.Datatype 0 ∷ ghosts.Constructor nil_constructor ∷ ghosts.Constructor cons_constructor ∷ ghosts.Fixpoint over_lists ∷ ghosts.Fixpoint over_lists ∷ ghosts.Predicate (list_sort ∷ []) ∷ [];
  datatypes = (record { parameters = 0; constructors = 1 ∷ 2 ∷ [] }) ∷ [];
}

-- ---- the bodies as terms
-- the length of what the local with a number stands for
abbrev pub length_term : ℕ → Term
length_term n = term (Fixpoint Integer (codes "one.c#length")) (and_term (term (Symbol Other (Numbered n)) no_terms) no_terms)

-- the sum of two terms
abbrev pub sum_term : Term → Term → Term
sum_term a b = term (Arithmetic Add) (and_term a (and_term b no_terms))

-- the cases of the length
abbrev pub nil_case : Case
nil_case = record { constructor = codes "one.c#nil"; names = 0; result = number (pos 0) }

abbrev pub cons_case : Case
cons_case = record { constructor = codes "one.c#cons"; names = 2; result = sum_term (number (pos 1)) (length_term 2) }

-- a definition for integers, over one parameter
abbrev pub defined_by : Identity → Body → definitions.Fixpoint
defined_by c b = record { kind = kinds.Integer; identity = c; parameters = 1; body = b }

-- the definitions of the unit
abbrev pub list_definitions : List definitions.Fixpoint
list_definitions = defined_by (codes "one.c#length") (Switches 0 (nil_case ∷ cons_case ∷ [])) ∷ defined_by (codes "one.c#twice") (Returns (sum_term (length_term 0) (length_term 0))) ∷ []

-- what the fixpoints give
abbrev pub list_interpretation : Interpretation
list_interpretation = record {
  claims = λ g t. false;
  fixpoint = λ c vs. values.Number (pos (cond (same_identity (codes "one.c#length") c) (length_in (value_at vs 0)) (length_in (value_at vs 0) + length_in (value_at vs 0))));
}

-- the fixpoints of the unit have the values of their bodies, with all that is asked of the unit; and up to each of them less is declared than in the whole
pub record ListsAreDefined : Type 0 where
  pub defines : DefinesUnit list_scope list_paths list_items list_definitions list_interpretation
  pub before_twice : number_of (up_to length_written.name list_scope).names (codes "twice") ≡ None
  pub before_held : number_of (up_to twice_written.name list_scope).names (codes "held") ≡ None
