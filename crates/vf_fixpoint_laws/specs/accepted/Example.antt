-- An accepted unit of lists, and expressions over a list whose values are of their sorts in each interpretation that gives its fixpoints the values of the bodies.
use Rattle.std.specs.Prelude.{◌≡◌, ℤ, pos, false, cond, List, [], ◌∷◌, None, Some, codes}
use Rattle.vf_model.specs.Values.{Value, Values, none, more, same_identity}
use Rattle.vf_model.specs.Values as values
use Rattle.vf_meaning.specs.Ghost.{Numbered}
use Rattle.vf_meaning.specs.Valuations.{Valuation, value_at}
use Rattle.vf_meaning.specs.GhostValues.{Interpretation}
use Rattle.vf_closure.specs.Terms.{Constructor, Other, Symbol, Term, term, no_terms, number}
use Rattle.vf_closure.specs.Values.{value}
use Rattle.vf_formula.specs.declared.head.Kind.TheVariants as kinds
use Rattle.vf_sorts.specs.declared.sort.Head.TheVariants as heads
use Rattle.vf_sorts.specs.Sorts.{Sort}
use Rattle.vf_sorts.specs.Unknowns.{leaf}
use Rattle.vf_syntax.specs.declared.item.FixpointBody.{FixpointBody}
use Rattle.vf_syntax.specs.declared.item.FixpointBody.TheVariants as texts
use Rattle.vf_syntax.specs.declared.item.FixpointCase.{FixpointCase}
use Rattle.vf_syntax.specs.declared.item.GhostForm.TheVariants as forms
use Rattle.vf_syntax.specs.declared.item.Item.{Item}
use Rattle.vf_syntax.specs.declared.item.Item.TheVariants as items
use Rattle.vf_syntax.specs.GhostExprTree.{GhostExprTree, no_ghost_expr, more_ghost_expr}
use Rattle.vf_syntax.specs.GhostExprTree as tree
use Rattle.vf_declared.specs.declared.locals.Local.TheVariants as locals
use Rattle.vf_declared.specs.declared.scope.Scope.{Scope}
use Rattle.vf_sorting.specs.HasSort.{HasSort}
use Rattle.vf_sorting.specs.Kinds.{int_sort}
use Rattle.vf_terms.specs.Settings.{Setting}
use Rattle.vf_terms.specs.Readings.{read}
use Rattle.vf_definitions.specs.Laws.{MeetsDefinitions}
use Rattle.vf_definitions.specs.declared.fixpoint.Body.TheVariants.{Switches}
use Rattle.vf_definitions.specs.declared.fixpoint.Case.{Case}
use Rattle.vf_definitions.specs.declared.fixpoint.Fixpoint as definitions
use Rattle.vf_fixpoint_laws.specs.values.Example.{length_in, no_words}
use Rattle.vf_fixpoint_laws.specs.values.Telling.{IsTermOf}
use Rattle.vf_fixpoint_laws.specs.values.Worth.{HasValue, Tests, passing}
use Rattle.vf_fixpoint_laws.specs.bodies.Bodies.{declared_at}
use Rattle.vf_fixpoint_laws.specs.descending.Example.{cons_case, datatype, here, length, list_paths, list_written, named, nil_case, one_file, parameter}
use Rattle.vf_fixpoint_laws.specs.accepted.Accepted.{IsAcceptedWith}

-- ---- the text
-- `case nil: return nil;`
abbrev pub rest_of_nil : FixpointCase
rest_of_nil = record { place = here; pattern = record { constructor = named (codes "nil"); names = None }; value = tree.name_ here (codes "nil") }

-- `case cons(h, t): return t;`
abbrev pub rest_of_cons : FixpointCase
rest_of_cons = record { place = here; pattern = record { constructor = named (codes "cons"); names = Some (named (codes "h") ∷ named (codes "t") ∷ []) }; value = tree.name_ here (codes "t") }

-- `switch (xs) { .. }`
abbrev pub rest_text : FixpointBody
rest_text = texts.Switch (named (codes "xs")) (rest_of_nil ∷ rest_of_cons ∷ [])

-- `fixpoint list rest(list xs) { switch (xs) { .. } }`
abbrev pub rest : Item
rest = items.Ghost (record { place = here; form = forms.Fixpoint list_written (named (codes "rest")) [] (parameter ∷ []) rest_text })

-- the unit: lists, the rest of a list and the length of one
abbrev pub list_unit : List Item
list_unit = datatype ∷ rest ∷ length ∷ []

-- ---- the bodies as terms
abbrev pub nil_rest : Case
nil_rest = record { constructor = codes "one.c#nil"; names = 0; result = term (Constructor (codes "one.c#nil")) no_terms }

abbrev pub cons_rest : Case
cons_rest = record { constructor = codes "one.c#cons"; names = 2; result = term (Symbol Other (Numbered 2)) no_terms }

abbrev pub rest_definition : definitions.Fixpoint
rest_definition = record { kind = kinds.Other; identity = codes "one.c#rest"; parameters = 1; body = Switches 0 (nil_rest ∷ cons_rest ∷ []) }

abbrev pub length_definition : definitions.Fixpoint
length_definition = record { kind = kinds.Integer; identity = codes "one.c#length"; parameters = 1; body = Switches 0 (nil_case ∷ cons_case ∷ []) }

-- the definitions of the unit
abbrev pub unit_definitions : List definitions.Fixpoint
unit_definitions = rest_definition ∷ length_definition ∷ []

-- ---- values of the fixpoints
-- the second of the parts of a list, which is the rest; where there is none, the empty list
abbrev pub second_part : Values → Value
second_part (more v (more w vs)) = w
second_part vs = values.Constructed (codes "one.c#nil") none

-- the rest of a list; another value is its own
abbrev pub rest_in : Value → Value
rest_in (values.Constructed c vs) = second_part vs
rest_in v = v

-- what the fixpoints may give
abbrev pub unit_interpretation : Interpretation
unit_interpretation = record { claims = λ g t. false; fixpoint = λ c vs. cond (same_identity (codes "one.c#rest") c) (rest_in (value_at vs 0)) (values.Number (pos (length_in (value_at vs 0)))) }

-- ---- expressions over a list
-- the sort of lists
abbrev pub list_sort : Sort
list_sort = leaf (heads.Datatype 0)

-- the symbol that a list has as a term
abbrev pub list_symbol : Term
list_symbol = term (Symbol Other (Numbered 0)) no_terms

-- the setting of an expression behind the unit, with one local `xs` that stands for a list
abbrev pub list_setting : Scope → Setting
list_setting s = record {
  scope = record s { locals = record { names = codes "xs" ∷ []; meanings = locals.Ghost (record { is_variable = false; sort = list_sort }) ∷ [] } };
  context = no_words;
  known = [];
  paths = list_paths;
  locals = list_symbol ∷ [];
  result = number (pos 0);
  this_value = number (pos 0);
  thread = number (pos 0);
}

-- `rest(xs)`
abbrev pub rest_of_list : GhostExprTree
rest_of_list = tree.application here (codes "rest") (more_ghost_expr (tree.name_ here (codes "xs")) no_ghost_expr)

-- `length(rest(xs))`
abbrev pub length_of_rest : GhostExprTree
length_of_rest = tree.application here (codes "length") (more_ghost_expr rest_of_list no_ghost_expr)

-- in each interpretation that gives the fixpoints of the unit the values of their bodies, such as the one here, and wherever `xs` has a list as its value, `rest(xs)` has a term of one of the constructors of lists, and `length(rest(xs))` a number
pub record RestsAreLists : Type 0 where
  pub whole : Scope
  pub accepted : (i : Interpretation) → MeetsDefinitions i unit_definitions → IsAcceptedWith one_file list_paths list_unit whole unit_definitions i
  pub meets : MeetsDefinitions unit_interpretation unit_definitions
  pub rest_sorted : HasSort (list_setting whole).scope no_words [] rest_of_list list_sort []
  pub length_sorted : HasSort (list_setting whole).scope no_words [] length_of_rest int_sort []
  pub is_list : (i : Interpretation) (v : Valuation) (tests : Tests) → MeetsDefinitions i unit_definitions → HasValue (declared_at whole list_paths) (passing tests) (value i v list_symbol) list_sort
      → IsTermOf (declared_at whole list_paths) 0 (value i v (read (list_setting whole) false 0 rest_of_list).term)
  pub is_number : (i : Interpretation) (v : Valuation) (tests : Tests) → MeetsDefinitions i unit_definitions → HasValue (declared_at whole list_paths) (passing tests) (value i v list_symbol) list_sort
      → (z : ℤ) × (value i v (read (list_setting whole) false 0 length_of_rest).term ≡ values.Number z)
