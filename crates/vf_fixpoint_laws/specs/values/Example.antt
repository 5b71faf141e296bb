-- Lists over a type parameter with two fixpoints, and an expression over them that has a sort.
use Rattle.std.specs.Prelude.{◌≡◌, ℕ, suc, pos, false, cond, [], ◌∷◌, Some, None, codes}
use Rattle.vf_base.specs.declared.int_type.IntType.TheVariants as integers
use Rattle.vf_base.specs.declared.place.Place.{Place}
use Rattle.vf_model.specs.Values.{Value, Values, none, more, same_identity}
use Rattle.vf_model.specs.Values as values
use Rattle.vf_meaning.specs.Valuations.{Valuation, value_at}
use Rattle.vf_meaning.specs.GhostValues.{Interpretation}
use Rattle.vf_closure.specs.Terms.{number}
use Rattle.vf_closure.specs.Values.{value}
use Rattle.vf_sorts.specs.declared.sort.Head.TheVariants as heads
use Rattle.vf_sorts.specs.Sorts.{Sort, sort, row}
use Rattle.vf_sorts.specs.Unknowns.{AgreesAsTold, Known, leaf, settling}
use Rattle.vf_syntax.specs.GhostExprTree.{GhostExprTree, no_ghost_expr, more_ghost_expr}
use Rattle.vf_syntax.specs.GhostExprTree as tree
use Rattle.vf_declared.specs.declared.declaration.Constructor.{Constructor}
use Rattle.vf_declared.specs.declared.declaration.Declaration.{Declaration}
use Rattle.vf_declared.specs.declared.declaration.Fixpoint.{Fixpoint}
use Rattle.vf_declared.specs.declared.declaration.GhostDeclaration.TheVariants as ghosts
use Rattle.vf_declared.specs.declared.declaration.Meaning.TheVariants as meanings
use Rattle.vf_declared.specs.declared.scope.Scope.{Scope}
use Rattle.vf_declared.specs.Beginning.{empty}
use Rattle.vf_sorting.specs.declared.context.Context.{Context}
use Rattle.vf_sorting.specs.HasSort.{HasSort}
use Rattle.vf_sorting.specs.Kinds.{int_sort}
use Rattle.vf_terms.specs.Settings.{Setting}
use Rattle.vf_terms.specs.Readings.{read}
use Rattle.vf_fixpoint_laws.specs.values.Instances.{Instance}
use Rattle.vf_fixpoint_laws.specs.values.Declares.{file_level}
use Rattle.vf_fixpoint_laws.specs.values.Worth.{HasValue, Tests, passing}
use Rattle.vf_fixpoint_laws.specs.values.Given.{FixpointsKeepSorts, GivesValues}

-- the sort that `t` is in a text with the type parameter `t`
abbrev pub element : Sort
element = leaf (heads.Parameter 0)

-- lists of a sort
abbrev pub list_of : Sort → Sort
list_of t = sort (heads.Datatype 0) (row (t ∷ []))

-- `inductive list<t> = nil | cons(t, list<t>);`
abbrev pub nil_constructor : Constructor
nil_constructor = record { datatype = 0; arguments = [] }

abbrev pub cons_constructor : Constructor
cons_constructor = record { datatype = 0; arguments = element ∷ list_of element ∷ [] }

-- `fixpoint int length<t>(list<t> xs)`
abbrev pub length_fixpoint : Fixpoint
length_fixpoint = record { parameters = 1; arguments = list_of element ∷ []; result = int_sort }

-- `fixpoint t first<t>(list<t> xs, t other)`
abbrev pub first_fixpoint : Fixpoint
first_fixpoint = record { parameters = 1; arguments = list_of element ∷ element ∷ []; result = element }

-- what annotations of the first file declare by a number
abbrev pub declared_as : ℕ → Declaration
declared_as n = record { meaning = meanings.Ghost n; files = 0 ∷ [] }

-- what is declared
abbrev pub list_scope : Scope
list_scope = record (empty 0) {
  names = codes "list" ∷ codes "nil" ∷ codes "cons" ∷ codes "length" ∷ codes "first" ∷ [];
  declarations = declared_as 0 ∷ declared_as 1 ∷ declared_as 2 ∷ declared_as 3 ∷ declared_as 4 ∷ [];
  ghosts = ghosts.Datatype 0 ∷ ghosts.Constructor nil_constructor ∷ ghosts.Constructor cons_constructor ∷ ghosts.Fixpoint length_fixpoint ∷ ghosts.Fixpoint first_fixpoint ∷ [];
  datatypes = (record { parameters = 1; constructors = 1 ∷ 2 ∷ [] }) ∷ [];
}

-- no words stand in the text
abbrev pub no_words : Context
no_words = record { result = None; has_this = false; has_thread = false; own = None }

-- the type parameters of `first`, `cons` and `nil` stand for whole numbers
abbrev pub known_in_one : Known
known_in_one = Some int_sort ∷ Some int_sort ∷ Some int_sort ∷ []

-- the setting of an expression in the first file
abbrev pub list_setting : Setting
list_setting = record {
  scope = list_scope;
  context = no_words;
  known = known_in_one;
  paths = codes "one.c" ∷ [];
  locals = [];
  result = number (pos 0);
  this_value = number (pos 0);
  thread = number (pos 0);
}

-- the length of a list
abbrev mutual
  pub length_in : Value → ℕ
  length_in (values.Constructed c vs) = length_of_parts vs
  length_in v = 0

  -- one more than that of the rest, where there is one
  pub length_of_parts : Values → ℕ
  length_of_parts (more v (more w ws)) = suc (length_in w)
  length_of_parts vs = 0

-- the first element of a list, or else another value
abbrev pub first_in : Value → Value → Value
first_in (values.Constructed c (more v vs)) w = v
first_in v w = w

-- what the fixpoints give
abbrev pub list_interpretation : Interpretation
list_interpretation = record {
  claims = λ g t. false;
  fixpoint = λ c vs. cond (same_identity (codes "one.c#length") c) (values.Number (pos (length_in (value_at vs 0)))) (first_in (value_at vs 0) (value_at vs 1));
}

-- a place in the first file
abbrev pub here : Place
here = record { file = 0; line = 1; column = 1 }

-- `cons(1, nil)`
abbrev pub one_list : GhostExprTree
one_list = tree.application here (codes "cons") (more_ghost_expr (tree.number here 1 integers.Int) (more_ghost_expr (tree.name_ here (codes "nil")) no_ghost_expr))

-- `first(cons(1, nil), 2)`
abbrev pub first_of_one : GhostExprTree
first_of_one = tree.application here (codes "first") (more_ghost_expr one_list (more_ghost_expr (tree.number here 2 integers.Int) no_ghost_expr))

-- the fixpoints keep sorts, whatever values pass for those of type parameters; `first(cons(1, nil), 2)` has an unknown sort, which is that of whole numbers in the end, and its value is the number 1, of that sort
pub record FirstHasItsSort : Type 0 where
  pub keeps : (tests : Tests) → FixpointsKeepSorts (file_level list_setting) list_interpretation (passing tests)
  pub gives : (v : Valuation) (tests : Tests) (g : Instance) → GivesValues (file_level list_setting) list_setting list_interpretation v (passing tests) g
  pub sorted : HasSort list_scope no_words [] first_of_one (leaf (heads.Unknown 0)) known_in_one
  pub agrees : AgreesAsTold (settling known_in_one) known_in_one
  pub has_value : (v : Valuation) (tests : Tests) → HasValue (file_level list_setting) (passing tests) (value list_interpretation v (read list_setting false 0 first_of_one).term) int_sort
  pub is_one : (v : Valuation) → value list_interpretation v (read list_setting false 0 first_of_one).term ≡ values.Number (pos 1)
