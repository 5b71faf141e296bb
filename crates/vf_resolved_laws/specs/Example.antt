-- A worked example: `q == 0 ? 1 : n + 2`, where q is a pointer and n a number.
use Rattle.std.specs.Prelude.{◌≡◌, ℕ, zero, false, [], ◌∷◌, None, codes, pos}
use Rattle.vf_base.specs.declared.int_type.IntType.TheVariants as integers
use Rattle.vf_base.specs.declared.place.Place.{Place}
use Rattle.vf_tree.specs.Core.{Add, Equal}
use Rattle.vf_meaning.specs.Ghost.{Name, Numbered}
use Rattle.vf_closure.specs.Terms.{Arithmetic, Choose, Compare, Integer, Kind, Null, Other, Symbol, Term, and_term, no_terms, number, term}
use Rattle.vf_sorts.specs.Sorts.{Sort}
use Rattle.vf_sorts.specs.Unknowns.{AgreesAsTold, settling}
use Rattle.vf_declared.specs.declared.locals.Local.{Local}
use Rattle.vf_declared.specs.declared.locals.Local.TheVariants as locals
use Rattle.vf_declared.specs.declared.scope.Scope.{Scope}
use Rattle.vf_declared.specs.Beginning.{empty}
use Rattle.vf_syntax.specs.declared.operator.BinaryOperator.TheVariants as operators
use Rattle.vf_syntax.specs.declared.operator.Level.TheVariants as levels
use Rattle.vf_syntax.specs.GhostExprTree.{GhostExprTree, more_ghost_link, no_ghost_link}
use Rattle.vf_syntax.specs.GhostExprTree as tree
use Rattle.vf_sorting.specs.declared.context.Context.{Context}
use Rattle.vf_sorting.specs.HasSort.{HasSort}
use Rattle.vf_sorting.specs.Kinds.{int_sort, pointer_sort}
use Rattle.vf_terms.specs.Settings.{Setting}
use Rattle.vf_terms.specs.Readings.{read}
use Rattle.vf_resolved_laws.specs.Given.{GivesSorts}
use Rattle.vf_resolved_laws.specs.Heads.{vocabulary_of}
use Rattle.vf_resolved_laws.specs.Terms.{TermHasSort}

-- a name that a pattern binds
abbrev pub bound : Sort → Local
bound t = locals.Ghost (record { is_variable = false; sort = t })

-- q and n are declared
abbrev pub two_names : Scope
two_names = record (empty 0) { locals = record { names = codes "q" ∷ codes "n" ∷ []; meanings = bound pointer_sort ∷ bound int_sort ∷ [] } }

-- no words stand in the text
abbrev pub no_words : Context
no_words = record { result = None; has_this = false; has_thread = false; own = None }

-- the symbol of a name with a number
abbrev pub symbol_at : Kind → ℕ → Term
symbol_at k n = term (Symbol k (Numbered n)) no_terms

-- they are the names 0 and 1
abbrev pub two_symbols : Setting
two_symbols = record {
  scope = two_names;
  context = no_words;
  known = [];
  paths = codes "one.c" ∷ [];
  locals = symbol_at Other 0 ∷ symbol_at Integer 1 ∷ [];
  result = number (pos 0);
  this_value = number (pos 0);
  thread = number (pos 0);
}

-- their sorts
abbrev pub two_sorts : Name → Sort
two_sorts (Numbered zero) = pointer_sort
two_sorts x = int_sort

-- a place in the first file
abbrev pub here : Place
here = record { file = 0; line = 1; column = 1 }

-- `q == 0 ? 1 : n + 2`
abbrev pub choice_of_two : GhostExprTree
choice_of_two = tree.conditional here
    (tree.chain here levels.Equality (tree.name_ here (codes "q")) (more_ghost_link (tree.ghost_link here operators.Equal (tree.number here 0 integers.Int)) no_ghost_link))
    (tree.number here 1 integers.Int)
    (tree.chain here levels.Additive (tree.name_ here (codes "n")) (more_ghost_link (tree.ghost_link here operators.Plus (tree.number here 2 integers.Int)) no_ghost_link))

-- what it is read as
abbrev pub term_of_two : Term
term_of_two = term (Choose Integer) (and_term (term (Compare Equal) (and_term (symbol_at Other 0) (and_term (term Null no_terms) no_terms)))
    (and_term (number (pos 1)) (and_term (term (Arithmetic Add) (and_term (symbol_at Integer 1) (and_term (number (pos 2)) no_terms))) no_terms)))

-- it has the sort of numbers, and so has the term that it is read as, where the `0` is the null pointer
pub record ChoiceHasItsSort : Type 0 where
  pub gives : GivesSorts (vocabulary_of two_symbols two_sorts) two_symbols
  pub sorted : HasSort two_names no_words [] choice_of_two int_sort []
  pub agrees : AgreesAsTold (settling []) []
  pub is_read : (read two_symbols false 0 choice_of_two).term ≡ term_of_two
  pub has_sort : TermHasSort (vocabulary_of two_symbols two_sorts) term_of_two int_sort
