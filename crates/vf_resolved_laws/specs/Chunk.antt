-- A worked example: `p(n, ?y) &*& y == 0`, where p is a predicate over two numbers, and n a number.
use Rattle.std.specs.Prelude.{◌≡◌, ℕ, false, List, [], ◌∷◌, None, codes, map, pos}
use Rattle.vf_base.specs.declared.int_type.IntType.TheVariants as integers
use Rattle.vf_core.specs.declared.words.Comparison.TheVariants as comparisons
use Rattle.vf_meaning.specs.Ghost.{Name}
use Rattle.vf_closure.specs.Terms.{Integer, number}
use Rattle.vf_formula.specs.declared.head.Kind.TheVariants as kinds
use Rattle.vf_sorts.specs.Sorts.{Sort}
use Rattle.vf_declared.specs.declared.declaration.GhostDeclaration.TheVariants as ghosts
use Rattle.vf_declared.specs.declared.declaration.Meaning.TheVariants as meanings
use Rattle.vf_declared.specs.declared.scope.Scope.{Scope}
use Rattle.vf_declared.specs.Beginning.{empty}
use Rattle.vf_syntax.specs.AssertionTree.{PartTrees, more_part, no_part}
use Rattle.vf_syntax.specs.AssertionTree as written
use Rattle.vf_syntax.specs.declared.operator.BinaryOperator.TheVariants as operators
use Rattle.vf_syntax.specs.declared.operator.Level.TheVariants as levels
use Rattle.vf_syntax.specs.declared.pattern.Pattern.TheVariants as patterns
use Rattle.vf_syntax.specs.GhostExprTree.{more_ghost_link, no_ghost_link}
use Rattle.vf_syntax.specs.GhostExprTree as tree
use Rattle.vf_sorting.specs.Kinds.{int_sort}
use Rattle.vf_asserting.specs.Gives.{Gives}
use Rattle.vf_resolved.specs.AssertionTree.{PartTree, part_list}
use Rattle.vf_resolved.specs.AssertionTree as resolved
use Rattle.vf_resolved.specs.TruthTree as truths
use Rattle.vf_resolved.specs.declared.head.Head.TheVariants as chunks
use Rattle.vf_resolved.specs.declared.pattern.Pattern.TheVariants as slots
use Rattle.vf_resolving.specs.Assertions.{parts_resolved}
use Rattle.vf_resolving.specs.Standings.{Around, Standing, setting_at}
use Rattle.vf_resolved_laws.specs.Assertions.{AreDecided, ArePartsLevelled, NumbersHaveSorts, Stands}
use Rattle.vf_resolved_laws.specs.Example.{bound, here, no_words, symbol_at}
use Rattle.vf_resolved_laws.specs.Heads.{Vocabulary, vocabulary_of}
use Rattle.vf_resolved_laws.specs.Parts.{PartsHaveSorts}

-- `predicate p(int a, int b);`, and the locals of these names
abbrev pub one_predicate : List (List ℕ) → Scope
one_predicate names = record (empty 0) {
  locals = record { names = names; meanings = map (λ x. bound int_sort) names };
  names = codes "p" ∷ [];
  declarations = (record { meaning = meanings.Ghost 0; files = 0 ∷ [] }) ∷ [];
  ghosts = ghosts.Predicate (int_sort ∷ int_sort ∷ []) ∷ [];
}

-- the text of the example
abbrev pub chunk_and_truth : PartTrees
chunk_and_truth =
    more_part (written.chunk here None (record { text = codes "p"; place = here }) (patterns.Is (tree.name_ here (codes "n")) ∷ patterns.Binds here (record { text = codes "y"; place = here }) ∷ []) None)
    (more_part (written.pure here (tree.chain here levels.Equality (tree.name_ here (codes "y")) (more_ghost_link (tree.ghost_link here operators.Equal (tree.number here 0 integers.Int)) no_ghost_link))) no_part)

-- nothing is known of unknown sorts, since there are none
abbrev pub around : Around
around = record { context = no_words; known = []; paths = codes "one.c" ∷ []; «result» = number (pos 0); this_value = number (pos 0); thread = number (pos 0) }

-- n is the name 0
abbrev pub start : Standing
start = record { scope = one_predicate (codes "n" ∷ []); terms = symbol_at Integer 0 ∷ []; sorts = int_sort ∷ []; next = 0 }

-- all names are numbers
abbrev pub all_numbers : Name → Sort
all_numbers x = int_sort

abbrev pub vocabulary : Vocabulary
vocabulary = vocabulary_of (setting_at around start) all_numbers

-- what the text is resolved as: y is the name 1
abbrev pub parts_of_text : List PartTree
parts_of_text =
    resolved.chunk here None (chunks.Predicate (codes "one.c#p")) (slots.Is (record { kind = kinds.Integer; term = symbol_at Integer 0 }) ∷ slots.Binds (record { number = 1; kind = kinds.Integer }) ∷ [])
    ∷ resolved.pure here (truths.comparison comparisons.Equal false (truths.value (symbol_at Integer 1)) (truths.value (number (pos 0))))
    ∷ []

-- the text is sorted, what the law on assertions asks is met, and its parts have their sorts
pub record ChunkHasItsSorts : Type 0 where
  pub stands : Stands vocabulary around start (one_predicate (codes "n" ∷ [])) []
  pub gives : Gives no_words (one_predicate (codes "n" ∷ [])) [] chunk_and_truth (one_predicate (codes "n" ∷ codes "y" ∷ [])) []
  pub decided : AreDecided [] gives
  pub levelled : ArePartsLevelled chunk_and_truth
  pub numbers : NumbersHaveSorts vocabulary (parts_resolved around start chunk_and_truth).standing.sorts
  pub is_resolved : (parts_resolved around start chunk_and_truth).parts ≡ parts_of_text
  pub have_sorts : PartsHaveSorts vocabulary (part_list parts_of_text)
