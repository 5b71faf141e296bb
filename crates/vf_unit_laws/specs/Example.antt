-- An example: the accepted unit of lists and their lengths, its environment, and a question that it asks.
use Rattle.std.specs.Prelude.{pos, cond, [], ◌∷◌, map, Option, Some, None, codes}
use Rattle.vf_tree.specs.Core.{Identity}
use Rattle.vf_model.specs.Values.{same_identity}
use Rattle.vf_meaning.specs.Ghost.{Sort, Integers, Datatype, none, Numbered, ConstructorTree}
use Rattle.vf_meaning.specs.Structural.{AreOrdered}
use Rattle.vf_meaning.specs.Assertions.{Environment}
use Rattle.vf_meaning.specs.Environments.{IsLinked}
use Rattle.vf_closure.specs.Terms.{Integer, Other, Symbol, Constructor, Fixpoint, Term, term, no_terms, and_term}
use Rattle.vf_closure.specs.Literals as literals
use Rattle.vf_declared.specs.declared.scope.Scope.{Scope}
use Rattle.vf_asking.specs.declared.answers.Answer.TheVariants.{Proved}
use Rattle.vf_asking.specs.Journal.{Asked}
use Rattle.vf_asking.specs.Right.{IsRight}
use Rattle.vf_rules.specs.States.{Entails}
use Rattle.vf_entailment.specs.Facts.{fact_of}
use Rattle.vf_entailment.specs.Trees.{AreAmong}
use Rattle.vf_entailment.specs.Example.{with_fixpoints}
use Rattle.vf_view_laws.specs.Order.{StandInOrder, trees_for}
use Rattle.vf_fixpoint_laws.specs.descending.Example.{list_definitions, list_items, list_paths, one_file}
use Rattle.vf_fixpoint_laws.specs.met.Units.{IsAcceptedUnit}
use Rattle.vf_unit_laws.specs.Fixpoints.{Signature, Signatures, HasFixpointsOf, written_for}

-- ---- the environment of the unit
-- lists of integers
abbrev pub lists : Sort
lists = Datatype (codes "one.c#list") none

-- `int length(list xs)`, the only fixpoint
abbrev pub length_signature : Signature
length_signature = record { sorts = lists ∷ []; result = Integers }

abbrev pub list_signatures : Signatures
list_signatures c = length_signature

-- the constructors of lists
abbrev pub nil_constructor : ConstructorTree
nil_constructor = record { datatype = codes "one.c#list"; parameters = 0; arguments = [] }

abbrev pub cons_constructor : ConstructorTree
cons_constructor = record { datatype = codes "one.c#list"; parameters = 0; arguments = Integers ∷ lists ∷ [] }

abbrev pub list_constructor : Identity → Option ConstructorTree
list_constructor c = cond (same_identity c (codes "one.c#nil")) (Some nil_constructor) (cond (same_identity c (codes "one.c#cons")) (Some cons_constructor) None)

abbrev pub list_unit : Environment
list_unit = record (with_fixpoints (trees_for (written_for list_signatures list_definitions))) { constructors = list_constructor }

-- ---- a question
-- three names, the second of which is a number
abbrev pub xs : Term
xs = term (Symbol Other (Numbered 0)) no_terms

abbrev pub h : Term
h = term (Symbol Integer (Numbered 1)) no_terms

abbrev pub t : Term
t = term (Symbol Other (Numbered 2)) no_terms

-- `cons(h, t)`
abbrev pub cons_ht : Term
cons_ht = term (Constructor (codes "one.c#cons")) (and_term h (and_term t no_terms))

-- `length(y)`
abbrev pub length_of : Term → Term
length_of y = term (Fixpoint Integer (codes "one.c#length")) (and_term y no_terms)

-- where xs == cons(h, t), is length(xs) at most one more than length(t)?
abbrev pub list_question : Asked
list_question = record {
  unit = 0;
  definitions = list_definitions;
  path = literals.Equal xs cons_ht ∷ [];
  goal = literals.Difference (length_of xs) (length_of t) (pos 1);
  answer = Proved;
}

-- The premises of the laws can be met: the unit is accepted with these definitions, so its fixpoint stands in order, and the environment has it; the unit is linked alone, and the answer to the question is right; so its facts entail the goal
pub record LengthsStandInOrder : Type 0 where
  pub whole : Scope
  pub accepted : IsAcceptedUnit one_file list_paths list_items whole list_definitions
  pub ordered : StandInOrder [] (written_for list_signatures list_definitions)
  pub fixpoints : HasFixpointsOf list_unit list_definitions
  pub among : AreOrdered list_unit.fixpoints × AreAmong list_unit.fixpoints list_definitions
  pub linked : IsLinked (list_unit ∷ []) list_unit
  pub right : IsRight list_question
  pub entails : Entails list_unit (map fact_of list_question.path) (fact_of list_question.goal)
