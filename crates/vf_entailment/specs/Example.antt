-- A unit with four fixpoints over lists, as definitions of the prover and in an environment, and a question that it asks; and why integers are read as whole numbers.
use Rattle.std.specs.Prelude.{◌≡◌, ℕ, pos, false, cond, List, [], ◌∷◌, map, Option, Some, None, codes}
use Rattle.vf_tree.specs.Core.{Identity, Add, Equal}
use Rattle.vf_model.specs.Values.{same_identity}
use Rattle.vf_model.specs.Values as values
use Rattle.vf_meaning.specs.Ghost.{Sort, Integers, Truths, Anything, Datatype, none, Numbered, ConstructorTree, FixpointTree}
use Rattle.vf_meaning.specs.Ghost as ghosts
use Rattle.vf_meaning.specs.Valuations.{Valuation}
use Rattle.vf_meaning.specs.Structural.{AreOrdered}
use Rattle.vf_meaning.specs.Assertions.{Environment}
use Rattle.vf_meaning.specs.Environments.{IsLinked}
use Rattle.vf_closure.specs.Terms.{Kind, Integer, Other, Symbol, Constructor, Fixpoint, Arithmetic, Compare, Term, Terms, term, no_terms, and_term, number}
use Rattle.vf_closure.specs.Literals as literals
use Rattle.vf_formula.specs.declared.head.Kind.TheVariants as kinds
use Rattle.vf_definitions.specs.Laws.{MeetsDefinitions}
use Rattle.vf_definitions.specs.declared.fixpoint.Case.{Case}
use Rattle.vf_definitions.specs.declared.fixpoint.Body.{Body}
use Rattle.vf_definitions.specs.declared.fixpoint.Body.TheVariants.{Returns, Switches}
use Rattle.vf_definitions.specs.declared.fixpoint.Fixpoint as definitions
use Rattle.vf_asking.specs.declared.answers.Answer.TheVariants.{Proved}
use Rattle.vf_asking.specs.Journal.{Asked}
use Rattle.vf_asking.specs.Right.{IsRight}
use Rattle.vf_rules.specs.States.{meaning, value_in, Entails}
use Rattle.vf_entailment.specs.Meant.{meant}
use Rattle.vf_entailment.specs.Facts.{fact_of}
use Rattle.vf_entailment.specs.Trees.{tree_of, body_as, AreAmong}

-- ---- terms
-- a symbol
abbrev pub symbol : Kind → ℕ → Term
symbol k n = term (Symbol k (Numbered n)) no_terms

abbrev pub one : Term → Terms
one t = and_term t no_terms

abbrev pub two : Term → Term → Terms
two t u = and_term t (one u)

-- the empty list, and a number in front of a list
abbrev pub nil : Term
nil = term (Constructor (codes "list.h#nil")) no_terms

abbrev pub cons : Term → Term → Term
cons h t = term (Constructor (codes "list.h#cons")) (two h t)

-- `length(t)`
abbrev pub length_of : Term → Term
length_of t = term (Fixpoint Integer (codes "list.h#length")) (one t)

-- `append(t, u)`
abbrev pub append_of : Term → Term → Term
append_of t u = term (Fixpoint Other (codes "list.h#append")) (two t u)

-- `t + 1`
abbrev pub one_more : Term → Term
one_more t = term (Arithmetic Add) (two t (number (pos 1)))

-- ---- the fixpoints
-- the cases of the empty list and of a number in front of a list
abbrev pub nil_case : Term → Case
nil_case t = record { constructor = codes "list.h#nil"; names = 0; result = t }

abbrev pub cons_case : Term → Case
cons_case t = record { constructor = codes "list.h#cons"; names = 2; result = t }

-- what switches over its first parameter
abbrev pub by_list : Term → Term → Body
by_list t u = Switches 0 (nil_case t ∷ cons_case u ∷ [])

-- fixpoint int length(list xs) { switch (xs) { case nil: return 0; case cons(h, t): return length(t) + 1; } }
abbrev pub length_body : Body
length_body = by_list (number (pos 0)) (one_more (length_of (symbol Other 2)))

-- fixpoint list append(list xs, list ys) { switch (xs) { case nil: return ys; case cons(h, t): return cons(h, append(t, ys)); } }
abbrev pub append_body : Body
append_body = by_list (symbol Other 1) (cons (symbol Integer 2) (append_of (symbol Other 3) (symbol Other 1)))

-- fixpoint t pick<t>(list xs, t a, t b) { switch (xs) { case nil: return a; case cons(h, t): return b; } }
abbrev pub pick_body : Body
pick_body = by_list (symbol Other 1) (symbol Other 2)

-- fixpoint int doubled(list xs) { return length(append(xs, xs)); }
abbrev pub doubled_body : Body
doubled_body = Returns (length_of (append_of (symbol Other 0) (symbol Other 0)))

-- the fixpoints as the prover has them: `pick`, whose result is of a type parameter, for both kinds
abbrev pub list_definitions : List definitions.Fixpoint
list_definitions =
    record { kind = kinds.Integer; identity = codes "list.h#length"; parameters = 1; body = length_body }
    ∷ record { kind = kinds.Other; identity = codes "list.h#append"; parameters = 2; body = append_body }
    ∷ record { kind = kinds.Other; identity = codes "list.h#pick"; parameters = 3; body = pick_body }
    ∷ record { kind = kinds.Integer; identity = codes "list.h#pick"; parameters = 3; body = body_as Integer pick_body }
    ∷ record { kind = kinds.Integer; identity = codes "list.h#doubled"; parameters = 1; body = doubled_body }
    ∷ []

-- ---- the environment
abbrev pub lists : Sort
lists = Datatype (codes "list.h#list") none

abbrev pub length_tree : FixpointTree
length_tree = tree_of (codes "list.h#length") (lists ∷ []) Integers length_body

abbrev pub append_tree : FixpointTree
append_tree = tree_of (codes "list.h#append") (lists ∷ lists ∷ []) lists append_body

abbrev pub pick_tree : FixpointTree
pick_tree = tree_of (codes "list.h#pick") (lists ∷ Anything ∷ Anything ∷ []) Anything pick_body

abbrev pub doubled_tree : FixpointTree
doubled_tree = tree_of (codes "list.h#doubled") (lists ∷ []) Integers doubled_body

-- the constructors of lists
abbrev pub nil_constructor : ConstructorTree
nil_constructor = record { datatype = codes "list.h#list"; parameters = 0; arguments = [] }

abbrev pub cons_constructor : ConstructorTree
cons_constructor = record { datatype = codes "list.h#list"; parameters = 0; arguments = Integers ∷ lists ∷ [] }

abbrev pub list_constructor : Identity → Option ConstructorTree
list_constructor c = cond (same_identity c (codes "list.h#nil")) (Some nil_constructor) (cond (same_identity c (codes "list.h#cons")) (Some cons_constructor) None)

-- an environment with fixpoints, each in front of those that it names
abbrev pub with_fixpoints : List FixpointTree → Environment
with_fixpoints fs = record {
  constructors = list_constructor;
  fixpoints = fs;
  claims = λ g t. false;
  predicates = λ q. None;
  bodies = λ b. None;
  functions = λ g. None;
  prototypes = λ g. None;
  types = λ t. None;
  called = λ g n. None;
  leaks = λ text. false;
  calls = λ text g. false;
}

-- the environment of the unit, and that of another unit which sees `length` and `append` alone
abbrev pub list_unit : Environment
list_unit = with_fixpoints (doubled_tree ∷ pick_tree ∷ append_tree ∷ length_tree ∷ [])

abbrev pub other_unit : Environment
other_unit = with_fixpoints (append_tree ∷ length_tree ∷ [])

abbrev pub list_units : List Environment
list_units = list_unit ∷ other_unit ∷ []

-- ---- a question
-- three names, the second of which is a number
abbrev pub xs : Term
xs = symbol Other 0

abbrev pub h : Term
h = symbol Integer 1

abbrev pub t : Term
t = symbol Other 2

-- where xs == cons(h, t), is length(xs) one more than length(t)?
abbrev pub list_question : Asked
list_question = record {
  unit = 0;
  definitions = list_definitions;
  path = literals.Equal xs (cons h t) ∷ [];
  goal = literals.Difference (length_of xs) (length_of t) (pos 1);
  answer = Proved;
}

-- `doubled(cons(7, nil))`
abbrev pub doubled_seven : Term
doubled_seven = term (Fixpoint Integer (codes "list.h#doubled")) (one (cons (number (pos 7)) nil))

-- The premises of the laws can be met: the unit's fixpoints stand in its environment, which is the linked one of the two units; the answer to the question is right; so its facts entail the goal. And the meaning of the environment computes
pub record ListsEntail : Type 0 where
  pub ordered : AreOrdered list_unit.fixpoints
  pub among : AreAmong list_unit.fixpoints list_definitions
  pub linked : IsLinked list_units list_unit
  pub right : IsRight list_question
  pub entails : Entails list_unit (map fact_of list_question.path) (fact_of list_question.goal)
  pub computes : (v : Valuation) → value_in list_unit v (meant doubled_seven) ≡ values.Number (pos 2)

-- ---- integers as whole numbers
-- fixpoint bool eq(int a, int b) { return a == b; }
abbrev pub eq_body : Body
eq_body = Returns (term (Compare Equal) (two (symbol Integer 0) (symbol Integer 1)))

abbrev pub eq_definition : definitions.Fixpoint
eq_definition = record { kind = kinds.Other; identity = codes "one.c#eq"; parameters = 2; body = eq_body }

abbrev pub eq_definitions : List definitions.Fixpoint
eq_definitions = eq_definition ∷ []

-- the fixpoint in the view, and as the text has it
abbrev pub eq_viewed : FixpointTree
eq_viewed = tree_of (codes "one.c#eq") (Integers ∷ Integers ∷ []) Truths eq_body

abbrev pub eq_plain : FixpointTree
eq_plain = record {
  identity = codes "one.c#eq";
  parameters = Integers ∷ Integers ∷ [];
  result = Truths;
  body = ghosts.Returns (ghosts.Compare Equal (ghosts.Variable (Numbered 0)) (ghosts.Variable (Numbered 1)));
}

-- Without the view the definitions of a unit are not met: the prover unfolds `eq` at every value, and takes what is no number for the number 0
pub record IntegersAreWhole : Type 0 where
  pub met : MeetsDefinitions (meaning (with_fixpoints (eq_viewed ∷ []))) eq_definitions
  pub plain_ordered : AreOrdered (with_fixpoints (eq_plain ∷ [])).fixpoints
  pub plain_is_not_met : MeetsDefinitions (meaning (with_fixpoints (eq_plain ∷ []))) eq_definitions → ⊥
