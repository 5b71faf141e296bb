-- Terms that have a sort by the sorts of their symbols and by what is declared.
use Rattle.std.specs.Prelude.{◌≡◌, ℕ, ℤ, Bool, List, [], ◌∷◌, ◌++◌, map, Option, Some}
use Rattle.vf_tree.specs.Core.{Identity, ArithmeticOperator, Comparison}
use Rattle.vf_model.specs.Values.{Dyadic, Values}
use Rattle.vf_meaning.specs.Fractions.{IsPositive}
use Rattle.vf_meaning.specs.Ghost.{Sort, Integers, Truths, Pointers, Fractions, Anything, Datatype, Predicates, Sorts, count_sorts, instance_of, CurrentThread, GhostExpressions, no_expressions, and_expression, Variable, Number, Truth, Fraction, Null, Function, Construct, Apply, PredicateValue, Claims, Negate, Arithmetic, PointerSum, Share, Compare, Not, And, Or, Choose, ConstructorTree}
use Rattle.vf_meaning.specs.Ghost as ghost
use Rattle.vf_meaning.specs.Assertions.{PredicateTree, Environment}
use Rattle.vf_meaning.specs.Sorts.{HasSort, HaveSorts}
use Rattle.vf_rules.specs.Terms.{Term}
use Rattle.vf_rules.specs.States.{meaning}
use Rattle.vf_rules.specs.Fresh.{symbol}

-- a fixpoint keeps sorts: at values of some sorts its value is of a sort
abbrev pub KeepsSorts : Environment → Identity → List Sort → Sort → Type 0
KeepsSorts e f sorts s = (vs : Values) → HaveSorts e vs sorts → HasSort e ((meaning e).fixpoint f vs) s

-- A term is of a sort: a symbol of its own, a constant and an operator of theirs, a constructor's term of its datatype at some sorts where its arguments are of the constructor's sorts there, a fixpoint's of a sort that it keeps, a predicate value of that of the arguments that are left; and each term that is of a sort is of any sort
mutual
  pub data IsOfSort (e : Environment) (kinds : ℕ → Option Sort) : Term → Sort → Type 0 where
    any_symbol : {s : Sort} (y : ℕ) → kinds y ≡ Some s → IsOfSort e kinds (symbol y) s
    the_thread : IsOfSort e kinds (Variable CurrentThread) Integers
    a_number : (z : ℤ) → IsOfSort e kinds (Number z) Integers
    a_truth : (b : Bool) → IsOfSort e kinds (Truth b) Truths
    a_fraction : (d : Dyadic) → IsPositive d → IsOfSort e kinds (Fraction d) Fractions
    the_null : IsOfSort e kinds Null Pointers
    a_function : (g : Identity) → IsOfSort e kinds (Function g) Pointers
    a_construct : {ts : GhostExpressions} (c : Identity) (k : ConstructorTree) (ss : Sorts) → e.constructors c ≡ Some k → count_sorts ss ≡ k.parameters → AreOfSorts e kinds ts (map (instance_of ss) k.arguments)
        → IsOfSort e kinds (Construct c ts) (Datatype k.datatype ss)
    an_application : {ts : GhostExpressions} {s : Sort} (f : Identity) (sorts : List Sort) → KeepsSorts e f sorts s → AreOfSorts e kinds ts sorts → IsOfSort e kinds (Apply f ts) s
    a_predicate : {ts : GhostExpressions} (q : Identity) (k : PredicateTree) (first : List Sort) (others : Sorts) → e.predicates q ≡ Some k → k.first ++ k.others ≡ first ++ ghost.listed others → AreOfSorts e kinds ts first
        → IsOfSort e kinds (PredicateValue q ts) (Predicates others)
    a_claim : (type : Identity) (t : Term) → IsOfSort e kinds (Claims type t) Truths
    a_negation : (t : Term) → IsOfSort e kinds (Negate t) Integers
    a_computation : (op : ArithmeticOperator) (t u : Term) → IsOfSort e kinds (Arithmetic op t u) Integers
    a_pointer_sum : {t : Term} (u : Term) → IsOfSort e kinds t Pointers → IsOfSort e kinds (PointerSum t u) Pointers
    a_share : {t u : Term} → IsOfSort e kinds t Fractions → IsOfSort e kinds u Fractions → IsOfSort e kinds (Share t u) Fractions
    a_comparison : (op : Comparison) (t u : Term) → IsOfSort e kinds (Compare op t u) Truths
    a_denial : (t : Term) → IsOfSort e kinds (Not t) Truths
    a_conjunction : (t u : Term) → IsOfSort e kinds (And t u) Truths
    a_disjunction : (t u : Term) → IsOfSort e kinds (Or t u) Truths
    a_choice : {t u : Term} {s : Sort} (c : Term) → IsOfSort e kinds t s → IsOfSort e kinds u s → IsOfSort e kinds (Choose c t u) s
    of_any : {t : Term} {s : Sort} → IsOfSort e kinds t s → IsOfSort e kinds t Anything

  -- terms in a row are of sorts, one by one
  pub data AreOfSorts (e : Environment) (kinds : ℕ → Option Sort) : GhostExpressions → List Sort → Type 0 where
    none_of_sorts : AreOfSorts e kinds no_expressions []
    more_of_sorts : {t : Term} {ts : GhostExpressions} {s : Sort} {sorts : List Sort} → IsOfSort e kinds t s → AreOfSorts e kinds ts sorts → AreOfSorts e kinds (and_expression t ts) (s ∷ sorts)
