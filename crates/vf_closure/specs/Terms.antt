-- Terms of questions as pure data: a head over parts.
use Rattle.std.specs.Prelude.{ℕ, zero, suc, ℤ, Bool, List}
use Rattle.vf_tree.specs.Core.{Identity, ArithmeticOperator, Comparison}
use Rattle.vf_model.specs.Values.{Dyadic}
use Rattle.vf_meaning.specs.Ghost.{Name}

-- an integer term has a number for its value; the others have values of every other sort
pub data Kind : Type 0 where
  Integer Other : Kind

-- What stands above the parts of a term, in the order in which the atoms of a sum stand. Symbol is a name without parts; Constructor a constructor's term; Fixpoint an application; Claims whether its part is a function that claims the function type; Predicate a predicate, or a constructor of predicates, at its first arguments; Share a fraction times the fractions that are its parts; Sum its parts times these factors, added up; Plus a sum and a number; Arithmetic a product, a quotient or a remainder of two terms, or a sum or difference that is too large to be normal; Choose a conditional
pub data Head : Type 0 where
  Symbol : Kind → Name → Head
  Number : ℤ → Head
  Truth : Bool → Head
  Null : Head
  Function : Identity → Head
  Constructor : Identity → Head
  Fixpoint : Kind → Identity → Head
  Claims : Identity → Head
  Predicate : Identity → Head
  Share : Dyadic → Head
  Sum : List ℤ → Head
  Plus : Head
  Arithmetic : ArithmeticOperator → Head
  Compare : Comparison → Head
  Not And Or : Head
  Choose : Kind → Head
  PointerSum : Head

-- a term is a head over terms in a row
mutual
  pub data Term : Type 0 where
    term : Head → Terms → Term

  pub data Terms : Type 0 where
    no_terms : Terms
    and_term : Term → Terms → Terms

-- the kind of the terms with a head
abbrev pub kind_of : Head → Kind
kind_of (Symbol k x) = k
kind_of (Number z) = Integer
kind_of (Fixpoint k f) = k
kind_of (Sum factors) = Integer
kind_of Plus = Integer
kind_of (Arithmetic op) = Integer
kind_of (Choose k) = k
kind_of _ = Other

-- the term of a number
abbrev pub number : ℤ → Term
number z = term (Number z) no_terms

-- a sum and a number
abbrev pub plus : Term → ℤ → Term
plus q c = term Plus (and_term q (and_term (number c) no_terms))

-- how many terms stand in a row
abbrev pub count : Terms → ℕ
count no_terms = 0
count (and_term t ts) = suc (count ts)

-- the first is the part at a place of the second, counted from 0
pub data IsAt : Term → ℕ → Terms → Type 0 where
  here : {t : Term} {ts : Terms} → IsAt t zero (and_term t ts)
  further_on : {t u : Term} {i : ℕ} {ts : Terms} → IsAt t i ts → IsAt t (suc i) (and_term u ts)

-- the first is the second, or a subterm of it
pub data IsWithin : Term → Term → Type 0 where
  itself : {t : Term} → IsWithin t t
  below : {t u : Term} {i : ℕ} {h : Head} {ts : Terms} → IsAt u i ts → IsWithin t u → IsWithin t (term h ts)
