-- Ghost expressions as pure data, with their sorts and names.
use Rattle.std.specs.Prelude.{ℕ, zero, suc, ℤ, Bool, true, false, List, [], ◌∷◌, ◌==◌}
use Rattle.vf_tree.specs.Core.{Identity, ArithmeticOperator, Comparison}
use Rattle.vf_model.specs.Values.{Dyadic}

-- The sorts of ghost values: whole numbers, truth values, pointers of every type, positive fractions, any sort, a type parameter by its number, which is a sort of no value, a datatype at sorts for its type parameters, and predicates over arguments of some sorts
mutual
  pub data Sort : Type 0 where
    Integers Truths Pointers Fractions Anything : Sort
    Parameter : ℕ → Sort
    Datatype : Identity → Sorts → Sort
    Predicates : Sorts → Sort

  -- sorts in a row
  pub data Sorts : Type 0 where
    none : Sorts
    more : Sort → Sorts → Sorts

-- sorts in a row as a list
abbrev pub listed : Sorts → List Sort
listed none = []
listed (more s ss) = s ∷ listed ss

-- how many sorts stand in a row
abbrev pub count_sorts : Sorts → ℕ
count_sorts none = 0
count_sorts (more s ss) = suc (count_sorts ss)

-- the sort at a place in a row, counted from 0, and any sort where there is none
abbrev pub sort_at : Sorts → ℕ → Sort
sort_at none k = Anything
sort_at (more s ss) zero = s
sort_at (more s ss) (suc k) = sort_at ss k

-- the instance of a sort: each type parameter is replaced by the sort at its place
abbrev mutual
  pub instance_of : Sorts → Sort → Sort
  instance_of ts Integers = Integers
  instance_of ts Truths = Truths
  instance_of ts Pointers = Pointers
  instance_of ts Fractions = Fractions
  instance_of ts Anything = Anything
  instance_of ts (Parameter k) = sort_at ts k
  instance_of ts (Datatype d ss) = Datatype d (instances_of ts ss)
  instance_of ts (Predicates ss) = Predicates (instances_of ts ss)

  -- the instances of sorts in a row
  pub instances_of : Sorts → Sorts → Sorts
  instances_of ts none = none
  instances_of ts (more s ss) = more (instance_of ts s) (instances_of ts ss)

-- What stands for a value in ghost text: a name by its number, in the order of declaration with the parameters first, and the three names that contracts have
pub data Name : Type 0 where
  Numbered : ℕ → Name
  Result This CurrentThread : Name

-- whether two names are one
abbrev pub same_name : Name → Name → Bool
same_name (Numbered i) (Numbered j) = i == j
same_name Result Result = true
same_name This This = true
same_name CurrentThread CurrentThread = true
same_name _ _ = false

-- Fraction is a dyadic fraction, and Share the product of two fractions. Construct is a constructor's term, Apply a fixpoint at arguments, PredicateValue a predicate, or a constructor of predicates at its first arguments; Claims T e asks whether e is a function whose declaration claims the function type T
mutual
  pub data GhostExpression : Type 0 where
    Variable : Name → GhostExpression
    Number : ℤ → GhostExpression
    Truth : Bool → GhostExpression
    Fraction : Dyadic → GhostExpression
    Null : GhostExpression
    Function : Identity → GhostExpression
    Construct : Identity → GhostExpressions → GhostExpression
    Apply : Identity → GhostExpressions → GhostExpression
    PredicateValue : Identity → GhostExpressions → GhostExpression
    Claims : Identity → GhostExpression → GhostExpression
    Negate : GhostExpression → GhostExpression
    Arithmetic : ArithmeticOperator → GhostExpression → GhostExpression → GhostExpression
    PointerSum : GhostExpression → GhostExpression → GhostExpression
    Share : GhostExpression → GhostExpression → GhostExpression
    Compare : Comparison → GhostExpression → GhostExpression → GhostExpression
    Not : GhostExpression → GhostExpression
    And Or : GhostExpression → GhostExpression → GhostExpression
    Choose : GhostExpression → GhostExpression → GhostExpression → GhostExpression

  -- expressions in a row, as arguments stand
  pub data GhostExpressions : Type 0 where
    no_expressions : GhostExpressions
    and_expression : GhostExpression → GhostExpressions → GhostExpressions

-- a constructor of a datatype, with the number of the datatype's type parameters, and the sorts of its arguments, in which the type parameters are sorts of their own
pub record ConstructorTree : Type 0 where
  pub datatype : Identity
  pub parameters : ℕ
  pub arguments : List Sort

-- a case of a fixpoint: its constructor, the names of the constructor's arguments, and what is returned
pub record CaseTree : Type 0 where
  pub constructor : Identity
  pub names : List Name
  pub result : GhostExpression

-- what a fixpoint returns: an expression, or one for each constructor of the parameter that it switches over
pub data FixpointBody : Type 0 where
  Returns : GhostExpression → FixpointBody
  Switches : ℕ → List CaseTree → FixpointBody

-- a fixpoint: a function on values, which may name itself and those declared before; in the sorts of its parameters and of its result its type parameters are sorts of their own
pub record FixpointTree : Type 0 where
  pub identity : Identity
  pub parameters : List Sort
  pub result : Sort
  pub body : FixpointBody
