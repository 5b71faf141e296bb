-- The value of a ghost expression, and fixpoints by their equations.
use Rattle.std.specs.Prelude.{ℕ, zero, suc, ℤ, pos, neg_ℤ, Bool, false, cond, not, ◌&&◌, ◌||◌, List, [], ◌∷◌, int_le, int_lt}
use Rattle.std.specs.Ordering.{int_eq}
use Rattle.vf_tree.specs.Core.{Identity, ArithmeticOperator, Add, Subtract, Multiply, Divide, Remainder, Comparison, Equal, NotEqual, Less, LessEqual, Greater, GreaterEqual}
use Rattle.vf_model.specs.Values.{Value, Values, none, more, number_of, same_identity}
use Rattle.vf_model.specs.Values as values
use Rattle.vf_model.specs.Integers.{arithmetic}
use Rattle.vf_meaning.specs.Fractions.{product}
use Rattle.vf_meaning.specs.Ghost.{GhostExpression, GhostExpressions, no_expressions, and_expression, Variable, Number, Truth, Fraction, Null, Function, Construct, Apply, PredicateValue, Claims, Negate, Arithmetic, PointerSum, Share, Compare, Not, And, Or, Choose, CaseTree, FixpointTree, FixpointBody, Returns, Switches}
use Rattle.vf_meaning.specs.Valuations.{Valuation, no_value, value_at, size, is_same, is_true, further, all_bound, of_arguments}

-- what the declarations give to expressions: which function's declaration claims which function type, and the value of each fixpoint at arguments
pub record Interpretation : Type 0 where
  pub claims : Identity → Identity → Bool
  pub fixpoint : Identity → Values → Value

-- Ghost arithmetic has no range: division truncates toward zero, the remainder has the sign of the dividend, and either by 0 is 0
abbrev pub computed : ArithmeticOperator → ℤ → ℤ → ℤ
computed Add a b = arithmetic Add a b
computed Subtract a b = arithmetic Subtract a b
computed Multiply a b = arithmetic Multiply a b
computed Divide a b = cond (int_eq b (pos 0)) (pos 0) (arithmetic Divide a b)
computed Remainder a b = cond (int_eq b (pos 0)) (pos 0) (arithmetic Remainder a b)

-- what a comparison says of two values: values of every sort are compared for equality, and numbers by their order
abbrev pub compared : Comparison → Value → Value → Bool
compared Equal v w = is_same v w
compared NotEqual v w = not (is_same v w)
compared Less v w = int_lt (number_of v) (number_of w)
compared LessEqual v w = int_le (number_of v) (number_of w)
compared Greater v w = int_lt (number_of w) (number_of v)
compared GreaterEqual v w = int_le (number_of w) (number_of v)

-- the product of two fractions; what is no fraction has none
abbrev pub shared : Value → Value → Value
shared (values.Fraction c) (values.Fraction d) = values.Fraction (product c d)
shared _ _ = no_value

-- whether a value is a function whose declaration claims the function type
abbrev pub claimed : Interpretation → Identity → Value → Bool
claimed i t (values.Function g) = i.claims g t
claimed i t _ = false

-- the value of a ghost expression, by recursion
abbrev mutual
  pub value_of : Interpretation → Valuation → GhostExpression → Value
  value_of i v (Variable x) = v x
  value_of i v (Number z) = values.Number z
  value_of i v (Truth b) = values.Truth b
  value_of i v (Fraction d) = values.Fraction d
  value_of i v Null = values.Null
  value_of i v (Function g) = values.Function g
  value_of i v (Construct c es) = values.Constructed c (values_of i v es)
  value_of i v (Apply f es) = i.fixpoint f (values_of i v es)
  value_of i v (PredicateValue p es) = values.Predicate p (values_of i v es)
  value_of i v (Claims t e) = values.Truth (claimed i t (value_of i v e))
  value_of i v (Negate e) = values.Number (neg_ℤ (number_of (value_of i v e)))
  value_of i v (Arithmetic op a b) = values.Number (computed op (number_of (value_of i v a)) (number_of (value_of i v b)))
  value_of i v (PointerSum p n) = further (value_of i v p) (number_of (value_of i v n))
  value_of i v (Share a b) = shared (value_of i v a) (value_of i v b)
  value_of i v (Compare op a b) = values.Truth (compared op (value_of i v a) (value_of i v b))
  value_of i v (Not e) = values.Truth (not (is_true (value_of i v e)))
  value_of i v (And a b) = values.Truth (is_true (value_of i v a) && is_true (value_of i v b))
  value_of i v (Or a b) = values.Truth (is_true (value_of i v a) || is_true (value_of i v b))
  value_of i v (Choose c a b) = cond (is_true (value_of i v c)) (value_of i v a) (value_of i v b)

  pub values_of : Interpretation → Valuation → GhostExpressions → Values
  values_of i v no_expressions = none
  values_of i v (and_expression e es) = more (value_of i v e) (values_of i v es)

-- what the case of a constructor returns, its names having the constructor's arguments
abbrev pub by_case : Interpretation → Valuation → List CaseTree → Value → Value
by_case i v [] w = no_value
by_case i v (c ∷ cs) (values.Constructed d ws) =
    cond (same_identity c.constructor d) (value_of i (all_bound v c.names ws) c.result) (by_case i v cs (values.Constructed d ws))
by_case i v (c ∷ cs) w = no_value

-- what the body of a fixpoint returns at arguments
abbrev pub by_body : Interpretation → FixpointBody → Values → Value
by_body i (Returns e) vs = value_of i (of_arguments vs) e
by_body i (Switches k cases) vs = by_case i (of_arguments vs) cases (value_at vs k)

-- the interpretation with another value for one fixpoint
abbrev pub with_fixpoint : Interpretation → Identity → (Values → Value) → Interpretation
with_fixpoint i f new = record i { fixpoint = λ g vs. cond (same_identity g f) (new vs) (i.fixpoint g vs) }

-- A fixpoint unfolded at most n times over what is declared before it: by its equation, its own name standing for one unfolding less
abbrev pub unfolded : Interpretation → FixpointTree → ℕ → Values → Value
unfolded i f zero vs = no_value
unfolded i f (suc n) vs = by_body (with_fixpoint i f.identity (unfolded i f n)) f.body vs

-- how often a fixpoint can be unfolded at arguments, where each use of itself is at an argument of what it switches over
abbrev pub unfoldings : FixpointBody → Values → ℕ
unfoldings (Returns e) vs = 1
unfoldings (Switches k cases) vs = suc (size (value_at vs k))

-- what claims and fixpoints give, the fixpoints standing in a list in which each comes before those that it names
abbrev pub interpreted : (Identity → Identity → Bool) → List FixpointTree → Interpretation
interpreted claims [] = record { claims = claims; fixpoint = λ f vs. no_value }
interpreted claims (f ∷ fs) = with_fixpoint (interpreted claims fs) f.identity (λ vs. unfolded (interpreted claims fs) f (unfoldings f.body vs) vs)
