-- The value of a term.
use Rattle.std.specs.Prelude.{ℤ, pos, ◌+ℤ◌, ◌*ℤ◌, not, ◌&&◌, ◌||◌, cond, List, ◌∷◌, Option, Some, None}
use Rattle.vf_model.specs.Values.{Dyadic, Value, Values, none, more, number_of}
use Rattle.vf_model.specs.Values as values
use Rattle.vf_meaning.specs.Valuations.{Valuation, no_value, value_at, is_true, fraction_in, further}
use Rattle.vf_meaning.specs.GhostValues.{Interpretation, computed, compared, claimed}
use Rattle.vf_meaning.specs.Chunks.{product_if}
use Rattle.vf_closure.specs.Terms.{Kind, Integer, Other, Head, Symbol, Number, Truth, Null, Function, Constructor, Fixpoint, Claims, Predicate, Share, Sum, Plus, Arithmetic, Compare, Not, And, Or, Choose, PointerSum, Term, Terms, term, no_terms, and_term, kind_of}

-- the sum of numbers, each times its factor
abbrev pub weighed : List ℤ → Values → ℤ
weighed (k ∷ ks) (more v vs) = (k *ℤ number_of v) +ℤ weighed ks vs
weighed _ _ = pos 0

-- a fraction times several, if each of them is a fraction
abbrev pub times : Dyadic → Values → Option Dyadic
times x none = Some x
times x (more v vs) = product_if (times x vs) (fraction_in v)

-- a fraction as a value
abbrev pub share_value : Option Dyadic → Value
share_value (Some x) = values.Fraction x
share_value None = no_value

-- what a head makes of the values of its parts
abbrev pub applied : Interpretation → Valuation → Head → Values → Value
applied i v (Symbol k x) vs = v x
applied i v (Number z) vs = values.Number z
applied i v (Truth b) vs = values.Truth b
applied i v Null vs = values.Null
applied i v (Function g) vs = values.Function g
applied i v (Constructor c) vs = values.Constructed c vs
applied i v (Fixpoint k f) vs = i.fixpoint f vs
applied i v (Claims t) vs = values.Truth (claimed i t (value_at vs 0))
applied i v (Predicate p) vs = values.Predicate p vs
applied i v (Share x) vs = share_value (times x vs)
applied i v (Sum factors) vs = values.Number (weighed factors vs)
applied i v Plus vs = values.Number (number_of (value_at vs 0) +ℤ number_of (value_at vs 1))
applied i v (Arithmetic op) vs = values.Number (computed op (number_of (value_at vs 0)) (number_of (value_at vs 1)))
applied i v (Compare op) vs = values.Truth (compared op (value_at vs 0) (value_at vs 1))
applied i v Not vs = values.Truth (not (is_true (value_at vs 0)))
applied i v And vs = values.Truth (is_true (value_at vs 0) && is_true (value_at vs 1))
applied i v Or vs = values.Truth (is_true (value_at vs 0) || is_true (value_at vs 1))
applied i v (Choose k) vs = cond (is_true (value_at vs 0)) (value_at vs 1) (value_at vs 2)
applied i v PointerSum vs = further (value_at vs 0) (number_of (value_at vs 1))

-- a value as a kind has it: of an integer term the number; where sorts are right it is the value itself
abbrev pub of_kind : Kind → Value → Value
of_kind Integer v = values.Number (number_of v)
of_kind Other v = v

-- the value of a term, by recursion
abbrev mutual
  pub value : Interpretation → Valuation → Term → Value
  value i v (term h ts) = of_kind (kind_of h) (applied i v h (all_values i v ts))

  -- the values of terms in a row
  pub all_values : Interpretation → Valuation → Terms → Values
  all_values i v no_terms = none
  all_values i v (and_term t ts) = more (value i v t) (all_values i v ts)
