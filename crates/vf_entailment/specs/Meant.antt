-- The ghost expressions that terms of questions mean: the view of terms by which a rule reads what the prover answers.
use Rattle.std.specs.Prelude.{ℕ, zero, suc, ℤ, pos, List, ◌∷◌}
use Rattle.vf_tree.specs.Core.{Add, Multiply}
use Rattle.vf_model.specs.Values.{Dyadic}
use Rattle.vf_meaning.specs.Ghost.{GhostExpression, GhostExpressions, no_expressions, and_expression}
use Rattle.vf_meaning.specs.Ghost as ghosts
use Rattle.vf_closure.specs.Terms.{Kind, Integer, Other, Head, Symbol, Number, Truth, Null, Function, Constructor, Fixpoint, Claims, Predicate, Share, Sum, Plus, Arithmetic, Compare, Not, And, Or, Choose, PointerSum, Term, Terms, term, no_terms, and_term}

-- an expression as a kind has it: what is of the kind of integers is read as a whole number whatever its value, as `x + 0`
abbrev pub of_kind : Kind → GhostExpression → GhostExpression
of_kind Integer x = ghosts.Arithmetic Add x (ghosts.Number (pos 0))
of_kind Other x = x

-- the expression at a place in a row, counted from 0; where there is none, the number 0
abbrev pub expression_at : GhostExpressions → ℕ → GhostExpression
expression_at no_expressions k = ghosts.Number (pos 0)
expression_at (and_expression x xs) zero = x
expression_at (and_expression x xs) (suc k) = expression_at xs k

-- a fraction times the fractions in a row
abbrev pub shared_with : Dyadic → GhostExpressions → GhostExpression
shared_with d no_expressions = ghosts.Fraction d
shared_with d (and_expression x xs) = ghosts.Share (shared_with d xs) x

-- numbers in a row, each times its factor, added up
abbrev pub summed : List ℤ → GhostExpressions → GhostExpression
summed (k ∷ ks) (and_expression x xs) = ghosts.Arithmetic Add (ghosts.Arithmetic Multiply (ghosts.Number k) x) (summed ks xs)
summed _ _ = ghosts.Number (pos 0)

-- a head over parts: a symbol, an application and a conditional as their kind has them, and the others as they are, which are of their kind whatever stands in them
abbrev pub meant_over : Head → GhostExpressions → GhostExpression
meant_over (Symbol k x) xs = of_kind k (ghosts.Variable x)
meant_over (Number z) xs = ghosts.Number z
meant_over (Truth b) xs = ghosts.Truth b
meant_over Null xs = ghosts.Null
meant_over (Function g) xs = ghosts.Function g
meant_over (Constructor c) xs = ghosts.Construct c xs
meant_over (Fixpoint k f) xs = of_kind k (ghosts.Apply f xs)
meant_over (Claims t) xs = ghosts.Claims t (expression_at xs 0)
meant_over (Predicate p) xs = ghosts.PredicateValue p xs
meant_over (Share d) xs = shared_with d xs
meant_over (Sum factors) xs = summed factors xs
meant_over Plus xs = ghosts.Arithmetic Add (expression_at xs 0) (expression_at xs 1)
meant_over (Arithmetic op) xs = ghosts.Arithmetic op (expression_at xs 0) (expression_at xs 1)
meant_over (Compare op) xs = ghosts.Compare op (expression_at xs 0) (expression_at xs 1)
meant_over Not xs = ghosts.Not (expression_at xs 0)
meant_over And xs = ghosts.And (expression_at xs 0) (expression_at xs 1)
meant_over Or xs = ghosts.Or (expression_at xs 0) (expression_at xs 1)
meant_over (Choose k) xs = of_kind k (ghosts.Choose (expression_at xs 0) (expression_at xs 1) (expression_at xs 2))
meant_over PointerSum xs = ghosts.PointerSum (expression_at xs 0) (expression_at xs 1)

abbrev mutual
  -- the expression that a term means
  pub meant : Term → GhostExpression
  meant (term h ts) = meant_over h (all_meant ts)

  -- the same of terms in a row
  pub all_meant : Terms → GhostExpressions
  all_meant no_terms = no_expressions
  all_meant (and_term t ts) = and_expression (meant t) (all_meant ts)
