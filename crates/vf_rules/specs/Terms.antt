-- Terms: ghost expressions whose names are symbols. A store gives each name of an assertion its term.
use Rattle.std.specs.Prelude.{◌≡◌, cond, List, [], ◌∷◌, Option, Some, unwrap_or}
use Rattle.vf_meaning.specs.Ghost.{Name, same_name, GhostExpression, GhostExpressions, no_expressions, and_expression, Variable, Number, Truth, Fraction, Null, Function, Construct, Apply, PredicateValue, Claims, Negate, Arithmetic, PointerSum, Share, Compare, Not, And, Or, Choose}
use Rattle.vf_meaning.specs.Names.{Uses, UsesHead}
use Rattle.vf_meaning.specs.Assertions.{Head, BlockOf, Named, Family, Applied}

-- a term: an expression in which each name is a symbol
abbrev pub Term : Type 0
Term = GhostExpression

-- the term that each name of an assertion stands for; a name that is not bound yet has none
abbrev pub Store : Type 0
Store = Name → Option Term

-- the term of a name, and null for one that is not bound
abbrev pub term_named : Store → Name → Term
term_named s x = unwrap_or (s x) Null

-- an expression with the terms of its names in their place
abbrev mutual
  pub term_of : Store → GhostExpression → Term
  term_of s (Variable x) = term_named s x
  term_of s (Number z) = Number z
  term_of s (Truth b) = Truth b
  term_of s (Fraction d) = Fraction d
  term_of s Null = Null
  term_of s (Function g) = Function g
  term_of s (Construct c es) = Construct c (terms_of s es)
  term_of s (Apply f es) = Apply f (terms_of s es)
  term_of s (PredicateValue p es) = PredicateValue p (terms_of s es)
  term_of s (Claims t e) = Claims t (term_of s e)
  term_of s (Negate e) = Negate (term_of s e)
  term_of s (Arithmetic op a b) = Arithmetic op (term_of s a) (term_of s b)
  term_of s (PointerSum a b) = PointerSum (term_of s a) (term_of s b)
  term_of s (Share a b) = Share (term_of s a) (term_of s b)
  term_of s (Compare op a b) = Compare op (term_of s a) (term_of s b)
  term_of s (Not e) = Not (term_of s e)
  term_of s (And a b) = And (term_of s a) (term_of s b)
  term_of s (Or a b) = Or (term_of s a) (term_of s b)
  term_of s (Choose c a b) = Choose (term_of s c) (term_of s a) (term_of s b)

  -- the same for expressions in a row
  pub terms_of : Store → GhostExpressions → GhostExpressions
  terms_of s no_expressions = no_expressions
  terms_of s (and_expression e es) = and_expression (term_of s e) (terms_of s es)

-- the store with another term for one name
abbrev pub stored : Store → Name → Term → Store
stored s x t y = cond (same_name y x) (Some t) (s y)

-- terms in a row, as a constructor's arguments stand
abbrev pub in_row : List Term → GhostExpressions
in_row [] = no_expressions
in_row (t ∷ ts) = and_expression t (in_row ts)

-- a term times the terms of several names
abbrev pub times_terms : Store → Term → List Name → Term
times_terms s t [] = t
times_terms s t (y ∷ ys) = Share (times_terms s t ys) (term_named s y)

-- a head with the terms of its names
abbrev pub head_of : Store → Head → Head
head_of s (BlockOf g) = BlockOf g
head_of s (Named q) = Named q
head_of s (Family q e) = Family q (term_of s e)
head_of s (Applied e) = Applied (term_of s e)

-- each name that stands in an expression is bound
abbrev pub IsBound : Store → GhostExpression → Type 0
IsBound s e = (x : Name) → Uses e x → (t : Term) × (s x ≡ Some t)

-- each name that stands in a head is bound
abbrev pub IsBoundHead : Store → Head → Type 0
IsBoundHead s head = (x : Name) → UsesHead head x → (t : Term) × (s x ≡ Some t)

-- each of several names is bound
abbrev pub AreBound : Store → List Name → Type 0
AreBound s [] = Unit {0}
AreBound s (y ∷ ys) = ((t : Term) × (s y ≡ Some t)) × AreBound s ys
