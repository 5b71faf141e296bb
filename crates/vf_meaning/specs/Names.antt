-- Which names stand in ghost expressions and in assertions.
use Rattle.std.specs.Prelude.{◌≡◌, ◌⊎◌, List, [], ◌∷◌, Contains}
use Rattle.vf_meaning.specs.Ghost.{Name, GhostExpression, GhostExpressions, no_expressions, and_expression, Variable, Number, Truth, Fraction, Null, Function, Construct, Apply, PredicateValue, Claims, Negate, Arithmetic, PointerSum, Share, Compare, Not, And, Or, Choose}
use Rattle.vf_meaning.specs.Assertions.{ShareTree, Times, Taken, PatternTree, Is, Names, Wild, Head, BlockOf, Named, Family, Applied, Assertion, Pure, Empty, Both, Switch, Cell, Chunk, Branches, no_branches, branch}
use Rattle.vf_meaning.specs.Assertions as assertions

-- a name stands in an expression
abbrev mutual
  pub Uses : GhostExpression → Name → Type 0
  Uses (Variable y) x = y ≡ x
  Uses (Number z) x = ⊥
  Uses (Truth b) x = ⊥
  Uses (Fraction d) x = ⊥
  Uses Null x = ⊥
  Uses (Function g) x = ⊥
  Uses (Construct c es) x = UsesAny es x
  Uses (Apply f es) x = UsesAny es x
  Uses (PredicateValue p es) x = UsesAny es x
  Uses (Claims t e) x = Uses e x
  Uses (Negate e) x = Uses e x
  Uses (Arithmetic op a b) x = Uses a x ⊎ Uses b x
  Uses (PointerSum a b) x = Uses a x ⊎ Uses b x
  Uses (Share a b) x = Uses a x ⊎ Uses b x
  Uses (Compare op a b) x = Uses a x ⊎ Uses b x
  Uses (Not e) x = Uses e x
  Uses (And a b) x = Uses a x ⊎ Uses b x
  Uses (Or a b) x = Uses a x ⊎ Uses b x
  Uses (Choose c a b) x = Uses c x ⊎ (Uses a x ⊎ Uses b x)

  -- a name stands in one of several expressions
  pub UsesAny : GhostExpressions → Name → Type 0
  UsesAny no_expressions x = ⊥
  UsesAny (and_expression e es) x = Uses e x ⊎ UsesAny es x

-- a name stands in a share
abbrev pub UsesShare : ShareTree → Name → Type 0
UsesShare (Times x ys) y = Contains ys y
UsesShare (Taken z) y = z ≡ y

-- a name stands in a pattern
abbrev pub UsesPattern : PatternTree → Name → Type 0
UsesPattern (Is e) x = Uses e x
UsesPattern (Names y) x = y ≡ x
UsesPattern Wild x = ⊥

-- a name stands in one of several patterns
abbrev pub UsesPatterns : List PatternTree → Name → Type 0
UsesPatterns [] x = ⊥
UsesPatterns (p ∷ ps) x = UsesPattern p x ⊎ UsesPatterns ps x

-- a name stands in the head of a chunk
abbrev pub UsesHead : Head → Name → Type 0
UsesHead (BlockOf g) x = ⊥
UsesHead (Named q) x = ⊥
UsesHead (Family q e) x = Uses e x
UsesHead (Applied e) x = Uses e x

-- a name stands in an assertion
abbrev mutual
  pub UsesIn : Assertion → Name → Type 0
  UsesIn (Pure e) x = Uses e x
  UsesIn Empty x = ⊥
  UsesIn (Both a b) x = UsesIn a x ⊎ UsesIn b x
  UsesIn (assertions.Choose c a b) x = Uses c x ⊎ (UsesIn a x ⊎ UsesIn b x)
  UsesIn (Switch e branches) x = Uses e x ⊎ UsesBranch branches x
  UsesIn (Cell share e f p) x = UsesShare share x ⊎ (Uses e x ⊎ UsesPattern p x)
  UsesIn (Chunk share head ps) x = UsesShare share x ⊎ (UsesHead head x ⊎ UsesPatterns ps x)

  -- a name stands in one of the branches
  pub UsesBranch : Branches → Name → Type 0
  UsesBranch no_branches x = ⊥
  UsesBranch (branch c ys a rest) x = UsesIn a x ⊎ UsesBranch rest x
