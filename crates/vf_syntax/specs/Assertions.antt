-- How shares, patterns and assertions are spelled, and how deep they nest.
use Rattle.std.specs.Prelude.{ℕ, ◌+◌, max, Bool, true, false, not, ◌&&◌, ◌||◌, if◌then◌else◌, List, [], ◌∷◌, Option, Some, None}
use Rattle.vf_lexer.specs.declared.punctuator.Punctuator.TheVariants as punctuators
use Rattle.vf_syntax.specs.declared.keyword.Keyword.TheVariants as keywords
use Rattle.vf_syntax.specs.declared.side.Side.TheVariants.{Ghost}
use Rattle.vf_syntax.specs.declared.written.Name.{Name}
use Rattle.vf_syntax.specs.declared.pattern.Pattern.{Pattern}
use Rattle.vf_syntax.specs.declared.pattern.Pattern.TheVariants as patterns
use Rattle.vf_syntax.specs.declared.pattern.Share.{Share}
use Rattle.vf_syntax.specs.declared.pattern.Amount.{Amount}
use Rattle.vf_syntax.specs.declared.pattern.Amount.TheVariants as amounts
use Rattle.vf_syntax.specs.declared.pattern.Factor.{Factor}
use Rattle.vf_syntax.specs.declared.pattern.Factor.TheVariants as factors
use Rattle.vf_syntax.specs.declared.pattern.FactorLink.{FactorLink}
use Rattle.vf_syntax.specs.declared.pattern.CasePattern.{CasePattern}
use Rattle.vf_syntax.specs.AssertionTree.{PartTree, PartTrees, AssertionCaseTree, AssertionCaseTrees, no_part, more_part, no_assertion_case, more_assertion_case}
use Rattle.vf_syntax.specs.AssertionTree as tree
use Rattle.vf_syntax.specs.Walks.{Walk, ◌⨾◌, nothing, never, provided, at, mark, word, number, wild}
use Rattle.vf_syntax.specs.Written.{name}
use Rattle.vf_syntax.specs.Lists.{optional, each, separated, greatest, or_none}
use Rattle.vf_syntax.specs.GhostExpressions.{ghost_expr, ghost_nesting, is_application}

-- a factor of a share: a number or a name
abbrev pub factor : Factor → Walk
factor (factors.Number n ty p) = at p ⨾ number Ghost n ty
factor (factors.Name n) = name Ghost n

-- `*` or `/` and a factor
unfoldable pub factor_link : FactorLink → Walk
factor_link l = mark Ghost (if l.divides then punctuators.Slash else punctuators.Star) ⨾ factor l.factor

-- what stands between the brackets of a share
abbrev pub amount : Amount → Walk
amount (amounts.Binds p n) = at p ⨾ mark Ghost punctuators.Question ⨾ name Ghost n
amount (amounts.Product f links) = factor f ⨾ each factor_link links

-- a share: "[" ( factors | "?" NAME ) "]"
unfoldable pub share : Share → Walk
share s = at s.place ⨾ mark Ghost punctuators.OpenBracket ⨾ amount s.amount ⨾ mark Ghost punctuators.CloseBracket

-- a pattern: an expression, "?" NAME or "_"
unfoldable pub pattern : Pattern → Walk
pattern (patterns.Is e) = ghost_expr e
pattern (patterns.Binds p n) = at p ⨾ mark Ghost punctuators.Question ⨾ name Ghost n
pattern (patterns.Wild p) = at p ⨾ wild

-- patterns between parentheses
unfoldable pub pattern_list : List Pattern → Walk
pattern_list xs = mark Ghost punctuators.OpenParenthesis ⨾ separated Ghost pattern xs ⨾ mark Ghost punctuators.CloseParenthesis

-- names between parentheses
unfoldable pub name_list : List Name → Walk
name_list xs = mark Ghost punctuators.OpenParenthesis ⨾ separated Ghost (name Ghost) xs ⨾ mark Ghost punctuators.CloseParenthesis

-- what a case is for: a constructor, and names where there are parentheses
unfoldable pub case_pattern : CasePattern → Walk
case_pattern c = name Ghost c.constructor ⨾ optional name_list c.names

-- a pattern is an expression
abbrev pub is_value_pattern : Pattern → Bool
is_value_pattern (patterns.Is e) = true
is_value_pattern p = false

-- all patterns are expressions
abbrev pub are_value_patterns : List Pattern → Bool
are_value_patterns [] = true
are_value_patterns (x ∷ xs) = is_value_pattern x && are_value_patterns xs

-- a part that an expression spells too: a pure part, or a chunk that is an application
abbrev pub is_value : PartTree → Bool
is_value (tree.pure p e) = true
is_value (tree.chunk p None n first None) = are_value_patterns first
is_value x = false

-- an assertion that is one such part
abbrev pub is_lone_value : PartTrees → Bool
is_lone_value (more_part x no_part) = is_value x
is_lone_value xs = false

-- a part is one, or a conditional with such branches: in parentheses an expression
abbrev pub is_content : PartTree → Bool
is_content (tree.conditional p c a b) = is_lone_value a && is_lone_value b
is_content x = is_value x

-- an assertion that is an expression where it stands in parentheses
abbrev pub is_expression : PartTrees → Bool
is_expression (more_part x no_part) = is_content x
is_expression xs = false

-- a part is a conditional
abbrev pub is_conditional : PartTree → Bool
is_conditional (tree.conditional p c a b) = true
is_conditional x = false

-- no part is a conditional
abbrev pub has_no_conditional : PartTrees → Bool
has_no_conditional no_part = true
has_no_conditional (more_part x xs) = not (is_conditional x) && has_no_conditional xs

-- there is no part
abbrev pub is_empty : PartTrees → Bool
is_empty no_part = true
is_empty (more_part x xs) = false

-- a conditional is the last part, since it takes everything to its right
abbrev pub is_conditional_last : PartTrees → Bool
is_conditional_last no_part = true
is_conditional_last (more_part x xs) = (not (is_conditional x) || is_empty xs) && is_conditional_last xs

abbrev mutual
  -- a part of an assertion
  pub part : PartTree → Walk
  part (tree.conditional p c a b) = at p ⨾ ghost_expr c ⨾ mark Ghost punctuators.Question ⨾ assertion a ⨾ mark Ghost punctuators.Colon ⨾ assertion b
  part (tree.switch_ p e cs) = at p ⨾ word Ghost keywords.Switch ⨾ mark Ghost punctuators.OpenParenthesis ⨾ ghost_expr e ⨾ mark Ghost punctuators.CloseParenthesis
      ⨾ mark Ghost punctuators.OpenBrace ⨾ assertion_cases cs ⨾ mark Ghost punctuators.CloseBrace
  part (tree.cell p s e f v) = at p ⨾ optional share s ⨾ ghost_expr e ⨾ mark Ghost punctuators.Arrow ⨾ name Ghost f ⨾ mark Ghost punctuators.PointsTo ⨾ pattern v
  part (tree.chunk p s n first second) = at p ⨾ optional share s ⨾ name Ghost n ⨾ pattern_list first ⨾ optional pattern_list second
  part (tree.empty_ p) = at p ⨾ word Ghost keywords.Emp
  part (tree.pure p e) = at p ⨾ provided (not (is_application e)) ⨾ ghost_expr e
  part (tree.group p a) = at p ⨾ provided (not (is_expression a)) ⨾ mark Ghost punctuators.OpenParenthesis ⨾ assertion a ⨾ mark Ghost punctuators.CloseParenthesis

  -- an assertion: parts with "&*&" between them, of which the last alone may be a conditional
  pub assertion : PartTrees → Walk
  assertion no_part = never
  assertion (more_part x xs) = provided (is_conditional_last (more_part x xs)) ⨾ part x ⨾ more_parts xs

  -- parts, each behind "&*&"
  pub more_parts : PartTrees → Walk
  more_parts no_part = nothing
  more_parts (more_part x xs) = mark Ghost punctuators.SeparatingAnd ⨾ part x ⨾ more_parts xs

  -- "case" pattern ":" "return" assertion ";"
  pub assertion_case : AssertionCaseTree → Walk
  assertion_case (tree.assertion_case p c a) = at p ⨾ word Ghost keywords.Case ⨾ case_pattern c ⨾ mark Ghost punctuators.Colon ⨾ word Ghost keywords.Return ⨾ assertion a ⨾ mark Ghost punctuators.Semicolon

  -- cases, one after another
  pub assertion_cases : AssertionCaseTrees → Walk
  assertion_cases no_assertion_case = nothing
  assertion_cases (more_assertion_case x xs) = assertion_case x ⨾ assertion_cases xs

-- how deep a pattern nests: an expression counts one
abbrev pub pattern_nesting : Pattern → ℕ
pattern_nesting (patterns.Is e) = ghost_nesting e + 1
pattern_nesting p = 0

abbrev mutual
  -- how many assertions, expressions and operators in front of their operand stand in one another at the deepest token; an expression that is a whole part, the test of a conditional or the pointer of a cell counts as one with its assertion
  pub part_nesting : PartTree → ℕ
  part_nesting (tree.conditional p c a b) = max (ghost_nesting c) (max (parts_nesting a + 1) (parts_nesting b + 1))
  part_nesting (tree.switch_ p e cs) = max (ghost_nesting e + 1) (cases_nesting cs)
  part_nesting (tree.cell p s e f v) = max (ghost_nesting e) (pattern_nesting v)
  part_nesting (tree.chunk p s n first second) = max (greatest pattern_nesting first) (or_none (greatest pattern_nesting) second)
  part_nesting (tree.empty_ p) = 0
  part_nesting (tree.pure p e) = ghost_nesting e
  part_nesting (tree.group p a) = parts_nesting a + 1

  -- the same of an assertion, itself not counted
  pub parts_nesting : PartTrees → ℕ
  parts_nesting no_part = 0
  parts_nesting (more_part x xs) = max (part_nesting x) (parts_nesting xs)

  -- how deep a case nests: its assertion counts one
  pub case_nesting : AssertionCaseTree → ℕ
  case_nesting (tree.assertion_case p c a) = parts_nesting a + 1

  -- the deepest of some cases
  pub cases_nesting : AssertionCaseTrees → ℕ
  cases_nesting no_assertion_case = 0
  cases_nesting (more_assertion_case x xs) = max (case_nesting x) (cases_nesting xs)
