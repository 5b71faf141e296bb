-- How expressions of real text are spelled, and how deep they nest.
use Rattle.std.specs.Prelude.{ℕ, ◌+◌, max, Bool, true, false, ◌&&◌, nat_eq, nat_le, nat_lt, List, [], ◌∷◌}
use Rattle.vf_lexer.specs.declared.punctuator.Punctuator.TheVariants as punctuators
use Rattle.vf_syntax.specs.declared.keyword.Keyword.TheVariants as keywords
use Rattle.vf_syntax.specs.declared.side.Side.TheVariants.{Real}
use Rattle.vf_syntax.specs.declared.operator.Level.{Level}
use Rattle.vf_syntax.specs.ExprTree.{ExprTree, ExprTrees, LinkTree, LinkTrees, PostfixTree, PostfixTrees, no_expr, more_expr, no_link, more_link, no_postfix, more_postfix}
use Rattle.vf_syntax.specs.ExprTree as tree
use Rattle.vf_syntax.specs.Walks.{Walk, ◌⨾◌, nothing, never, provided, at, mark, word, identifier, number, character}
use Rattle.vf_syntax.specs.Written.{name, ctype, unary_mark, binary_mark, level_of, looseness}

-- how loosely an expression holds together, from 0 for a primary expression to 9 for a conditional
abbrev pub rank : ExprTree → ℕ
rank (tree.postfix p a parts) = 1
rank (tree.unary p o a) = 2
rank (tree.cast p t a) = 2
rank (tree.chain p l a links) = looseness l
rank (tree.conditional p c a b) = 9
rank e = 0

-- the rank of an expression is at most this
abbrev pub is_within : ℕ → ExprTree → Bool
is_within n e = nat_le (rank e) n

-- the rank of an expression is below that of a level, so that it is an operand there
abbrev pub is_operand : Level → ExprTree → Bool
is_operand l e = nat_lt (rank e) (looseness l)

-- some link, or none
abbrev pub has_links : LinkTrees → Bool
has_links no_link = false
has_links (more_link x xs) = true

-- some part, or none
abbrev pub has_parts : PostfixTrees → Bool
has_parts no_postfix = false
has_parts (more_postfix x xs) = true

-- a link joins by an operator of a level
abbrev pub joins_on : Level → LinkTree → Bool
joins_on l (tree.link p o a) = nat_eq (looseness (level_of o)) (looseness l) && is_operand l a

abbrev mutual
  -- an expression of real text (C11 6.5)
  pub expr : ExprTree → Walk
  expr (tree.number p n ty) = at p ⨾ number Real n ty
  expr (tree.character p n) = at p ⨾ character n
  expr (tree.true_ p) = at p ⨾ word Real keywords.True
  expr (tree.false_ p) = at p ⨾ word Real keywords.False
  expr (tree.name_ p x) = at p ⨾ identifier Real x
  expr (tree.parenthesized p a) = at p ⨾ mark Real punctuators.OpenParenthesis ⨾ expr a ⨾ mark Real punctuators.CloseParenthesis
  expr (tree.malloc p tag) = at p ⨾ word Real keywords.Malloc ⨾ mark Real punctuators.OpenParenthesis ⨾ word Real keywords.Sizeof ⨾ mark Real punctuators.OpenParenthesis
      ⨾ word Real keywords.Struct ⨾ name Real tag ⨾ mark Real punctuators.CloseParenthesis ⨾ mark Real punctuators.CloseParenthesis
  expr (tree.malloc_ints p n star) = at p ⨾ word Real keywords.Malloc ⨾ mark Real punctuators.OpenParenthesis ⨾ provided (is_within 1 n) ⨾ expr n
      ⨾ at star ⨾ mark Real punctuators.Star ⨾ word Real keywords.Sizeof ⨾ mark Real punctuators.OpenParenthesis ⨾ word Real keywords.Int ⨾ mark Real punctuators.CloseParenthesis ⨾ mark Real punctuators.CloseParenthesis
  expr (tree.postfix p a parts) = at p ⨾ provided (is_within 0 a && has_parts parts) ⨾ expr a ⨾ postfixes parts
  expr (tree.unary p o a) = at p ⨾ mark Real (unary_mark o) ⨾ provided (is_within 2 a) ⨾ expr a
  expr (tree.cast p t a) = at p ⨾ mark Real punctuators.OpenParenthesis ⨾ ctype Real t ⨾ mark Real punctuators.CloseParenthesis ⨾ provided (is_within 2 a) ⨾ expr a
  expr (tree.chain p l a xs) = at p ⨾ provided (is_operand l a && has_links xs) ⨾ expr a ⨾ links l xs
  expr (tree.conditional p c a b) = at p ⨾ provided (is_within 8 c) ⨾ expr c ⨾ mark Real punctuators.Question ⨾ expr a ⨾ mark Real punctuators.Colon ⨾ expr b

  -- an operator of a level and the operand behind it
  pub link : Level → LinkTree → Walk
  link l (tree.link p o a) = at p ⨾ provided (joins_on l (tree.link p o a)) ⨾ mark Real (binary_mark o) ⨾ expr a

  -- links, one after another
  pub links : Level → LinkTrees → Walk
  links l no_link = nothing
  links l (more_link x xs) = link l x ⨾ links l xs

  -- what stands behind an operand: "->" NAME | "[" expression "]" | "(" arguments ")"
  pub postfix : PostfixTree → Walk
  postfix (tree.field_ p n) = at p ⨾ mark Real punctuators.Arrow ⨾ name Real n
  postfix (tree.index_ p e) = at p ⨾ mark Real punctuators.OpenBracket ⨾ expr e ⨾ mark Real punctuators.CloseBracket
  postfix (tree.call_ p xs) = at p ⨾ mark Real punctuators.OpenParenthesis ⨾ arguments xs ⨾ mark Real punctuators.CloseParenthesis

  -- parts behind an operand, one after another
  pub postfixes : PostfixTrees → Walk
  postfixes no_postfix = nothing
  postfixes (more_postfix x xs) = postfix x ⨾ postfixes xs

  -- expressions with commas between them
  pub arguments : ExprTrees → Walk
  arguments no_expr = nothing
  arguments (more_expr x xs) = expr x ⨾ more_arguments xs

  -- each behind a comma
  pub more_arguments : ExprTrees → Walk
  more_arguments no_expr = nothing
  more_arguments (more_expr x xs) = mark Real punctuators.Comma ⨾ expr x ⨾ more_arguments xs

abbrev mutual
  -- how many expressions and operators in front of their operand stand in one another at the deepest token, the whole expression not counted
  pub nesting : ExprTree → ℕ
  nesting (tree.parenthesized p a) = nesting a + 1
  nesting (tree.malloc_ints p n star) = nesting n + 1
  nesting (tree.postfix p a parts) = max (nesting a) (postfix_nesting parts)
  nesting (tree.unary p o a) = nesting a + 1
  nesting (tree.cast p t a) = nesting a + 1
  nesting (tree.chain p l a xs) = max (nesting a) (links_nesting xs)
  nesting (tree.conditional p c a b) = max (nesting c) (max (nesting a + 1) (nesting b + 1))
  nesting e = 0

  -- how deep the operand of a link nests
  pub link_nesting : LinkTree → ℕ
  link_nesting (tree.link p o a) = nesting a

  -- the deepest of some links
  pub links_nesting : LinkTrees → ℕ
  links_nesting no_link = 0
  links_nesting (more_link x xs) = max (link_nesting x) (links_nesting xs)

  -- how deep a part behind an operand nests: each expression in it counts one
  pub part_nesting : PostfixTree → ℕ
  part_nesting (tree.field_ p n) = 0
  part_nesting (tree.index_ p e) = nesting e + 1
  part_nesting (tree.call_ p es) = arguments_nesting es

  -- the deepest of some parts
  pub postfix_nesting : PostfixTrees → ℕ
  postfix_nesting no_postfix = 0
  postfix_nesting (more_postfix x xs) = max (part_nesting x) (postfix_nesting xs)

  -- the deepest of some arguments, each of which counts one
  pub arguments_nesting : ExprTrees → ℕ
  arguments_nesting no_expr = 0
  arguments_nesting (more_expr x xs) = max (nesting x + 1) (arguments_nesting xs)

-- the nesting of the deepest token, the whole expression counted
abbrev pub expr_nesting : ExprTree → ℕ
expr_nesting e = nesting e + 1
