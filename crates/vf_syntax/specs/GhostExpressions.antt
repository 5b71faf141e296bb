-- How sorts and expressions of ghost text are spelled, and how deep they nest.
use Rattle.std.specs.Prelude.{ℕ, ◌+◌, max, Bool, true, false, ◌&&◌, nat_eq, nat_le, nat_lt, List, [], ◌∷◌}
use Rattle.vf_lexer.specs.declared.punctuator.Punctuator.TheVariants as punctuators
use Rattle.vf_syntax.specs.declared.keyword.Keyword.TheVariants as keywords
use Rattle.vf_syntax.specs.declared.side.Side.TheVariants.{Ghost}
use Rattle.vf_syntax.specs.declared.operator.Level.{Level}
use Rattle.vf_syntax.specs.SortTree.{SortTree, SortTrees, no_sort, more_sort}
use Rattle.vf_syntax.specs.SortTree as sorts
use Rattle.vf_syntax.specs.GhostExprTree.{GhostExprTree, GhostExprTrees, GhostLinkTree, GhostLinkTrees, no_ghost_expr, more_ghost_expr, no_ghost_link, more_ghost_link}
use Rattle.vf_syntax.specs.GhostExprTree as tree
use Rattle.vf_syntax.specs.Walks.{Walk, ◌⨾◌, nothing, provided, at, mark, word, identifier, number}
use Rattle.vf_syntax.specs.Written.{ctype, unary_mark, binary_mark, level_of, looseness}

abbrev mutual
  -- a sort: "real" | "any" | type | NAME ["<" sorts ">"] | "predicate" "(" sorts ")"
  pub sort : SortTree → Walk
  sort (sorts.real_ p) = at p ⨾ word Ghost keywords.Real
  sort (sorts.any_ p) = at p ⨾ word Ghost keywords.Any
  sort (sorts.type_ p t) = at p ⨾ ctype Ghost t
  sort (sorts.name_ p x xs) = at p ⨾ identifier Ghost x ⨾ sort_arguments xs
  sort (sorts.predicate_ p xs) = at p ⨾ word Ghost keywords.Predicate ⨾ mark Ghost punctuators.OpenParenthesis ⨾ sorts_separated xs ⨾ mark Ghost punctuators.CloseParenthesis

  -- nothing, or sorts between "<" and ">"
  pub sort_arguments : SortTrees → Walk
  sort_arguments no_sort = nothing
  sort_arguments (more_sort x xs) = mark Ghost punctuators.Less ⨾ sort x ⨾ more_sorts xs ⨾ mark Ghost punctuators.Greater

  -- sorts with commas between them
  pub sorts_separated : SortTrees → Walk
  sorts_separated no_sort = nothing
  sorts_separated (more_sort x xs) = sort x ⨾ more_sorts xs

  -- each behind a comma
  pub more_sorts : SortTrees → Walk
  more_sorts no_sort = nothing
  more_sorts (more_sort x xs) = mark Ghost punctuators.Comma ⨾ sort x ⨾ more_sorts xs

abbrev mutual
  -- how many sorts stand in one another in a sort, itself not counted
  pub sort_nesting : SortTree → ℕ
  sort_nesting (sorts.name_ p x xs) = sorts_nesting xs
  sort_nesting (sorts.predicate_ p xs) = sorts_nesting xs
  sort_nesting s = 0

  -- the deepest of some sorts, each of which counts one
  pub sorts_nesting : SortTrees → ℕ
  sorts_nesting no_sort = 0
  sorts_nesting (more_sort x xs) = max (sort_nesting x + 1) (sorts_nesting xs)

-- how loosely an expression holds together, from 0 for a primary expression to 8
abbrev pub ghost_rank : GhostExprTree → ℕ
ghost_rank (tree.unary p o a) = 2
ghost_rank (tree.chain p l a links) = looseness l
ghost_rank e = 0

-- the rank of an expression is below that of a level, so that it is an operand there
abbrev pub is_ghost_operand : Level → GhostExprTree → Bool
is_ghost_operand l e = nat_lt (ghost_rank e) (looseness l)

-- some link
abbrev pub has_ghost_links : GhostLinkTrees → Bool
has_ghost_links no_ghost_link = false
has_ghost_links (more_ghost_link x xs) = true

-- a link joins by an operator of a level
abbrev pub ghost_joins_on : Level → GhostLinkTree → Bool
ghost_joins_on l (tree.ghost_link p o a) = nat_eq (looseness (level_of o)) (looseness l) && is_ghost_operand l a

abbrev mutual
  -- an expression of ghost text
  pub ghost_expr : GhostExprTree → Walk
  ghost_expr (tree.number p n ty) = at p ⨾ number Ghost n ty
  ghost_expr (tree.true_ p) = at p ⨾ word Ghost keywords.True
  ghost_expr (tree.false_ p) = at p ⨾ word Ghost keywords.False
  ghost_expr (tree.result p) = at p ⨾ word Ghost keywords.Result
  ghost_expr (tree.this_ p) = at p ⨾ word Ghost keywords.This
  ghost_expr (tree.current_thread p) = at p ⨾ word Ghost keywords.CurrentThread
  ghost_expr (tree.name_ p x) = at p ⨾ identifier Ghost x
  ghost_expr (tree.application p f xs) = at p ⨾ identifier Ghost f ⨾ mark Ghost punctuators.OpenParenthesis ⨾ ghost_arguments xs ⨾ mark Ghost punctuators.CloseParenthesis
  ghost_expr (tree.parenthesized p a) = at p ⨾ mark Ghost punctuators.OpenParenthesis ⨾ ghost_expr a ⨾ mark Ghost punctuators.CloseParenthesis
  ghost_expr (tree.conditional p c a b) = at p ⨾ mark Ghost punctuators.OpenParenthesis ⨾ ghost_expr c ⨾ mark Ghost punctuators.Question ⨾ ghost_expr a ⨾ mark Ghost punctuators.Colon ⨾ ghost_expr b ⨾ mark Ghost punctuators.CloseParenthesis
  ghost_expr (tree.unary p o a) = at p ⨾ mark Ghost (unary_mark o) ⨾ provided (nat_le (ghost_rank a) 2) ⨾ ghost_expr a
  ghost_expr (tree.chain p l a xs) = at p ⨾ provided (is_ghost_operand l a && has_ghost_links xs) ⨾ ghost_expr a ⨾ ghost_links l xs

  -- an operator of a level and the operand behind it
  pub ghost_link : Level → GhostLinkTree → Walk
  ghost_link l (tree.ghost_link p o a) = at p ⨾ provided (ghost_joins_on l (tree.ghost_link p o a)) ⨾ mark Ghost (binary_mark o) ⨾ ghost_expr a

  -- links, one after another
  pub ghost_links : Level → GhostLinkTrees → Walk
  ghost_links l no_ghost_link = nothing
  ghost_links l (more_ghost_link x xs) = ghost_link l x ⨾ ghost_links l xs

  -- expressions with commas between them
  pub ghost_arguments : GhostExprTrees → Walk
  ghost_arguments no_ghost_expr = nothing
  ghost_arguments (more_ghost_expr x xs) = ghost_expr x ⨾ more_ghost_arguments xs

  -- each behind a comma
  pub more_ghost_arguments : GhostExprTrees → Walk
  more_ghost_arguments no_ghost_expr = nothing
  more_ghost_arguments (more_ghost_expr x xs) = mark Ghost punctuators.Comma ⨾ ghost_expr x ⨾ more_ghost_arguments xs

abbrev mutual
  -- how many expressions and operators in front of their operand stand in one another at the deepest token, the whole expression not counted
  pub ghost_nesting : GhostExprTree → ℕ
  ghost_nesting (tree.application p f xs) = ghost_arguments_nesting xs
  ghost_nesting (tree.parenthesized p a) = ghost_nesting a + 1
  ghost_nesting (tree.conditional p c a b) = max (ghost_nesting c + 1) (max (ghost_nesting a + 2) (ghost_nesting b + 2))
  ghost_nesting (tree.unary p o a) = ghost_nesting a + 1
  ghost_nesting (tree.chain p l a xs) = max (ghost_nesting a) (ghost_links_nesting xs)
  ghost_nesting e = 0

  -- how deep the operand of a link nests
  pub ghost_link_nesting : GhostLinkTree → ℕ
  ghost_link_nesting (tree.ghost_link p o a) = ghost_nesting a

  -- the deepest of some links
  pub ghost_links_nesting : GhostLinkTrees → ℕ
  ghost_links_nesting no_ghost_link = 0
  ghost_links_nesting (more_ghost_link x xs) = max (ghost_link_nesting x) (ghost_links_nesting xs)

  -- the deepest of some arguments, each of which counts one
  pub ghost_arguments_nesting : GhostExprTrees → ℕ
  ghost_arguments_nesting no_ghost_expr = 0
  ghost_arguments_nesting (more_ghost_expr x xs) = max (ghost_nesting x + 1) (ghost_arguments_nesting xs)

-- an expression is an application that stands in no parentheses
abbrev pub is_application : GhostExprTree → Bool
is_application (tree.application p f xs) = true
is_application e = false
