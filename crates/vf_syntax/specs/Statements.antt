-- How contracts and statements are spelled, and how deep they nest.
use Rattle.std.specs.Prelude.{ℕ, ◌+◌, max, Bool, true, false, not, ◌&&◌, List, [], ◌∷◌, Option, Some, None, is_some}
use Rattle.vf_lexer.specs.declared.punctuator.Punctuator.TheVariants as punctuators
use Rattle.vf_syntax.specs.declared.keyword.Keyword.TheVariants as keywords
use Rattle.vf_syntax.specs.declared.side.Side.TheVariants.{Real, Ghost}
use Rattle.vf_syntax.specs.declared.side.Grammar.{Grammar}
use Rattle.vf_syntax.specs.declared.side.Grammar.TheVariants as grammars
use Rattle.vf_syntax.specs.declared.contract.Contract.{Contract}
use Rattle.vf_syntax.specs.declared.contract.Claim.{Claim}
use Rattle.vf_syntax.specs.declared.contract.Invariant.{Invariant}
use Rattle.vf_syntax.specs.declared.simple.Simple.{Simple}
use Rattle.vf_syntax.specs.declared.simple.Simple.TheVariants as simples
use Rattle.vf_syntax.specs.declared.simple.First.{First}
use Rattle.vf_syntax.specs.declared.simple.First.TheVariants as firsts
use Rattle.vf_syntax.specs.ExprTree.{ExprTree, PostfixTrees, PostfixTree, no_postfix, more_postfix}
use Rattle.vf_syntax.specs.ExprTree as exprs
use Rattle.vf_syntax.specs.AssertionTree.{part_list}
use Rattle.vf_syntax.specs.StmtTree.{StmtTree, StmtTrees, no_stmt, more_stmt}
use Rattle.vf_syntax.specs.StmtTree as tree
use Rattle.vf_syntax.specs.Walks.{Walk, ◌⨾◌, nothing, never, provided, at, mark, word}
use Rattle.vf_syntax.specs.Written.{name, ctype, assignment_mark, step_mark}
use Rattle.vf_syntax.specs.Lists.{optional, or_none}
use Rattle.vf_syntax.specs.Expressions.{expr, nesting}
use Rattle.vf_syntax.specs.Assertions.{assertion, parts_nesting}
use Rattle.vf_syntax.specs.Commands.{command, command_nesting}

-- a claim: ":" NAME
unfoldable pub claim : Claim → Walk
claim c = at c.place ⨾ mark Ghost punctuators.Colon ⨾ name Ghost c.name

-- a contract: "requires" assertion ";" "ensures" assertion ";"
unfoldable pub contract : Contract → Walk
contract c = at c.place ⨾ word Ghost keywords.Requires ⨾ assertion (part_list c.precondition) ⨾ mark Ghost punctuators.Semicolon
    ⨾ word Ghost keywords.Ensures ⨾ assertion (part_list c.postcondition) ⨾ mark Ghost punctuators.Semicolon

-- an invariant: "invariant" assertion ";"
unfoldable pub invariant_walk : Invariant → Walk
invariant_walk i = at i.place ⨾ word Ghost keywords.Invariant ⨾ assertion (part_list i.assertion) ⨾ mark Ghost punctuators.Semicolon

-- a ghost part that the whole grammar owes, and the plain one has not
abbrev pub owed : {A : Type 0} → Grammar → (A → Walk) → Option A → Walk
owed grammars.Whole w (Some x) = w x
owed grammars.Whole w None = never
owed grammars.Plain w None = nothing
owed grammars.Plain w (Some x) = never

-- a ghost part that the whole grammar allows, and the plain one has not
abbrev pub allowed : {A : Type 0} → Grammar → (A → Walk) → Option A → Walk
allowed grammars.Whole w (Some x) = w x
allowed grammars.Plain w (Some x) = never
allowed g w None = nothing

-- what a part behind an operand makes of it
abbrev pub is_call_part : PostfixTree → Bool
is_call_part (exprs.call_ p xs) = true
is_call_part x = false

-- the last part is a call
abbrev pub ends_in_call : PostfixTrees → Bool
ends_in_call no_postfix = false
ends_in_call (more_postfix x no_postfix) = is_call_part x
ends_in_call (more_postfix x (more_postfix y ys)) = ends_in_call (more_postfix y ys)

-- the last part is a field or an array element
abbrev pub ends_in_place : PostfixTrees → Bool
ends_in_place no_postfix = false
ends_in_place (more_postfix x no_postfix) = not (is_call_part x)
ends_in_place (more_postfix x (more_postfix y ys)) = ends_in_place (more_postfix y ys)

-- a call, which may be one of `malloc`
abbrev pub is_call : ExprTree → Bool
is_call (exprs.malloc p tag) = true
is_call (exprs.malloc_ints p n star) = true
is_call (exprs.postfix p a parts) = ends_in_call parts
is_call e = false

-- what may stand on the left of an assignment: a name, a field or an array element
abbrev pub is_left_side : ExprTree → Bool
is_left_side (exprs.name_ p x) = true
is_left_side (exprs.postfix p a parts) = ends_in_place parts
is_left_side e = false

-- an assignment or a call (C11 6.5.16, 6.5.2.4, 6.5.3.1 and 6.5.2.2)
abbrev pub simple : Simple → Walk
simple (simples.Assignment a o q e) = provided (is_left_side a) ⨾ expr a ⨾ at q ⨾ mark Real (assignment_mark o) ⨾ expr e
simple (simples.StepAfter a o q) = provided (is_left_side a) ⨾ expr a ⨾ at q ⨾ mark Real (step_mark o)
simple (simples.StepBefore q o a) = at q ⨾ mark Real (step_mark o) ⨾ provided (is_left_side a) ⨾ expr a
simple (simples.Call e) = provided (is_call e) ⨾ expr e

-- what stands first in a `for`
abbrev pub first : First → Walk
first (firsts.Declaration t n e) = ctype Real t ⨾ name Real n ⨾ mark Real punctuators.Becomes ⨾ expr e
first (firsts.Simple s) = simple s

-- a value behind `=`
abbrev pub initializer : ExprTree → Walk
initializer e = mark Real punctuators.Becomes ⨾ expr e

-- a statement ends in an `if` without `else`, which would take an `else` behind it
abbrev pub is_open : StmtTree → Bool
is_open (tree.if_ p c a) = true
is_open (tree.if_else p c a b) = is_open b
is_open (tree.while_ p c i body) = is_open body
is_open (tree.for_ p f c s i body) = is_open body
is_open s = false

-- a statement is a ghost command
abbrev pub is_command : StmtTree → Bool
is_command (tree.ghost p c) = true
is_command s = false

abbrev mutual
  -- a statement (C11 6.8). An `else` belongs to the nearest `if`, and no branch is a ghost command alone
  pub stmt : Grammar → StmtTree → Walk
  stmt g (tree.declaration p t n e last) = at p ⨾ ctype Real t ⨾ name Real n ⨾ optional initializer e ⨾ at last ⨾ mark Real punctuators.Semicolon
  stmt g (tree.simple p s last) = at p ⨾ simple s ⨾ at last ⨾ mark Real punctuators.Semicolon
  stmt g (tree.if_ p c a) = at p ⨾ word Real keywords.If ⨾ mark Real punctuators.OpenParenthesis ⨾ expr c ⨾ mark Real punctuators.CloseParenthesis ⨾ provided (not (is_command a)) ⨾ stmt g a
  stmt g (tree.if_else p c a b) = at p ⨾ word Real keywords.If ⨾ mark Real punctuators.OpenParenthesis ⨾ expr c ⨾ mark Real punctuators.CloseParenthesis
      ⨾ provided (not (is_command a)) ⨾ provided (not (is_open a)) ⨾ stmt g a ⨾ word Real keywords.Else ⨾ provided (not (is_command b)) ⨾ stmt g b
  stmt g (tree.while_ p c i body) = at p ⨾ word Real keywords.While ⨾ mark Real punctuators.OpenParenthesis ⨾ expr c ⨾ mark Real punctuators.CloseParenthesis
      ⨾ owed g invariant_walk i ⨾ provided (not (is_command body)) ⨾ stmt g body
  stmt g (tree.for_ p f c s i body) = at p ⨾ word Real keywords.For ⨾ mark Real punctuators.OpenParenthesis ⨾ optional first f ⨾ mark Real punctuators.Semicolon
      ⨾ optional expr c ⨾ mark Real punctuators.Semicolon ⨾ optional simple s ⨾ mark Real punctuators.CloseParenthesis
      ⨾ owed g invariant_walk i ⨾ provided (not (is_command body)) ⨾ stmt g body
  stmt g (tree.return_ p e last) = at p ⨾ word Real keywords.Return ⨾ optional expr e ⨾ at last ⨾ mark Real punctuators.Semicolon
  stmt g (tree.block p xs last) = at p ⨾ mark Real punctuators.OpenBrace ⨾ stmts g xs ⨾ at last ⨾ mark Real punctuators.CloseBrace
  stmt g (tree.empty_ p) = at p ⨾ mark Real punctuators.Semicolon
  stmt grammars.Whole (tree.ghost p c) = at p ⨾ command c
  stmt grammars.Plain (tree.ghost p c) = never

  -- statements and ghost commands, one after another
  pub stmts : Grammar → StmtTrees → Walk
  stmts g no_stmt = nothing
  stmts g (more_stmt x xs) = stmt g x ⨾ stmts g xs

-- how deep an assignment or a call nests: each expression in it counts one, its left side none
abbrev pub simple_nesting : Simple → ℕ
simple_nesting (simples.Assignment a o q e) = max (nesting a) (nesting e + 1)
simple_nesting (simples.StepAfter a o q) = nesting a
simple_nesting (simples.StepBefore q o a) = nesting a
simple_nesting (simples.Call e) = nesting e

-- how deep what stands first in a `for` nests
abbrev pub first_nesting : First → ℕ
first_nesting (firsts.Declaration t n e) = nesting e + 1
first_nesting (firsts.Simple s) = simple_nesting s

-- an expression counts one
abbrev pub whole_nesting : ExprTree → ℕ
whole_nesting e = nesting e + 1

-- an assertion counts one
abbrev pub invariant_nesting : Invariant → ℕ
invariant_nesting i = parts_nesting (part_list i.assertion) + 1

-- how deep a contract nests: each of its two assertions counts one
abbrev pub contract_nesting : Contract → ℕ
contract_nesting c = max (parts_nesting (part_list c.precondition) + 1) (parts_nesting (part_list c.postcondition) + 1)

abbrev mutual
  -- how many statements, ghost commands, assertions, sorts, expressions and operators in front of their operand stand in one another at the deepest token, the whole statement not counted
  pub stmt_nesting : StmtTree → ℕ
  stmt_nesting (tree.declaration p t n e last) = or_none whole_nesting e
  stmt_nesting (tree.simple p s last) = simple_nesting s
  stmt_nesting (tree.if_ p c a) = max (nesting c + 1) (stmt_nesting a + 1)
  stmt_nesting (tree.if_else p c a b) = max (nesting c + 1) (max (stmt_nesting a + 1) (stmt_nesting b + 1))
  stmt_nesting (tree.while_ p c i body) = max (nesting c + 1) (max (or_none invariant_nesting i) (stmt_nesting body + 1))
  stmt_nesting (tree.for_ p f c s i body) = max (or_none first_nesting f) (max (or_none whole_nesting c) (max (or_none simple_nesting s) (max (or_none invariant_nesting i) (stmt_nesting body + 1))))
  stmt_nesting (tree.return_ p e last) = or_none whole_nesting e
  stmt_nesting (tree.block p xs last) = stmts_nesting xs
  stmt_nesting (tree.empty_ p) = 0
  stmt_nesting (tree.ghost p c) = command_nesting c

  -- the deepest of some statements, each of which counts one
  pub stmts_nesting : StmtTrees → ℕ
  stmts_nesting no_stmt = 0
  stmts_nesting (more_stmt x xs) = max (stmt_nesting x + 1) (stmts_nesting xs)
