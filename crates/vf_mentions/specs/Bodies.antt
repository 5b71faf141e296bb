-- What the bodies of functions and lemmas mention, in the order of the text.
use Rattle.std.specs.Prelude.{ℕ, List, [], ◌∷◌, ◌++◌, Option, Some, None}
use Rattle.vf_syntax.specs.declared.contract.Invariant.{Invariant}
use Rattle.vf_syntax.specs.declared.item.Body.{Body}
use Rattle.vf_syntax.specs.declared.item.GhostBody.{GhostBody}
use Rattle.vf_syntax.specs.declared.item.Parameters.{Parameters}
use Rattle.vf_syntax.specs.declared.item.Parameters.TheVariants as parameters
use Rattle.vf_syntax.specs.declared.item.Typed.{Typed}
use Rattle.vf_syntax.specs.declared.simple.First.{First}
use Rattle.vf_syntax.specs.declared.simple.First.TheVariants as firsts
use Rattle.vf_syntax.specs.declared.simple.Simple.{Simple}
use Rattle.vf_syntax.specs.AssertionTree.{part_list}
use Rattle.vf_syntax.specs.ExprTree.{ExprTree}
use Rattle.vf_syntax.specs.GhostCommandTree.{ghost_command_list}
use Rattle.vf_syntax.specs.StmtTree.{StmtTree, StmtTrees, no_stmt, more_stmt, stmt_list}
use Rattle.vf_syntax.specs.StmtTree as tree
use Rattle.vf_mentions.specs.declared.mention.Mention.{Mention}
use Rattle.vf_mentions.specs.Mentioned.{Locals, if_there}
use Rattle.vf_mentions.specs.RealText.{mentioned_in_expr, mentioned_in_simple}
use Rattle.vf_mentions.specs.GhostText.{mentioned_in_parts, mentioned_in_command, mentioned_in_commands}

-- a local is visible from its own initializer on (C11 6.2.1)
abbrev pub with_local : Locals → List ℕ → Locals
with_local l x = l ++ x ∷ []

-- the locals that are visible behind what stands first in a `for`, up to the loop's end
abbrev pub visible_behind_first : Locals → Option First → Locals
visible_behind_first l (Some (firsts.Declaration t n a)) = with_local l n.text
visible_behind_first l (Some (firsts.Simple s)) = l
visible_behind_first l None = l

-- the locals that are visible behind a statement, up to the end of its block: one more behind a declaration
abbrev pub visible_behind : Locals → StmtTree → Locals
visible_behind l (tree.declaration p t n a q) = with_local l n.text
visible_behind l x = l

-- what the first part of a `for` mentions
abbrev pub mentioned_in_first : Locals → First → List Mention
mentioned_in_first l (firsts.Declaration t n a) = mentioned_in_expr (with_local l n.text) a
mentioned_in_first l (firsts.Simple s) = mentioned_in_simple l s

-- what the invariant of a loop mentions
abbrev pub mentioned_in_invariant : Locals → Invariant → List Mention
mentioned_in_invariant l i = mentioned_in_parts l (part_list i.assertion)

-- what stands in front of the body of a `for` mentions: its first part, condition, step and invariant
abbrev pub mentioned_in_for_head : Locals → Option First → Option ExprTree → Option Simple → Option Invariant → List Mention
mentioned_in_for_head l f a s i = if_there (mentioned_in_first l) f ++ (if_there (mentioned_in_expr (visible_behind_first l f)) a ++ (if_there (mentioned_in_simple (visible_behind_first l f)) s ++ if_there (mentioned_in_invariant (visible_behind_first l f)) i))

abbrev mutual
  -- what a statement mentions: a local that it declares is visible in it, and to the end of what it stands in
  pub mentioned_in_stmt : Locals → StmtTree → List Mention
  mentioned_in_stmt l (tree.declaration p t n a q) = if_there (mentioned_in_expr (with_local l n.text)) a
  mentioned_in_stmt l (tree.simple p s q) = mentioned_in_simple l s
  mentioned_in_stmt l (tree.if_ p a x) = mentioned_in_expr l a ++ mentioned_in_stmt l x
  mentioned_in_stmt l (tree.if_else p a x y) = mentioned_in_expr l a ++ (mentioned_in_stmt l x ++ mentioned_in_stmt l y)
  mentioned_in_stmt l (tree.while_ p a i x) = mentioned_in_expr l a ++ (if_there (mentioned_in_invariant l) i ++ mentioned_in_stmt l x)
  mentioned_in_stmt l (tree.for_ p f a s i x) = mentioned_in_for_head l f a s i ++ mentioned_in_stmt (visible_behind_first l f) x
  mentioned_in_stmt l (tree.return_ p a q) = if_there (mentioned_in_expr l) a
  mentioned_in_stmt l (tree.block p xs q) = mentioned_in_stmts l xs
  mentioned_in_stmt l (tree.empty_ p) = []
  mentioned_in_stmt l (tree.ghost p c) = mentioned_in_command l c

  -- what the statements of a block mention, each where the locals are visible that those before it declare
  pub mentioned_in_stmts : Locals → StmtTrees → List Mention
  mentioned_in_stmts l no_stmt = []
  mentioned_in_stmts l (more_stmt x xs) = mentioned_in_stmt l x ++ mentioned_in_stmts (visible_behind l x) xs

-- the names of some parameters
abbrev pub names_of : List Typed → Locals
names_of [] = []
names_of (x ∷ xs) = x.name.text ∷ names_of xs

-- the names of a function's parameters, which are visible in its whole body
abbrev pub parameter_names : Parameters → Locals
parameter_names parameters.Void = []
parameter_names (parameters.Listed xs) = names_of xs

-- what the body of a function mentions, where these locals are visible at its beginning
abbrev pub mentioned_in_body : Locals → Body → List Mention
mentioned_in_body l b = mentioned_in_stmts l (stmt_list b.statements)

-- what the body of a lemma mentions, in which no local of C is visible
abbrev pub mentioned_in_lemma : GhostBody → List Mention
mentioned_in_lemma b = mentioned_in_commands [] (ghost_command_list b.commands)
