-- What statements leave stood there before.
use Rattle.std.proofs.Common.{Option, Some, None}
use Rattle.vf_syntax.specs.declared.side.Grammar.{Grammar}
use Rattle.vf_syntax.specs.declared.side.Grammar.TheVariants as grammars
use Rattle.vf_syntax.specs.declared.simple.Simple.{Simple}
use Rattle.vf_syntax.specs.declared.simple.Simple.TheVariants as simples
use Rattle.vf_syntax.specs.declared.simple.First.{First}
use Rattle.vf_syntax.specs.declared.simple.First.TheVariants as firsts
use Rattle.vf_syntax.specs.ExprTree.{ExprTree}
use Rattle.vf_syntax.specs.StmtTree.{StmtTree, StmtTrees, no_stmt, more_stmt}
use Rattle.vf_syntax.specs.StmtTree as tree
use Rattle.vf_syntax.specs.Walks.{Walk}
use Rattle.vf_syntax.specs.Expressions.{expr}
use Rattle.vf_syntax.specs.Statements.{simple, first, initializer, invariant_walk, owed, stmt, stmts}
use Rattle.vf_fixpoint_laws.proofs.identifiers.Keeps.{Keeps, keep_then, nothing_keeps, never_keeps, provided_keeps, at_keeps, mark_keeps, word_keeps, name_keeps, optional_keeps}
use Rattle.vf_fixpoint_laws.proofs.identifiers.RealKept.{ctype_keeps, expr_keeps}
use Rattle.vf_fixpoint_laws.proofs.identifiers.GhostKept.{command_keeps, invariant_keeps}

simple_keeps : (x : Simple) → Keeps (simple x)
simple_keeps (simples.Assignment a o q b) = keep_then (provided_keeps _) (keep_then (expr_keeps a) (keep_then (at_keeps q) (keep_then (mark_keeps _ _) (expr_keeps b))))
simple_keeps (simples.StepAfter a o q) = keep_then (provided_keeps _) (keep_then (expr_keeps a) (keep_then (at_keeps q) (mark_keeps _ _)))
simple_keeps (simples.StepBefore q o a) = keep_then (at_keeps q) (keep_then (mark_keeps _ _) (keep_then (provided_keeps _) (expr_keeps a)))
simple_keeps (simples.Call a) = keep_then (provided_keeps _) (expr_keeps a)

first_keeps : (x : First) → Keeps (first x)
first_keeps (firsts.Declaration t n e) = keep_then (ctype_keeps _ t) (keep_then (name_keeps _ n) (keep_then (mark_keeps _ _) (expr_keeps e)))
first_keeps (firsts.Simple x) = simple_keeps x

initializer_keeps : (x : ExprTree) → Keeps (initializer x)
initializer_keeps x = keep_then (mark_keeps _ _) (expr_keeps x)

pub owed_keeps : {A : Type 0} (g : Grammar) (w : A → Walk) → ((x : A) → Keeps (w x)) → (x : Option A) → Keeps (owed g w x)
owed_keeps grammars.Whole w h (Some x) = h x
owed_keeps grammars.Whole w h None = never_keeps
owed_keeps grammars.Plain w h None = nothing_keeps
owed_keeps grammars.Plain w h (Some x) = never_keeps

mutual
  pub stmt_keeps : (g : Grammar) (x : StmtTree) → Keeps (stmt g x)
  stmt_keeps g (tree.declaration p t n e last) = keep_then (at_keeps p) (keep_then (ctype_keeps _ t) (keep_then (name_keeps _ n) (keep_then (optional_keeps initializer initializer_keeps e) (keep_then (at_keeps last) (mark_keeps _ _)))))
  stmt_keeps g (tree.simple p s last) = keep_then (at_keeps p) (keep_then (simple_keeps s) (keep_then (at_keeps last) (mark_keeps _ _)))
  stmt_keeps g (tree.if_ p c a) = keep_then (at_keeps p) (keep_then (word_keeps _ _) (keep_then (mark_keeps _ _) (keep_then (expr_keeps c) (keep_then (mark_keeps _ _) (keep_then (provided_keeps _) (stmt_keeps g a))))))
  stmt_keeps g (tree.if_else p c a b) = keep_then (at_keeps p) (keep_then (word_keeps _ _) (keep_then (mark_keeps _ _) (keep_then (expr_keeps c) (keep_then (mark_keeps _ _) (keep_then (provided_keeps _) (keep_then (provided_keeps _) (keep_then (stmt_keeps g a) (keep_then (word_keeps _ _) (keep_then (provided_keeps _) (stmt_keeps g b))))))))))
  stmt_keeps g (tree.while_ p c i body) = keep_then (at_keeps p) (keep_then (word_keeps _ _) (keep_then (mark_keeps _ _) (keep_then (expr_keeps c) (keep_then (mark_keeps _ _) (keep_then (owed_keeps g invariant_walk invariant_keeps i) (keep_then (provided_keeps _) (stmt_keeps g body)))))))
  stmt_keeps g (tree.for_ p f c s i body) = keep_then (at_keeps p) (keep_then (word_keeps _ _) (keep_then (mark_keeps _ _) (keep_then (optional_keeps first first_keeps f) (keep_then (mark_keeps _ _) (keep_then (optional_keeps expr (λ (x : ExprTree). expr_keeps x) c) (keep_then (mark_keeps _ _) (keep_then (optional_keeps simple (λ (x : Simple). simple_keeps x) s) (keep_then (mark_keeps _ _) (keep_then (owed_keeps g invariant_walk invariant_keeps i) (keep_then (provided_keeps _) (stmt_keeps g body)))))))))))
  stmt_keeps g (tree.return_ p e last) = keep_then (at_keeps p) (keep_then (word_keeps _ _) (keep_then (optional_keeps expr (λ (x : ExprTree). expr_keeps x) e) (keep_then (at_keeps last) (mark_keeps _ _))))
  stmt_keeps g (tree.block p xs last) = keep_then (at_keeps p) (keep_then (mark_keeps _ _) (keep_then (stmts_keeps g xs) (keep_then (at_keeps last) (mark_keeps _ _))))
  stmt_keeps g (tree.empty_ p) = keep_then (at_keeps p) (mark_keeps _ _)
  stmt_keeps grammars.Whole (tree.ghost p c) = keep_then (at_keeps p) ((command_keeps c))
  stmt_keeps grammars.Plain (tree.ghost p c) = never_keeps

  pub stmts_keeps : (g : Grammar) (xs : StmtTrees) → Keeps (stmts g xs)
  stmts_keeps g no_stmt = nothing_keeps
  stmts_keeps g (more_stmt x xs) = keep_then (stmt_keeps g x) (stmts_keeps g xs)
