-- Statements that are spelled take no token that is refused by name.
use Rattle.std.proofs.Common.{◌≡◌, false, Option, Some, None, refl}
use Rattle.vf_syntax.specs.declared.side.Grammar.{Grammar}
use Rattle.vf_syntax.specs.declared.side.Grammar.TheVariants as grammars
use Rattle.vf_syntax.specs.declared.operator.AssignmentOperator.{AssignmentOperator}
use Rattle.vf_syntax.specs.declared.operator.AssignmentOperator.TheVariants as assignments
use Rattle.vf_syntax.specs.declared.operator.StepOperator.{StepOperator}
use Rattle.vf_syntax.specs.declared.operator.StepOperator.TheVariants as steps
use Rattle.vf_syntax.specs.declared.contract.Invariant.{Invariant}
use Rattle.vf_syntax.specs.declared.simple.Simple.{Simple}
use Rattle.vf_syntax.specs.declared.simple.Simple.TheVariants as simples
use Rattle.vf_syntax.specs.declared.simple.First.{First}
use Rattle.vf_syntax.specs.declared.simple.First.TheVariants as firsts
use Rattle.vf_syntax.specs.ExprTree.{ExprTree}
use Rattle.vf_syntax.specs.StmtTree.{StmtTree, StmtTrees, no_stmt, more_stmt}
use Rattle.vf_syntax.specs.StmtTree as tree
use Rattle.vf_syntax.specs.Walks.{Walk}
use Rattle.vf_syntax.specs.Written.{assignment_mark, step_mark}
use Rattle.vf_syntax.specs.Expressions.{expr}
use Rattle.vf_syntax.specs.Statements.{simple, first, initializer, invariant_walk, owed, stmt, stmts}
use Rattle.vf_parse_real.specs.Unsupported.{is_unsupported_mark}
use Rattle.vf_grammar_read.proofs.supported.Clean.{Clean, clean_then, nothing_clean, never_clean, provided_clean, at_clean, mark_clean, word_clean, name_clean, optional_clean, unseen_clean}
use Rattle.vf_grammar_read.proofs.supported.RealClean.{ctype_clean, expr_clean}
use Rattle.vf_grammar_read.proofs.supported.GhostUnseen.{command_unseen, invariant_unseen}

assignment_supported : (o : AssignmentOperator) → is_unsupported_mark (assignment_mark o) ≡ false
assignment_supported assignments.Becomes = refl
assignment_supported assignments.PlusBecomes = refl
assignment_supported assignments.MinusBecomes = refl
assignment_supported assignments.TimesBecomes = refl
assignment_supported assignments.DivideBecomes = refl
assignment_supported assignments.RemainderBecomes = refl

step_supported : (o : StepOperator) → is_unsupported_mark (step_mark o) ≡ false
step_supported steps.Increment = refl
step_supported steps.Decrement = refl

simple_clean : (x : Simple) → Clean (simple x)
simple_clean (simples.Assignment a o q b) = clean_then (provided_clean _) (clean_then (expr_clean a) (clean_then (at_clean q) (clean_then (mark_clean _ _ (assignment_supported o)) (expr_clean b))))
simple_clean (simples.StepAfter a o q) = clean_then (provided_clean _) (clean_then (expr_clean a) (clean_then (at_clean q) (mark_clean _ _ (step_supported o))))
simple_clean (simples.StepBefore q o a) = clean_then (at_clean q) (clean_then (mark_clean _ _ (step_supported o)) (clean_then (provided_clean _) (expr_clean a)))
simple_clean (simples.Call a) = clean_then (provided_clean _) (expr_clean a)

first_clean : (x : First) → Clean (first x)
first_clean (firsts.Declaration t n e) = clean_then (ctype_clean _ t) (clean_then (name_clean _ n) (clean_then (mark_clean _ _ refl) (expr_clean e)))
first_clean (firsts.Simple x) = (simple_clean x)

initializer_clean : (x : ExprTree) → Clean (initializer x)
initializer_clean x = clean_then (mark_clean _ _ refl) (expr_clean x)

pub owed_clean : {A : Type 0} (g : Grammar) (w : A → Walk) → ((x : A) → Clean (w x)) → (x : Option A) → Clean (owed g w x)
owed_clean grammars.Whole w h (Some x) = h x
owed_clean grammars.Whole w h None = never_clean
owed_clean grammars.Plain w h None = nothing_clean
owed_clean grammars.Plain w h (Some x) = never_clean

invariant_clean : (x : Invariant) → Clean (invariant_walk x)
invariant_clean x = unseen_clean (invariant_unseen x)

mutual
  pub stmt_clean : (g : Grammar) (x : StmtTree) → Clean (stmt g x)
  stmt_clean g (tree.declaration p t n e last) = clean_then (at_clean p) (clean_then (ctype_clean _ t) (clean_then (name_clean _ n) (clean_then (optional_clean initializer initializer_clean e) (clean_then (at_clean last) (mark_clean _ _ refl)))))
  stmt_clean g (tree.simple p s last) = clean_then (at_clean p) (clean_then (simple_clean s) (clean_then (at_clean last) (mark_clean _ _ refl)))
  stmt_clean g (tree.if_ p c a) = clean_then (at_clean p) (clean_then (word_clean _ _ refl) (clean_then (mark_clean _ _ refl) (clean_then (expr_clean c) (clean_then (mark_clean _ _ refl) (clean_then (provided_clean _) (stmt_clean g a))))))
  stmt_clean g (tree.if_else p c a b) = clean_then (at_clean p) (clean_then (word_clean _ _ refl) (clean_then (mark_clean _ _ refl) (clean_then (expr_clean c) (clean_then (mark_clean _ _ refl) (clean_then (provided_clean _) (clean_then (provided_clean _) (clean_then (stmt_clean g a) (clean_then (word_clean _ _ refl) (clean_then (provided_clean _) (stmt_clean g b))))))))))
  stmt_clean g (tree.while_ p c i body) = clean_then (at_clean p) (clean_then (word_clean _ _ refl) (clean_then (mark_clean _ _ refl) (clean_then (expr_clean c) (clean_then (mark_clean _ _ refl) (clean_then (owed_clean g invariant_walk invariant_clean i) (clean_then (provided_clean _) (stmt_clean g body)))))))
  stmt_clean g (tree.for_ p f c s i body) = clean_then (at_clean p) (clean_then (word_clean _ _ refl) (clean_then (mark_clean _ _ refl) (clean_then (optional_clean first first_clean f) (clean_then (mark_clean _ _ refl) (clean_then (optional_clean expr (λ (x : ExprTree). (expr_clean x)) c) (clean_then (mark_clean _ _ refl) (clean_then (optional_clean simple (λ (x : Simple). (simple_clean x)) s) (clean_then (mark_clean _ _ refl) (clean_then (owed_clean g invariant_walk invariant_clean i) (clean_then (provided_clean _) (stmt_clean g body)))))))))))
  stmt_clean g (tree.return_ p e last) = clean_then (at_clean p) (clean_then (word_clean _ _ refl) (clean_then (optional_clean expr (λ (x : ExprTree). (expr_clean x)) e) (clean_then (at_clean last) (mark_clean _ _ refl))))
  stmt_clean g (tree.block p xs last) = clean_then (at_clean p) (clean_then (mark_clean _ _ refl) (clean_then (stmts_clean g xs) (clean_then (at_clean last) (mark_clean _ _ refl))))
  stmt_clean g (tree.empty_ p) = clean_then (at_clean p) (mark_clean _ _ refl)
  stmt_clean grammars.Whole (tree.ghost p c) = clean_then (at_clean p) (unseen_clean (command_unseen c))
  stmt_clean grammars.Plain (tree.ghost p c) = never_clean

  pub stmts_clean : (g : Grammar) (xs : StmtTrees) → Clean (stmts g xs)
  stmts_clean g no_stmt = nothing_clean
  stmts_clean g (more_stmt x xs) = clean_then (stmt_clean g x) (stmts_clean g xs)
