-- Statements without their annotations are spelled by the tokens of real text alone.
use Rattle.std.proofs.Common.{◌≡◌, Bool, true, false, not, Option, Some, None, refl}
use Rattle.std.specs.Prelude.{if◌then◌else◌}
use Rattle.vf_syntax.specs.declared.side.Grammar.TheVariants.{Whole, Plain}
use Rattle.vf_syntax.specs.declared.contract.Invariant.{Invariant}
use Rattle.vf_syntax.specs.declared.simple.Simple.{Simple}
use Rattle.vf_syntax.specs.declared.simple.Simple.TheVariants as simples
use Rattle.vf_syntax.specs.declared.simple.First.{First}
use Rattle.vf_syntax.specs.declared.simple.First.TheVariants as firsts
use Rattle.vf_syntax.specs.ExprTree.{ExprTree}
use Rattle.vf_syntax.specs.StmtTree.{StmtTree, StmtTrees, no_stmt, more_stmt}
use Rattle.vf_syntax.specs.StmtTree as tree
use Rattle.vf_syntax.specs.Walks.{Walk, ◌⨾◌, provided}
use Rattle.vf_syntax.specs.Expressions.{expr}
use Rattle.vf_syntax.specs.Statements.{simple, first, initializer, invariant_walk, owed, is_open, is_command, stmt, stmts}
use Rattle.vf_grammar_read.proofs.expressions.Same.{no_true}
use Rattle.vf_grammar_read.proofs.supported.Unseen.{Unseen, unseen_then, at_unseen}
use Rattle.vf_grammar_read.proofs.supported.GhostUnseen.{command_unseen, invariant_unseen}
use Rattle.vf_erasure_laws.specs.plain.Stripped.{stripped_stmt, stripped_stmts}
use Rattle.vf_erasure_laws.proofs.plain.Kept.{Keeps, Firm, keeps, keeps_then, firm_then, firm_on, past_ghost, unseen_kept, nothing_keeps, never_keeps, provided_firm, at_firm, mark_firm, word_firm, name_firm, optional_keeps}
use Rattle.vf_erasure_laws.proofs.plain.RealKept.{ctype_firm, expr_firm}

simple_firm : (x : Simple) → Firm (simple x) (simple x)
simple_firm (simples.Assignment a o q b) = provided_firm _ (firm_on (expr_firm a) (at_firm q (firm_on (mark_firm _) (expr_firm b))))
simple_firm (simples.StepAfter a o q) = provided_firm _ (firm_on (expr_firm a) (at_firm q (mark_firm _)))
simple_firm (simples.StepBefore q o a) = at_firm q (firm_on (mark_firm _) (provided_firm _ (expr_firm a)))
simple_firm (simples.Call a) = provided_firm _ (expr_firm a)

first_firm : (x : First) → Firm (first x) (first x)
first_firm (firsts.Declaration t n e) = firm_on (ctype_firm t) (firm_on (name_firm n) (firm_on (mark_firm _) (expr_firm e)))
first_firm (firsts.Simple x) = simple_firm x

initializer_keeps : (x : ExprTree) → Keeps (initializer x) (initializer x)
initializer_keeps x = keeps (firm_on (mark_firm _) (expr_firm x))

expr_keeps : (x : ExprTree) → Keeps (expr x) (expr x)
expr_keeps x = keeps (expr_firm x)

-- what the whole grammar owes is left out
pub owed_keeps : {A : Type 0} (w : A → Walk) → ((x : A) → Unseen (w x)) → (x : Option A) → Keeps (owed Whole w x) (owed Plain w None)
owed_keeps w h (Some x) = unseen_kept (h x)
owed_keeps w h None = never_keeps

invariant_keeps : (i : Option Invariant) → Keeps (owed Whole invariant_walk i) (owed Plain invariant_walk None)
invariant_keeps i = owed_keeps invariant_walk invariant_unseen i

-- no statement becomes a ghost command
no_command : (x : StmtTree) → is_command (stripped_stmt x) ≡ false
no_command (tree.declaration p t n e last) = refl
no_command (tree.simple p s last) = refl
no_command (tree.if_ p c a) = refl
no_command (tree.if_else p c a b) = refl
no_command (tree.while_ p c i body) = refl
no_command (tree.for_ p f c s i body) = refl
no_command (tree.return_ p e last) = refl
no_command (tree.block p xs last) = refl
no_command (tree.empty_ p) = refl
no_command (tree.ghost p c) = refl

-- a statement ends in an `if` without `else` as before
open_stays : (x : StmtTree) → is_open (stripped_stmt x) ≡ is_open x
open_stays (tree.declaration p t n e last) = refl
open_stays (tree.simple p s last) = refl
open_stays (tree.if_ p c a) = refl
open_stays (tree.if_else p c a b) = open_stays b
open_stays (tree.while_ p c i body) = open_stays body
open_stays (tree.for_ p f c s i body) = open_stays body
open_stays (tree.return_ p e last) = refl
open_stays (tree.block p xs last) = refl
open_stays (tree.empty_ p) = refl
open_stays (tree.ghost p c) = refl

-- a statement that is no ghost command is kept
abbrev Kept : StmtTree → Type 0
Kept x = is_command x ≡ false → Firm (stmt Whole x) (stmt Plain (stripped_stmt x))

-- a branch is kept: it is no ghost command
branch : (x : StmtTree) → Kept x → Firm (provided (not (is_command x)) ⨾ stmt Whole x) (provided (not (is_command (stripped_stmt x))) ⨾ stmt Plain (stripped_stmt x))
branch x h = rw (no_command x) (by_test (is_command x) h)
  where
    by_test : (b : Bool) → (b ≡ false → Firm (stmt Whole x) (stmt Plain (stripped_stmt x))) → Firm (provided (not b) ⨾ stmt Whole x) (provided true ⨾ stmt Plain (stripped_stmt x))
    by_test true k = record { keeps_on = λ ts rest e. absurd cc; fronts = λ ts rest e. absurd cc }
    by_test false k = provided_firm true (k refl)

-- the first branch of two is kept, with what stands behind it: it is no ghost command and ends in no `if` without `else`
first_branch : (x : StmtTree) {f g : Walk} → Kept x → Keeps f g
    → Firm (provided (not (is_command x)) ⨾ provided (not (is_open x)) ⨾ stmt Whole x ⨾ f) (provided (not (is_command (stripped_stmt x))) ⨾ provided (not (is_open (stripped_stmt x))) ⨾ stmt Plain (stripped_stmt x) ⨾ g)
first_branch x {f = f} {g = g} h behind = rw (no_command x, open_stays x) (by_test (is_command x) h)
  where
    by_test : (b : Bool) → (b ≡ false → Firm (stmt Whole x) (stmt Plain (stripped_stmt x))) → Firm (provided (not b) ⨾ provided (not (is_open x)) ⨾ stmt Whole x ⨾ f) (provided true ⨾ provided (not (is_open x)) ⨾ stmt Plain (stripped_stmt x) ⨾ g)
    by_test true k = record { keeps_on = λ ts rest e. absurd cc; fronts = λ ts rest e. absurd cc }
    by_test false k = provided_firm true (provided_firm (not (is_open x)) (firm_then (k refl) behind))

-- a statement in front of others is kept, or left out where it is a ghost command
listed : (x : StmtTree) (xs : StmtTrees) → (is_command x ≡ true → Unseen (stmt Whole x)) → Kept x → Keeps (stmts Whole xs) (stmts Plain (stripped_stmts xs)) → Keeps (stmts Whole (more_stmt x xs)) (stmts Plain (stripped_stmts (more_stmt x xs)))
listed x xs u h k = by_test (is_command x) u h
  where
    by_test : (b : Bool) → (b ≡ true → Unseen (stmt Whole x)) → (b ≡ false → Firm (stmt Whole x) (stmt Plain (stripped_stmt x)))
        → Keeps (stmt Whole x ⨾ stmts Whole xs) (stmts Plain (if b then stripped_stmts xs else more_stmt (stripped_stmt x) (stripped_stmts xs)))
    by_test true v w = past_ghost (v refl) k
    by_test false v w = keeps_then (keeps (w refl)) k

ghost_unseen : (x : StmtTree) → is_command x ≡ true → Unseen (stmt Whole x)
ghost_unseen (tree.ghost p c) h = unseen_then (at_unseen p) (command_unseen c)
ghost_unseen x h = no_true h

mutual
  stmt_firm : (x : StmtTree) → Kept x
  stmt_firm (tree.declaration p t n e last) h = at_firm p (firm_on (ctype_firm t) (firm_then (name_firm n) (keeps_then (optional_keeps initializer initializer_keeps e) (keeps (at_firm last (mark_firm _))))))
  stmt_firm (tree.simple p s last) h = at_firm p (firm_on (simple_firm s) (at_firm last (mark_firm _)))
  stmt_firm (tree.if_ p c a) h = at_firm p (firm_on (word_firm _) (firm_on (mark_firm _) (firm_on (expr_firm c) (firm_on (mark_firm _) (branch a (stmt_firm a))))))
  stmt_firm (tree.if_else p c a b) h = at_firm p (firm_on (word_firm _) (firm_on (mark_firm _) (firm_on (expr_firm c) (firm_on (mark_firm _) (first_branch a (stmt_firm a) (keeps (firm_on (word_firm _) (branch b (stmt_firm b)))))))))
  stmt_firm (tree.while_ p c i body) h = at_firm p (firm_on (word_firm _) (firm_on (mark_firm _) (firm_on (expr_firm c) (firm_then (mark_firm _) (keeps_then (invariant_keeps i) (keeps (branch body (stmt_firm body))))))))
  stmt_firm (tree.for_ p f c s i body) h = at_firm p (firm_on (word_firm _) (firm_then (mark_firm _) (keeps_then (optional_keeps first (λ x. keeps (first_firm x)) f) (keeps (firm_then (mark_firm _) (keeps_then (optional_keeps expr expr_keeps c) (keeps (firm_then (mark_firm _) (keeps_then (optional_keeps simple (λ x. keeps (simple_firm x)) s) (keeps (firm_then (mark_firm _) (keeps_then (invariant_keeps i) (keeps (branch body (stmt_firm body)))))))))))))))
  stmt_firm (tree.return_ p e last) h = at_firm p (firm_then (word_firm _) (keeps_then (optional_keeps expr expr_keeps e) (keeps (at_firm last (mark_firm _)))))
  stmt_firm (tree.block p xs last) h = at_firm p (firm_then (mark_firm _) (keeps_then (stmts_keep xs) (keeps (at_firm last (mark_firm _)))))
  stmt_firm (tree.empty_ p) h = at_firm p (mark_firm _)
  stmt_firm (tree.ghost p c) h = absurd cc

  pub stmts_keep : (xs : StmtTrees) → Keeps (stmts Whole xs) (stmts Plain (stripped_stmts xs))
  stmts_keep no_stmt = nothing_keeps
  stmts_keep (more_stmt x xs) = listed x xs (ghost_unseen x) (stmt_firm x) (stmts_keep xs)
