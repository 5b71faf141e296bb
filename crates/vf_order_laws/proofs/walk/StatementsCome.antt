-- The walk over statements comes to what the functions come to, and to nothing else.
use Rattle.std.proofs.Common.{◌≡◌, ℕ, Option}
use Rattle.vf_base.specs.declared.place.Place.{Place}
use Rattle.vf_declared.specs.declared.ctype.CType.{CType}
use Rattle.vf_declared.specs.declared.scope.Scope.{Scope}
use Rattle.vf_syntax.specs.declared.contract.Invariant.{Invariant}
use Rattle.vf_syntax.specs.declared.simple.First.{First}
use Rattle.vf_syntax.specs.declared.simple.Simple.{Simple}
use Rattle.vf_syntax.specs.ExprTree.{ExprTree}
use Rattle.vf_syntax.specs.StmtTree.{StmtTree, StmtTrees, no_stmt, more_stmt}
use Rattle.vf_syntax.specs.StmtTree as tree
use Rattle.vf_walk.specs.Meanings.{Meanings}
use Rattle.vf_walk.specs.Statements.{Inner, WalksForBody, WalksForHead, WalksStmt, WalksStmts}
use Rattle.vf_walk.specs.Walking.{Walked}
use Rattle.vf_order_laws.specs.walk.Statements.{for_body_of, for_head_of, inner_of, stmt_of, stmts_of}
use Rattle.vf_order_laws.specs.walk.Walks.{Walks}
use Rattle.vf_order_laws.specs.walk.Agreeing.{AnnotationsAreWalked, AreWalked}
use Rattle.vf_order_laws.proofs.walk.Walking.{only_walked, optional_walked, then_walked}

inner_walked : (F : Scope → Walked → Type 0) (g : Scope → Walked) → ((s : Scope) → AreWalked (F s) (g s)) → (s : Scope) → AreWalked (Inner F s) (inner_of g s)
inner_walked F g each s = then_walked (each s) (λ t. only_walked _)

for_body_walked : (a : Option First) (k : ℕ) (F : Scope → Walked → Type 0) (g : Scope → Walked) → ((s : Scope) → AreWalked (F s) (g s)) → (s : Scope) → AreWalked (WalksForBody a k F s) (for_body_of a k g s)
for_body_walked a k F g each s = then_walked (inner_walked F g each s) (λ t. only_walked _)

for_head_walked : (m : Meanings) (f : Walks) → AnnotationsAreWalked m f → (p : Place) (a : Option First) (c : Option ExprTree) (x : Option Simple) (i : Option Invariant) (s : Scope) → AreWalked (WalksForHead m p a c x i s) (for_head_of f p a c x i s)
for_head_walked m f d p a c x i s = then_walked (only_walked _) (optional_walked _ _ (d.invariant p.file) i)

mutual
  pub stmt_walked : (m : Meanings) (f : Walks) → AnnotationsAreWalked m f → (r : CType) (x : StmtTree) (s : Scope) → AreWalked (WalksStmt m r x s) (stmt_of f r x s)
  stmt_walked m f d r (tree.declaration p t n e last) s = only_walked _
  stmt_walked m f d r (tree.simple p x last) s = only_walked _
  stmt_walked m f d r (tree.if_ p c a) s = then_walked (only_walked _) (inner_walked _ _ (stmt_walked m f d r a))
  stmt_walked m f d r (tree.if_else p c a b) s = then_walked (then_walked (only_walked _) (inner_walked _ _ (stmt_walked m f d r a))) (inner_walked _ _ (stmt_walked m f d r b))
  stmt_walked m f d r (tree.while_ p c i a) s = then_walked (then_walked (only_walked _) (optional_walked _ _ (d.invariant p.file) i)) (inner_walked _ _ (stmt_walked m f d r a))
  stmt_walked m f d r (tree.for_ p b c x i a) s = then_walked (for_head_walked m f d p b c x i s) (for_body_walked b _ _ _ (stmt_walked m f d r a))
  stmt_walked m f d r (tree.return_ p e last) s = only_walked _
  stmt_walked m f d r (tree.block p xs last) s = inner_walked _ _ (stmts_walked m f d r xs) s
  stmt_walked m f d r (tree.empty_ p) s = only_walked _
  stmt_walked m f d r (tree.ghost p c) s = d.command c s

  pub stmts_walked : (m : Meanings) (f : Walks) → AnnotationsAreWalked m f → (r : CType) (xs : StmtTrees) (s : Scope) → AreWalked (WalksStmts m r xs s) (stmts_of f r xs s)
  stmts_walked m f d r no_stmt s = only_walked _
  stmts_walked m f d r (more_stmt x xs) s = then_walked (stmt_walked m f d r x s) (stmts_walked m f d r xs)

-- where the walk over statements comes to something the function finds that
pub stmts_come : {m : Meanings} {f : Walks} → AnnotationsAreWalked m f → (r : CType) (xs : StmtTrees) (s : Scope) {w : Walked} → WalksStmts m r xs s w → stmts_of f r xs s ≡ w
stmts_come {m = m} {f = f} d r xs s {w = w} h = (stmts_walked m f d r xs s).comes w h

-- and the walk comes to what the function finds
pub stmts_found : {m : Meanings} {f : Walks} → AnnotationsAreWalked m f → (r : CType) (xs : StmtTrees) (s : Scope) → WalksStmts m r xs s (stmts_of f r xs s)
stmts_found {m = m} {f = f} d r xs s = (stmts_walked m f d r xs s).found
