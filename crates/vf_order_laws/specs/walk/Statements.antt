-- What statements come to, as functions: what is declared behind them, or the first refusal.
use Rattle.std.specs.Prelude.{ℕ, Option, Ok}
use Rattle.vf_base.specs.declared.place.Place.{Place}
use Rattle.vf_declared.specs.declared.ctype.CType.{CType}
use Rattle.vf_declared.specs.declared.scope.Scope.{Scope}
use Rattle.vf_syntax.specs.declared.contract.Invariant.{Invariant}
use Rattle.vf_syntax.specs.declared.simple.First.{First}
use Rattle.vf_syntax.specs.declared.simple.Simple.{Simple}
use Rattle.vf_syntax.specs.ExprTree.{ExprTree}
use Rattle.vf_syntax.specs.StmtTree.{StmtTree, StmtTrees, no_stmt, more_stmt}
use Rattle.vf_syntax.specs.StmtTree as tree
use Rattle.vf_walk.specs.Statements.{condition, count, declaration, for_parts, left, return_refusal, simple, without_first}
use Rattle.vf_walk.specs.Walking.{Walked, optional, unless}
use Rattle.vf_order_laws.specs.walk.Following.{after}
use Rattle.vf_order_laws.specs.walk.Walks.{Walks}

-- a part whose locals are its own, by what it comes to
abbrev pub inner_of : (Scope → Walked) → Scope → Walked
inner_of g s = after (λ t. Ok (left (count s) t)) (g s)

-- what stands in front of the body of a `for` at a place
abbrev pub for_head_of : Walks → Place → Option First → Option ExprTree → Option Simple → Option Invariant → Scope → Walked
for_head_of f p a c x i s = after (optional (f.invariant p.file) i) (for_parts a c x s)

-- the body of a `for`, before whose first part so many locals stood
abbrev pub for_body_of : Option First → ℕ → (Scope → Walked) → Scope → Walked
for_body_of a k g s = after (without_first a k) (inner_of g s)

abbrev mutual
  -- a statement in a function that gives a type
  pub stmt_of : Walks → CType → StmtTree → Scope → Walked
  stmt_of f r (tree.declaration p t n e last) s = declaration t n e s
  stmt_of f r (tree.simple p x last) s = simple x s
  stmt_of f r (tree.if_ p c a) s = after (inner_of (stmt_of f r a)) (condition c s)
  stmt_of f r (tree.if_else p c a b) s = after (inner_of (stmt_of f r b)) (after (inner_of (stmt_of f r a)) (condition c s))
  stmt_of f r (tree.while_ p c i a) s = after (inner_of (stmt_of f r a)) (after (optional (f.invariant p.file) i) (condition c s))
  stmt_of f r (tree.for_ p b c x i a) s = after (for_body_of b (count s) (stmt_of f r a)) (for_head_of f p b c x i s)
  stmt_of f r (tree.return_ p e last) s = unless (return_refusal s r p e) s
  stmt_of f r (tree.block p xs last) s = inner_of (stmts_of f r xs) s
  stmt_of f r (tree.empty_ p) s = Ok s
  stmt_of f r (tree.ghost p c) s = f.command c s

  -- some statements, one after another
  pub stmts_of : Walks → CType → StmtTrees → Scope → Walked
  stmts_of f r no_stmt s = Ok s
  stmts_of f r (more_stmt x xs) s = after (stmts_of f r xs) (stmt_of f r x s)
