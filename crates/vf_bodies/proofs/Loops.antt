-- The loop over statements: what was done so far, and what is left of the list becomes, come to the whole.
use Rattle.std.proofs.Common.{◌≡◌, ℕ, ◌+◌, ◌≤◌, List, length, drop, Some, slice_get, sym, subst}
use Rattle.vf_declared.specs.declared.ctype.CType.{CType}
use Rattle.vf_syntax.specs.StmtTree.{StmtTree, stmt_list}
use Rattle.vf_lower.specs.declared.draft.Draft.{Draft}
use Rattle.vf_lower.specs.Settings.{Setting}
use Rattle.vf_lower.specs.Statements.{statement, statements}
use Rattle.vf_lower.specs.Did.{Did}
use Rattle.vf_lower.proofs.Lists.{left_at, left_end}
use Rattle.vf_lower.proofs.Parts.{did_give, did_then}

-- one more statement
pub stmts_more : (c g : Setting) (r : CType) (xs : List StmtTree) (i : ℕ) (x : StmtTree) (d e f : Draft) (a : Setting) → slice_get xs i ≡ Some x → Did (statement c r x) d e g → Did (statements g r (stmt_list (drop (i + 1) xs))) e f a → Did (statements c r (stmt_list (drop i xs))) d f a
stmts_more c g r xs i x d e f a h one rest = subst (λ ys. Did (statements c r (stmt_list ys)) d f a) (sym (left_at xs i x h)) (did_then _ _ _ _ _ _ _ one rest)

-- no statement is left
pub stmts_end : (c : Setting) (r : CType) (xs : List StmtTree) (i : ℕ) (d : Draft) → length xs ≤ i → Did (statements c r (stmt_list (drop i xs))) d d c
stmts_end c r xs i d h = subst (λ ys. Did (statements c r (stmt_list ys)) d d c) (sym (left_end xs i h)) (did_give d c)
