-- The loop over statements: what the walk over those that are left may come to, the walk over all may come to.
use Rattle.std.proofs.Common.{◌≡◌, ℕ, ◌+◌, ◌≤◌, List, length, drop, Result, Ok, Err, Some, None, slice_get, refl, subst}
use Rattle.vf_base.specs.declared.refusal.RuleFault.{RuleFault}
use Rattle.vf_syntax.specs.StmtTree.{StmtTree, stmt_list}
use Rattle.vf_walk.specs.Walking.{Follows, Then}
use Rattle.vf_walk.specs.Walking as walking
use Rattle.vf_walk.proofs.Lists.{left_at, left_none, left_end}
use Rattle.vf_walk.proofs.Steps.{end_here, ended, stays}
use Rattle.vf_resolved_bodies.specs.Telling.{Telling}
use Rattle.vf_resolved_bodies.specs.Statements.{TellsStmt, TellsStmts, Told}

-- whatever the walk over the rest may come to, the whole walk may come to
pub record Leads (P Q : Told → Type 0) : Type 0 where
  pub leads : (w : Told) → P w → Q w

-- at the start the rest is the whole
pub leads_here : (P : Told → Type 0) → Leads P P
leads_here P = record { leads = λ w h. h }

-- a walk that follows the rest follows the whole
follow : {P Q : Told → Type 0} {r : Result (Unit {0}) RuleFault} {s : Telling} → Leads P Q → Follows P r s → Follows Q r s
follow l (walking.to_end h) = walking.to_end (l.leads _ h)
follow l (walking.to_refusal h) = walking.to_refusal (l.leads _ h)
follow l walking.out_of_memory = walking.out_of_memory

-- a first part is done
part_done : {P W : Told → Type 0} {Q : Telling → Told → Type 0} {s : Telling} → P (Ok s) → Leads (Then P Q) W → Leads (Q s) W
part_done h l = record { leads = λ w k. l.leads w (walking.goes h k) }

-- one more statement
pub stmts_more : (paths : List (List ℕ)) (xs : List StmtTree) (i : ℕ) (x : StmtTree) (s u : Telling) (W : Told → Type 0) → slice_get xs i ≡ Some x → Follows (TellsStmt paths x s) (Ok tt) u → Leads (TellsStmts paths (stmt_list (drop i xs)) s) W → Leads (TellsStmts paths (stmt_list (drop (i + 1) xs)) u) W
stmts_more paths xs i x s u W h step l = part_done (ended step) (subst (λ (ys : List StmtTree). Leads (TellsStmts paths (stmt_list ys) s) W) (left_at xs i x h) l)

-- a statement is refused
pub stmts_stop : (paths : List (List ℕ)) (xs : List StmtTree) (i : ℕ) (x : StmtTree) (s u v : Telling) (e : RuleFault) (W : Told → Type 0) → slice_get xs i ≡ Some x → Follows (TellsStmt paths x s) (Err e) u → Leads (TellsStmts paths (stmt_list (drop i xs)) s) W → Follows W (Err e) v
stmts_stop paths xs i x s u v e W h step l = follow (subst (λ (ys : List StmtTree). Leads (TellsStmts paths (stmt_list ys) s) W) (left_at xs i x h) l) (end_here step refl)

-- no statement stands at an index
pub stmts_none : (paths : List (List ℕ)) (xs : List StmtTree) (i : ℕ) (s : Telling) (W : Told → Type 0) → slice_get xs i ≡ None → Leads (TellsStmts paths (stmt_list (drop i xs)) s) W → Follows W (Ok tt) s
stmts_none paths xs i s W h l = follow (subst (λ (ys : List StmtTree). Leads (TellsStmts paths (stmt_list ys) s) W) (left_none xs i h) l) (stays s)

-- the list is done
pub stmts_end : (paths : List (List ℕ)) (xs : List StmtTree) (i : ℕ) (s : Telling) (W : Told → Type 0) → length xs ≤ i → Leads (TellsStmts paths (stmt_list (drop i xs)) s) W → Follows W (Ok tt) s
stmts_end paths xs i s W h l = follow (subst (λ (ys : List StmtTree). Leads (TellsStmts paths (stmt_list ys) s) W) (left_end xs i h) l) (stays s)
