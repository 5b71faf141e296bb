-- Statements leave the names of file level and the tags as they are.
use Rattle.std.proofs.Common.{refl, ℕ, List, [], ◌∷◌, is_some, Option, Some, None}
use Rattle.vf_base.specs.declared.place.Place.{Place}
use Rattle.vf_names.specs.Names.{number_of}
use Rattle.vf_declared.specs.declared.ctype.CType.{CType}
use Rattle.vf_declared.specs.declared.scope.Scope.{Scope}
use Rattle.vf_syntax.specs.declared.contract.Contract.{Contract}
use Rattle.vf_syntax.specs.declared.contract.Invariant.{Invariant}
use Rattle.vf_syntax.specs.declared.item.GhostItem.{GhostItem}
use Rattle.vf_syntax.specs.declared.item.Typed.{Typed}
use Rattle.vf_syntax.specs.declared.simple.First.{First}
use Rattle.vf_syntax.specs.declared.simple.First.TheVariants as firsts
use Rattle.vf_syntax.specs.declared.simple.Simple.{Simple}
use Rattle.vf_syntax.specs.declared.written.CType.{CType as WrittenType}
use Rattle.vf_syntax.specs.declared.written.Name.{Name}
use Rattle.vf_syntax.specs.ExprTree.{ExprTree}
use Rattle.vf_syntax.specs.GhostCommandTree.{GhostCommandTree}
use Rattle.vf_syntax.specs.StmtTree.{StmtTree, StmtTrees, no_stmt, more_stmt}
use Rattle.vf_syntax.specs.StmtTree as tree
use Rattle.vf_typing.specs.Names.{written_type}
use Rattle.vf_typing.specs.Operands.{assigned_refusal}
use Rattle.vf_typing.specs.Simple.{refused_condition, refused_simple}
use Rattle.vf_typing.specs.Typed.{typed}
use Rattle.vf_walk.specs.declared.annotations.Owner.{Owner}
use Rattle.vf_walk.specs.Items.{parameters_walked}
use Rattle.vf_walk.specs.Meanings.{Meanings}
use Rattle.vf_walk.specs.Statements.{Inner, WalksForBody, WalksForHead, WalksStmt, WalksStmts, condition, count, declaration, declared, first_part, first_value, for_parts, return_refusal, simple, variable, with_variable, without_first}
use Rattle.vf_walk.specs.Walking.{Only, Walked, behind, optional, unless}
use Rattle.vf_erasure_laws.proofs.hidden.Coming.{Comes, Leads, ok_comes, only_leads}
use Rattle.vf_env.specs.Named.{named_by_form}
use Rattle.vf_env_laws.proofs.Keeping.{Brings, IsBeside, Keeps, any_comes, behind_keeps, else_comes, keeps_same, ok_keeps, optional_keeps, then_keeps, unless_keeps}

-- contracts, invariants and ghost commands leave names as they are, and ghost items bring those that they declare
pub record AreOrderly (m : Meanings) : Type 0 where
  pub contract : (o : Owner) (c : Contract) (s : Scope) → Leads (Keeps s) (m.contract o c s)
  pub invariant : (file : ℕ) (i : Invariant) (s : Scope) → Leads (Keeps s) (m.invariant file i s)
  pub command : (c : GhostCommandTree) (s : Scope) → Leads (Keeps s) (m.command c s)
  pub item : (i : GhostItem) (s : Scope) → IsBeside s → Leads (Brings (named_by_form i.form) [] s) (m.item i s)

-- ---- locals
local_keeps : (n : Name) (t : CType) (s : Scope) → Comes (Keeps s) (with_variable n t s)
local_keeps n t s = else_comes (Keeps s) (is_some (number_of s.locals.names n.text)) _ _ (record { names = refl; tags = refl; count = refl })

variable_keeps : (n : Name) (w : WrittenType) (s : Scope) → Comes (Keeps s) (variable n w s)
variable_keeps n w s = any_comes (Keeps s) (λ t. with_variable n t s) (written_type s w) (λ t. local_keeps n t s)

-- parameters
pub parameters_keep : (xs : List Typed) (s : Scope) → Comes (Keeps s) (parameters_walked xs s)
parameters_keep [] s = ok_comes (Keeps s) (keeps_same s)
parameters_keep (x ∷ xs) s = behind_keeps (parameters_walked xs) (variable x.name x.written s) (variable_keeps x.name x.written s) (λ t. parameters_keep xs t)

optional_comes : {A : Type 0} (f : A → Scope → Walked) (o : Option A) (s : Scope) → ((a : A) → Comes (Keeps s) (f a s)) → Comes (Keeps s) (optional f o s)
optional_comes f None s h = ok_comes (Keeps s) (keeps_same s)
optional_comes f (Some a) s h = h a

first_value_keeps : (t : CType) (e : ExprTree) (s : Scope) → Comes (Keeps s) (first_value t e s)
first_value_keeps t e s = unless_keeps (assigned_refusal s t (typed s e)) s

declared_keeps : (n : Name) (e : Option ExprTree) (t : CType) (s : Scope) → Comes (Keeps s) (declared n e t s)
declared_keeps n e t s = behind_keeps (optional (first_value t) e) (with_variable n t s) (local_keeps n t s) (λ u. optional_comes (first_value t) e u (λ a. first_value_keeps t a u))

declaration_keeps : (w : WrittenType) (n : Name) (e : Option ExprTree) (s : Scope) → Comes (Keeps s) (declaration w n e s)
declaration_keeps w n e s = any_comes (Keeps s) (λ t. declared n e t s) (written_type s w) (λ t. declared_keeps n e t s)

simple_keeps : (x : Simple) (s : Scope) → Comes (Keeps s) (simple x s)
simple_keeps x s = unless_keeps (refused_simple s x) s

condition_keeps : (e : ExprTree) (s : Scope) → Comes (Keeps s) (condition e s)
condition_keeps e s = unless_keeps (refused_condition s e) s

first_keeps : (f : First) (s : Scope) → Comes (Keeps s) (first_part f s)
first_keeps (firsts.Declaration t n e) s = declaration_keeps t n (Some e) s
first_keeps (firsts.Simple x) s = simple_keeps x s

for_parts_keep : (f : Option First) (c : Option ExprTree) (x : Option Simple) (s : Scope) → Comes (Keeps s) (for_parts f c x s)
for_parts_keep f c x s =
    behind_keeps (optional simple x) (behind (optional condition c) (optional first_part f s))
    (behind_keeps (optional condition c) (optional first_part f s) (optional_comes first_part f s (λ a. first_keeps a s)) (λ t. optional_comes condition c t (λ a. condition_keeps a t)))
    (λ t. optional_comes simple x t (λ a. simple_keeps a t))

first_gone : (f : Option First) (k : ℕ) (s : Scope) → Comes (Keeps s) (without_first f k s)
first_gone (Some (firsts.Declaration t n e)) k s = ok_comes (Keeps s) (record { names = refl; tags = refl; count = refl })
first_gone (Some (firsts.Simple x)) k s = ok_comes (Keeps s) (keeps_same s)
first_gone None k s = ok_comes (Keeps s) (keeps_same s)

-- ---- statements
inner_keeps : (F : Scope → Walked → Type 0) → ((s : Scope) → Leads (Keeps s) (F s)) → (s : Scope) → Leads (Keeps s) (Inner F s)
inner_keeps F h s = then_keeps (h s) (λ t. ok_keeps (record { names = refl; tags = refl; count = refl }))

only_keeps : {s : Scope} (r : Walked) → Comes (Keeps s) r → Leads (Keeps s) (Only r)
only_keeps {s = s} r h = only_leads (Keeps s) r h

for_head_keeps : (m : Meanings) → AreOrderly m → (p : Place) (f : Option First) (c : Option ExprTree) (x : Option Simple) (i : Option Invariant) (s : Scope) → Leads (Keeps s) (WalksForHead m p f c x i s)
for_head_keeps m h p f c x i s = then_keeps (only_keeps (for_parts f c x s) (for_parts_keep f c x s)) (λ t. optional_keeps (m.invariant p.file) i t (λ a. h.invariant p.file a t))

for_body_keeps : (f : Option First) (k : ℕ) (F : Scope → Walked → Type 0) → ((s : Scope) → Leads (Keeps s) (F s)) → (s : Scope) → Leads (Keeps s) (WalksForBody f k F s)
for_body_keeps f k F h s = then_keeps (inner_keeps F h s) (λ t. only_keeps (without_first f k t) (first_gone f k t))

mutual
  pub stmt_keeps : (m : Meanings) → AreOrderly m → (r : CType) (x : StmtTree) (s : Scope) → Leads (Keeps s) (WalksStmt m r x s)
  stmt_keeps m h r (tree.declaration p t n e last) s = only_keeps (declaration t n e s) (declaration_keeps t n e s)
  stmt_keeps m h r (tree.simple p x last) s = only_keeps (simple x s) (simple_keeps x s)
  stmt_keeps m h r (tree.if_ p c a) s = then_keeps (only_keeps (condition c s) (condition_keeps c s)) (λ t. inner_keeps (WalksStmt m r a) (λ u. stmt_keeps m h r a u) t)
  stmt_keeps m h r (tree.if_else p c a b) s = then_keeps (then_keeps (only_keeps (condition c s) (condition_keeps c s)) (λ t. inner_keeps (WalksStmt m r a) (λ u. stmt_keeps m h r a u) t)) (λ t. inner_keeps (WalksStmt m r b) (λ u. stmt_keeps m h r b u) t)
  stmt_keeps m h r (tree.while_ p c i a) s = then_keeps (then_keeps (only_keeps (condition c s) (condition_keeps c s)) (λ t. optional_keeps (m.invariant p.file) i t (λ j. h.invariant p.file j t))) (λ t. inner_keeps (WalksStmt m r a) (λ u. stmt_keeps m h r a u) t)
  stmt_keeps m h r (tree.for_ p f c x i a) s = then_keeps (for_head_keeps m h p f c x i s) (λ t. for_body_keeps f (count s) (WalksStmt m r a) (λ u. stmt_keeps m h r a u) t)
  stmt_keeps m h r (tree.return_ p e last) s = only_keeps (unless (return_refusal s r p e) s) (unless_keeps (return_refusal s r p e) s)
  stmt_keeps m h r (tree.block p xs last) s = inner_keeps (WalksStmts m r xs) (λ u. stmts_keep m h r xs u) s
  stmt_keeps m h r (tree.empty_ p) s = ok_keeps (keeps_same s)
  stmt_keeps m h r (tree.ghost p c) s = h.command c s

  pub stmts_keep : (m : Meanings) → AreOrderly m → (r : CType) (xs : StmtTrees) (s : Scope) → Leads (Keeps s) (WalksStmts m r xs s)
  stmts_keep m h r no_stmt s = ok_keeps (keeps_same s)
  stmts_keep m h r (more_stmt x xs) s = then_keeps (stmt_keeps m h r x s) (λ t. stmts_keep m h r xs t)
