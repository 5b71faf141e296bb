-- A walk comes to one thing at most, where its parts do.
use Rattle.std.proofs.Common.{◌≡◌, ℕ, Bool, true, false, List, [], ◌∷◌, Option, Some, None, Result, Ok, Err, sym, ◌∙◌, subst}
use Rattle.std.specs.Prelude.{nat_eq}
use Rattle.vf_base.specs.declared.refusal.Refusal.{Refusal}
use Rattle.vf_declared.specs.declared.ctype.CType.{CType}
use Rattle.vf_declared.specs.declared.scope.Scope.{Scope}
use Rattle.vf_syntax.specs.declared.contract.Contract.{Contract}
use Rattle.vf_syntax.specs.declared.item.Body.{Body}
use Rattle.vf_syntax.specs.declared.item.Item.{Item}
use Rattle.vf_syntax.specs.declared.item.Item.TheVariants as items
use Rattle.vf_syntax.specs.declared.item.Signature.{Signature}
use Rattle.vf_syntax.specs.declared.simple.First.{First}
use Rattle.vf_syntax.specs.declared.written.Name.{Name}
use Rattle.vf_syntax.specs.StmtTree.{StmtTree, StmtTrees, more_stmt, no_stmt, stmt_list}
use Rattle.vf_syntax.specs.StmtTree as tree
use Rattle.vf_walk.specs.Agreeing.{AreDetermined, ComesToOne}
use Rattle.vf_walk.specs.Items.{WalksBody, WalksBodyIf, WalksContract, WalksItem, WalksItems}
use Rattle.vf_walk.specs.Meanings.{Meanings}
use Rattle.vf_walk.specs.Statements.{Inner, WalksForBody, WalksStmt, WalksStmts}
use Rattle.vf_walk.specs.Walking.{Only, Optional, Then, Walked}
use Rattle.vf_walk.specs.Walking as walking

-- one thing at most is found
abbrev One : {A : Type 0} → (Result A Refusal → Type 0) → Type 0
One {A = A} P = (v w : Result A Refusal) → P v → P w → v ≡ w

only_one : {A : Type 0} (x : Result A Refusal) → One (Only x)
only_one x v w h k = sym h.is ∙ k.is

ok_same : {A : Type 0} {a b : A} → ◌≡◌ {A = Result A Refusal} (Ok a) (Ok b) → a ≡ b
ok_same h = cc

apart : {A : Type 0} {x : Refusal} {a : A} → ◌≡◌ {A = Result A Refusal} (Err x) (Ok a) → ⊥
apart h = cc

then_one : {A B : Type 0} {P : Result A Refusal → Type 0} {Q : A → Result B Refusal → Type 0} → One P → ((a : A) → One (Q a)) → (v w : Result B Refusal) → Then P Q v → Then P Q w → v ≡ w
then_one p q v w (walking.stops {x = x} h) (walking.stops {x = y} k) = let e = p (Err x) (Err y) h k in cc
then_one p q v w (walking.stops {x = x} h) (walking.goes {a = b} k l) = absurd (apart (p (Err x) (Ok b) h k))
then_one p q v w (walking.goes {a = a} h k) (walking.stops {x = y} l) = absurd (apart (p (Err y) (Ok a) l h))
then_one {Q = Q} p q v w (walking.goes {a = a} h k) (walking.goes {a = b} l j) = q b v w (subst (λ c. Q c v) (ok_same (p (Ok a) (Ok b) h l)) k) j

optional_one : {A : Type 0} (F : A → Scope → Walked → Type 0) → ((a : A) (s : Scope) → ComesToOne (F a s)) → (o : Option A) (s : Scope) → ComesToOne (Optional F o s)
optional_one F f None s = only_one (Ok s)
optional_one F f (Some a) s = f a s

inner_one : (F : Scope → Walked → Type 0) → ((s : Scope) → ComesToOne (F s)) → (s : Scope) → ComesToOne (Inner F s)
inner_one F f s = then_one (f s) (λ t. only_one _)

for_body_one : (f : Option First) (k : ℕ) (F : Scope → Walked → Type 0) → ((s : Scope) → ComesToOne (F s)) → (s : Scope) → ComesToOne (WalksForBody f k F s)
for_body_one f k F each s = then_one (inner_one F each s) (λ t. only_one _)

mutual
  -- so does that over a statement
  stmt_one : (m : Meanings) → AreDetermined m → (r : CType) (x : StmtTree) (s : Scope) → ComesToOne (WalksStmt m r x s)
  stmt_one m d r (tree.declaration p t n e last) s = only_one _
  stmt_one m d r (tree.simple p x last) s = only_one _
  stmt_one m d r (tree.if_ p c a) s = then_one (only_one _) (inner_one _ (stmt_one m d r a))
  stmt_one m d r (tree.if_else p c a b) s = then_one (then_one (only_one _) (inner_one _ (stmt_one m d r a))) (inner_one _ (stmt_one m d r b))
  stmt_one m d r (tree.while_ p c i a) s = then_one (then_one (only_one _) (optional_one _ (d.invariant p.file) i)) (inner_one _ (stmt_one m d r a))
  stmt_one m d r (tree.for_ p f c x i a) s = then_one (then_one (only_one _) (optional_one _ (d.invariant p.file) i)) (for_body_one f _ _ (stmt_one m d r a))
  stmt_one m d r (tree.return_ p e last) s = only_one _
  stmt_one m d r (tree.block p xs last) s = inner_one _ (stmts_one m d r xs) s
  stmt_one m d r (tree.empty_ p) s = only_one _
  stmt_one m d r (tree.ghost p c) s = d.command c s

  -- and that over some statements
  stmts_one : (m : Meanings) → AreDetermined m → (r : CType) (xs : StmtTrees) (s : Scope) → ComesToOne (WalksStmts m r xs s)
  stmts_one m d r no_stmt s = only_one _
  stmts_one m d r (more_stmt x xs) s = then_one (stmt_one m d r x s) (stmts_one m d r xs)

body_if_one : (m : Meanings) → AreDetermined m → (b : Bool) (t : CType) (x : Body) (s : Scope) → ComesToOne (WalksBodyIf b m t x s)
body_if_one m d true t x s = stmts_one m d t (stmt_list x.statements) s
body_if_one m d false t x s = only_one _

body_one : (m : Meanings) → AreDetermined m → (n : Name) (t : CType) (x : Body) (s : Scope) → ComesToOne (WalksBody m n t x s)
body_one m d n t x s = body_if_one m d (nat_eq n.place.file s.file) t x s

contract_one : (m : Meanings) → AreDetermined m → (g : Signature) (t : CType) (k : ℕ) (c : Option Contract) (s : Scope) → ComesToOne (WalksContract m g t k c s)
contract_one m d g t k None s = only_one _
contract_one m d g t k (Some c) s = d.contract _ c s

item_one : (m : Meanings) → AreDetermined m → (x : Item) (s : Scope) → ComesToOne (WalksItem m x s)
item_one m d (items.Opaque p n) s = only_one _
item_one m d (items.Struct p n xs) s = only_one _
item_one m d (items.FunctionType p g c) s = then_one (only_one _) (λ t. then_one (then_one (only_one _) (optional_one _ (d.contract _) c)) (λ u. only_one _))
item_one m d (items.Prototype g k c) s = then_one (only_one _) (λ h. then_one (then_one (only_one _) (optional_one _ (d.contract _) c)) (λ t. only_one _))
item_one m d (items.Function g k c b) s = then_one (only_one _) (λ h. then_one (then_one (then_one (only_one _) (contract_one m d g h.given _ c)) (body_one m d g.name h.given b)) (λ t. only_one _))
item_one m d (items.Ghost g) s = d.item g s

-- the walk over some items does
pub items_one : (m : Meanings) → AreDetermined m → (xs : List Item) (s : Scope) → ComesToOne (WalksItems m xs s)
items_one m d [] s = only_one _
items_one m d (x ∷ xs) s = then_one (item_one m d x s) (items_one m d xs)
