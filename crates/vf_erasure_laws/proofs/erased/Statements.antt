-- Statements without their annotations become the same nodes, but for those that annotations make.
use Rattle.std.proofs.Common.{◌≡◌, ℕ, ◌+◌, Bool, true, false, if◌then◌else◌, List, [], ◌∷◌, ◌++◌, map, Option, Some, None, Ok, refl, sym, ap, subst, ◌∙◌, arith}
use Rattle.std.proofs.lemmas.List.{length-map}
use Rattle.vf_base.specs.declared.place.Place.{Place}
use Rattle.vf_declared.specs.declared.ctype.CType.{CType}
use Rattle.vf_declared.specs.declared.locals.Local.TheVariants as locals
use Rattle.vf_declared.specs.declared.locals.GhostLocal.{GhostLocal}
use Rattle.vf_declared.specs.declared.locals.Locals.{Locals}
use Rattle.vf_declared.specs.declared.scope.Scope.{Scope}
use Rattle.vf_declared.specs.Changes.{IsAligned}
use Rattle.vf_syntax.specs.declared.contract.Invariant.{Invariant}
use Rattle.vf_syntax.specs.declared.simple.First.{First}
use Rattle.vf_syntax.specs.declared.simple.First.TheVariants as firsts
use Rattle.vf_syntax.specs.declared.simple.Simple.{Simple}
use Rattle.vf_syntax.specs.declared.written.CType.{CType as WrittenType}
use Rattle.vf_syntax.specs.declared.written.Name.{Name}
use Rattle.vf_syntax.specs.ExprTree.{ExprTree}
use Rattle.vf_syntax.specs.GhostCommandTree.{GhostCommandTree}
use Rattle.vf_syntax.specs.StmtTree.{StmtTree, StmtTrees, no_stmt, more_stmt}
use Rattle.vf_syntax.specs.StmtTree as tree
use Rattle.vf_typing.specs.declared.operand.Operand.{Operand}
use Rattle.vf_typing.specs.Names.{written_type}
use Rattle.vf_typing.specs.Operands.{assigned_refusal, used}
use Rattle.vf_typing.specs.Simple.{refused_condition, refused_simple}
use Rattle.vf_typing.specs.Typed.{typed}
use Rattle.vf_typing.specs.Types.{is_void}
use Rattle.vf_walk.specs.Meanings.{Meanings}
use Rattle.vf_walk.specs.Statements.{condition as walked_condition, count, declaration as walked_declaration, first_part as walked_first, first_value as walked_value, needless, return_refusal, simple as walked_simple, WalksStmt, WalksStmts, without_first}
use Rattle.vf_walk.specs.Walking.{optional, Optional}
use Rattle.vf_steps.specs.Tree.{ActionTree, NodeTree}
use Rattle.vf_steps.specs.Tree as steps
use Rattle.vf_lower.specs.Lowering.{Lowering, gives, ◌⨾◌, does}
use Rattle.vf_lower.specs.Settings.{Setting}
use Rattle.vf_lower.specs.Branches.{Test, node, test}
use Rattle.vf_lower.specs.Expressions.{condition}
use Rattle.vf_lower.specs.Simple.{simple}
use Rattle.vf_lower.specs.Statements.{at, declaration, declared, first_part, first_value, last_of, loop_test, looped, optional_simple, returned, statement, statements, type_in}
use Rattle.vf_functions.specs.Erased.{is_kept}
use Rattle.vf_erasure_laws.specs.plain.Stripped.{stripped_stmt, stripped_stmts}
use Rattle.vf_erasure_laws.specs.seen.Seen.{IsOrderly}
use Rattle.vf_erasure_laws.specs.seen.Unseen.{AddsGhosts, AreUnseen}
use Rattle.vf_erasure_laws.proofs.seen.Leading.{led, written_leads}
use Rattle.vf_erasure_laws.proofs.erased.Alike.{Alike, Is, Together, alike_does, alike_either, alike_gives, alike_looped, alike_on, alike_taken, alike_then, alike_when, behind_comes, gone_comes}
use Rattle.vf_erasure_laws.proofs.erased.Parts.{Stands, alike_same, kinds, one, tested_alike, two}
use Rattle.vf_erasure_laws.proofs.erased.Expressions.{Is_ok, of_assigned, of_used, outcome_alike}
use Rattle.vf_erasure_laws.proofs.erased.Simple.{of_refusal, put_local_alike, simple_alike, value_as_alike}
use Rattle.vf_erasure_laws.proofs.erased.Growing.{finds_ghosts, grown}
use Rattle.vf_erasure_laws.proofs.erased.WalkingStatements.{adds_none}
use Rattle.vf_erasure_laws.proofs.erased.WalkingSteps.{ok_same, went, stays}
use Rattle.vf_erasure_laws.proofs.erased.WalkingExtends.{Extends, condition_stays, declaration_declares, extends_orderly, first_extends, for_parts_go, inner_back, invariant_extends, more, simple_stays, stmt_extends, stmts_extend, without_between}

-- two settings that see what a scope has
pub data Stand (t : Scope) : Setting → Setting → Type 0 where
  stand : (x : Stands) → x.scope ≡ t → Stand t (one x) (two x)

pub stays_there : (x : Stands) (t : Scope) → t ≡ x.scope → Stand t (one x) (two x)
stays_there x t e = stand x (sym e)

-- the same in another statement
abbrev moved : Stands → Place → Stands
moved x p = record x { statement = p }

-- the same where annotations declare names
abbrev pub hidden : (x : Stands) (ns : List (List ℕ)) (gs : List GhostLocal) → IsAligned x.scope.locals → Stands
hidden x ns gs a = record x {
  scope = record x.scope { locals = record { names = x.scope.locals.names ++ ns; meanings = x.scope.locals.meanings ++ map locals.Ghost gs } };
  finds = finds_ghosts x.scope x.first ns gs a x.finds;
  found = finds_ghosts x.scope x.second ns gs a x.found;
}

pub adds_there : (x : Stands) (t : Scope) → IsAligned x.scope.locals → AddsGhosts x.scope t → Stand t (one x) (two x)
adds_there x t a h = stand (hidden x h.names h.ghosts a) (sym h.is)

-- a scope with other locals is as orderly
pub orderly_with : (s : Scope) (l : Locals) → IsAligned l → IsOrderly s → IsOrderly (record s { locals = l })
orderly_with s l a o = record { locals = a; names = o.names; prototypes = o.prototypes }

-- a node that is left out of both
alike_gone : (p : Place) (a : ActionTree) → is_kept a ≡ false → Alike Is (does p a) (does p a)
unfolding does
alike_gone p a h = record { left = λ n. refl; locals = λ n. refl; nodes = λ n. record { nodes = []; first = gone_comes p a h; second = gone_comes p a h } }

-- a node that is left out of one
alike_hidden : {A B : Type 0} {R : A → B → Type 0} (p : Place) (a : ActionTree) {m : Lowering A} {k : Lowering B} → is_kept a ≡ false → Alike R m k → Alike R (does p a ⨾ (λ u. m)) k
unfolding does ◌⨾◌
alike_hidden {R = R} p a {m} {k} h t = record {
  left = λ n. subst (λ i. R (m i).left (k n).left) (none n) (t.left n);
  locals = λ n. ap (λ i. (m i).locals) (sym (none n)) ∙ t.locals n;
  nodes = λ n. subst (λ i. Together (node p a ∷ (m i).nodes) (k n).nodes) (none n) (record { nodes = (t.nodes n).nodes; first = behind_comes (gone_comes p a h) (t.nodes n).first; second = (t.nodes n).second });
}
  where
    none : (n : ℕ) → n ≡ n + 0
    none n = omega arith

-- a test
condition_alike : (x : Stands) (p : Place) (s : Scope) (e : ExprTree) → walked_condition e x.scope ≡ Ok s → Alike Is (condition (at (one x) p) e) (condition (at (two x) p) e)
condition_alike x p s e h =
    let k = of_refusal (used (typed x.scope e)) (stays (refused_condition x.scope e) h).unrefused in
    let z = of_used (typed x.scope e) k.1 in
    tested_alike (moved x p) e (kinds (moved x p) e z.0 z.1) (outcome_alike (moved x p) e z.0 z.1)

-- the first value of a local
value_alike : (x : Stands) (k : ℕ) (t : CType) (s : Scope) (e : Option ExprTree) → optional (walked_value t) e x.scope ≡ Ok s → Alike Is (first_value (one x) k t e) (first_value (two x) k t e)
value_alike x k t s None h = alike_gone x.statement (steps.unset k) refl
value_alike x k t s (Some e) h =
    let z = of_assigned x.scope t (typed x.scope e) (stays (assigned_refusal x.scope t (typed x.scope e)) h).unrefused in
    put_local_alike x k t e z.0 z.1

-- a declaration
declaration_alike : (x : Stands) (p : Place) (w : WrittenType) (n : Name) (e : Option ExprTree) (t : Scope) → IsOrderly x.scope → walked_declaration w n e x.scope ≡ Ok t → Alike (Stand t) (declaration (at (one x) p) w n e) (declaration (at (two x) p) w n e)
declaration_alike x p w n e t o h =
    let d = declaration_declares w n e h in
    let y = moved x p in
    let value : optional (walked_value d.type) e (more x.scope (n.text ∷ []) (locals.Real d.type ∷ [])) ≡ Ok t = subst (λ (u : Scope). optional (walked_value d.type) e u ≡ Ok t) d.declares.is d.value in
    let first : type_in (written_type (one x).scope w) ≡ d.type = ap type_in (led (written_leads x.scope x.first x.finds w) d.declares.written) in
    let second : type_in (written_type (two x).scope w) ≡ d.type = ap type_in (led (written_leads x.scope x.second x.found w) d.declares.written) in
    subst (λ c. Alike (Stand t) (declared (at (one x) p) n.text c e) (declaration (at (two x) p) w n e)) (sym first)
    (subst (λ c. Alike (Stand t) (declared (at (one x) p) n.text d.type e) (declared (at (two x) p) n.text c e)) (sym second)
    (alike_on (alike_taken d.type) (λ k. alike_on (value_alike (grown y n.text d.type k o.locals) k d.type t e value) (λ u. alike_gives _ _ (stand (grown y n.text d.type k o.locals) (sym d.declares.is))))))

-- a statement that becomes the same, and leaves what is declared as it is
stays_alike : (x : Stands) (t : Scope) {m k : Lowering (Unit {0})} → t ≡ x.scope → Alike Is m k → Alike (Stand t) (m ⨾ (λ u. gives (one x))) (k ⨾ (λ u. gives (two x)))
stays_alike x t e h = alike_on h (λ u. alike_gives _ _ (stays_there x t e))

-- or that adds names of annotations
adds_alike : (x : Stands) (t : Scope) {m k : Lowering (Unit {0})} → IsOrderly x.scope → AddsGhosts x.scope t → Alike Is m k → Alike (Stand t) (m ⨾ (λ u. gives (one x))) (k ⨾ (λ u. gives (two x)))
adds_alike x t o e h = alike_on h (λ u. alike_gives _ _ (adds_there x t o.locals e))

-- an assignment or a call
part_alike : (x : Stands) (p : Place) (s : Simple) (t : Scope) → walked_simple s x.scope ≡ Ok t → Alike Is (simple (at (one x) p) s) (simple (at (two x) p) s)
part_alike x p s t h = simple_alike (moved x p) s (stays (refused_simple x.scope s) h).unrefused

optional_alike : (x : Stands) (s : Option Simple) (t : Scope) → optional walked_simple s x.scope ≡ Ok t → Alike Is (optional_simple (one x) s) (optional_simple (two x) s)
optional_alike x None t h = alike_same tt
optional_alike x (Some s) t h = simple_alike x s (stays (refused_simple x.scope s) h).unrefused

-- the test of a `for`
loop_test_alike : (x : Stands) (e : Option ExprTree) (t : Scope) → optional walked_condition e x.scope ≡ Ok t → Alike Is (loop_test (one x) e) (loop_test (two x) e)
loop_test_alike x None t h = alike_same _
loop_test_alike x (Some e) t h =
    let k = of_refusal (used (typed x.scope e)) (stays (refused_condition x.scope e) h).unrefused in
    let z = of_used (typed x.scope e) k.1 in
    tested_alike x e (kinds x e z.0 z.1) (outcome_alike x e z.0 z.1)

-- what stands first in a `for`
first_alike : (x : Stands) (p : Place) (f : Option First) (t : Scope) → IsOrderly x.scope → optional walked_first f x.scope ≡ Ok t → Alike (Stand t) (first_part (at (one x) p) f) (first_part (at (two x) p) f)
first_alike x p None t o h = alike_gives _ _ (stays_there (moved x p) t (sym (ok_same h)))
first_alike x p (Some (firsts.Declaration w n e)) t o h = declaration_alike x p w n (Some e) t o h
first_alike x p (Some (firsts.Simple s)) t o h = stays_alike (moved x p) t (simple_stays s h) (part_alike x p s t h)

-- `return`
of_return : (s : Scope) (r : CType) (p : Place) (e : ExprTree) → return_refusal s r p (Some e) ≡ None → Is_ok (typed s e)
of_return s r p e h = by_test (is_void r) h
  where
    by_test : (b : Bool) → (if b then Some (needless (typed s e)) else assigned_refusal s r (typed s e)) ≡ None → Is_ok {A = Operand} (typed s e)
    by_test true h = absurd cc
    by_test false h = of_assigned s r (typed s e) h

returned_alike : (x : Stands) (p q : Place) (r : CType) (e : Option ExprTree) → return_refusal x.scope r q e ≡ None → Alike Is (returned (at (one x) p) r e) (returned (at (two x) p) r e)
returned_alike x p q r None h = alike_does p (steps.return_ None) (λ b h. refl)
returned_alike x p q r (Some e) h =
    let z = of_return x.scope r q e h in
    alike_on (value_as_alike (moved x p) r e z.0 z.1) (λ v. alike_does p (steps.return_ (Some v)) (λ b h. refl))

-- the invariant of a loop declares names of annotations alone
invariant_adds : {s t : Scope} (m : Meanings) → AreUnseen m → (file : ℕ) (i : Option Invariant) → IsOrderly s → Optional (m.invariant file) i s (Ok t) → AddsGhosts s t
invariant_adds {s} {t} m d file None o h = adds_none (sym (ok_same h.is))
invariant_adds {s} {t} m d file (Some i) o h = d.invariant file i s t o h

-- behind a `for` there are the names of its invariant
for_adds : {s t u v : Scope} (f : Option First) → IsOrderly s → optional walked_first f s ≡ Ok t → AddsGhosts t u → without_first f (count s) u ≡ Ok v → AddsGhosts s v
for_adds {s} {t} {u} {v} None o h k w = subst (AddsGhosts s) (ok_same w) (subst (λ (z : Scope). AddsGhosts z u) (sym (ok_same h)) k)
for_adds {s} {t} {u} {v} (Some (firsts.Declaration c n e)) o h k w =
    let d = declaration_declares c n (Some e) h in
    let ext : Extends t u = record { names = k.names; meanings = map locals.Ghost k.ghosts; beside = k.beside ∙ sym (length-map k.ghosts locals.Ghost); is = k.is } in
    record { names = k.names; ghosts = k.ghosts; beside = k.beside; is = sym (ok_same w) ∙ without_between s n.text (locals.Real d.type) o.locals d.declares.is ext }
for_adds {s} {t} {u} {v} (Some (firsts.Simple x)) o h k w = subst (AddsGhosts s) (ok_same w) (subst (λ (z : Scope). AddsGhosts z u) (simple_stays x h) k)

-- a statement without its annotations ends at the same token
last_same : (y : StmtTree) → last_of (stripped_stmt y) ≡ last_of y
last_same (tree.declaration p w n e last) = refl
last_same (tree.simple p x last) = refl
last_same (tree.if_ p c a) = last_same a
last_same (tree.if_else p c a b) = last_same b
last_same (tree.while_ p c i a) = last_same a
last_same (tree.for_ p f c x i a) = last_same a
last_same (tree.return_ p e last) = refl
last_same (tree.block p xs last) = refl
last_same (tree.empty_ p) = refl
last_same (tree.ghost p c) = refl

-- a loop and the same without annotations
loop_alike : {A B : Type 0} {R : A → B → Type 0} (p : Place) (i : Option Invariant) (a : StmtTree) {m k : Lowering Test} {f : Lowering A} {g : Lowering B} → Alike Is m k → Alike R f g → Alike Is (looped p i (last_of a) m f) (looped p None (last_of (stripped_stmt a)) k g)
loop_alike p i a {m} {k} {f} {g} h t = subst (λ q. Alike Is (looped p i (last_of a) m f) (looped p None q k g)) (sym (last_same a)) (alike_looped p i None (last_of a) h t)

-- a statement becomes the same without its annotations
abbrev Becomes : Meanings → CType → StmtTree → Type 0
Becomes m r y = (x : Stands) (t : Scope) → IsOrderly x.scope → WalksStmt m r y x.scope (Ok t) → Alike (Stand t) (statement (one x) r y) (statement (two x) r (stripped_stmt y))

abbrev Become : Meanings → CType → StmtTrees → Type 0
Become m r ys = (x : Stands) (t : Scope) → IsOrderly x.scope → WalksStmts m r ys x.scope (Ok t) → Alike (Stand t) (statements (one x) r ys) (statements (two x) r (stripped_stmts ys))

-- the same where other things are equal
there : (m : Meanings) (r : CType) (y : StmtTree) → Becomes m r y → (x : Stands) (s t : Scope) → s ≡ x.scope → IsOrderly x.scope → WalksStmt m r y s (Ok t) → Alike (Stand t) (statement (one x) r y) (statement (two x) r (stripped_stmt y))
there m r y f x s t e o h = f x t o (subst (λ (u : Scope). WalksStmt m r y u (Ok t)) e h)

more_alike : (m : Meanings) → AreUnseen m → (r : CType) (y : StmtTree) (ys : StmtTrees) → Becomes m r y → Become m r ys → (x : Stands) (t : Scope) → IsOrderly x.scope → WalksStmts m r (more_stmt y ys) x.scope (Ok t)
    → Alike (Stand t) (statement (one x) r y ⨾ (λ d. statements d r ys)) (statement (two x) r (stripped_stmt y) ⨾ (λ d. statements d r (stripped_stmts ys)))
more_alike m d r y ys f g x t o h =
    let k = went h in
    let o₁ : IsOrderly k.at = extends_orderly (stmt_extends m d r y x.scope k.at o k.first) o in
    alike_then (f x k.at o k.first) (λ a b s. behind s o₁ k.next)
  where
    behind : {u : Scope} {a b : Setting} → Stand u a b → IsOrderly u → WalksStmts m r ys u (Ok t) → Alike (Stand t) (statements a r ys) (statements b r (stripped_stmts ys))
    behind (stand z e) o h = g z t (subst IsOrderly (sym e) o) (subst (λ (u : Scope). WalksStmts m r ys u (Ok t)) (sym e) h)

-- a statement and a test in front of it
test_then : (m : Meanings) (r : CType) (p : Place) (e : ExprTree) (a : StmtTree) → AreUnseen m → Becomes m r a → Becomes m r (tree.if_ p e a)
test_then m r p e a d f x t o h =
    let k = went h in
    let same = condition_stays e k.first.is in
    let o₁ : IsOrderly k.at = subst IsOrderly (sym same) o in
    let j = went k.next in
    alike_on (condition_alike x p k.at e k.first.is) (λ z. stays_alike x t (inner_back (WalksStmt m r a) (λ u g. stmt_extends m d r a k.at u o₁ g) o₁ k.next ∙ same)
    (alike_when p z (there m r a f x k.at j.at same o j.first)))

two_tests : (m : Meanings) (r : CType) (p : Place) (e : ExprTree) (a b : StmtTree) → AreUnseen m → Becomes m r a → Becomes m r b → Becomes m r (tree.if_else p e a b)
two_tests m r p e a b d f g x t o h =
    let k = went h in
    let j = went k.first in
    let same = condition_stays e j.first.is in
    let o₁ : IsOrderly j.at = subst IsOrderly (sym same) o in
    let one_ = inner_back (WalksStmt m r a) (λ u w. stmt_extends m d r a j.at u o₁ w) o₁ j.next in
    let o₂ : IsOrderly k.at = subst IsOrderly (sym one_) o₁ in
    let i = went j.next in
    let l = went k.next in
    alike_on (condition_alike x p j.at e j.first.is) (λ z. stays_alike x t (inner_back (WalksStmt m r b) (λ u w. stmt_extends m d r b k.at u o₂ w) o₂ k.next ∙ one_ ∙ same)
    (alike_either p z (there m r a f x j.at i.at same o i.first) (there m r b g x k.at l.at (one_ ∙ same) o l.first)))

-- the body of a loop, where an invariant has declared names
body_alike : (m : Meanings) (r : CType) (a : StmtTree) → Becomes m r a → (x : Stands) (s u : Scope) → IsOrderly x.scope → AddsGhosts x.scope s → IsOrderly s → WalksStmt m r a s (Ok u) → Alike (Stand u) (statement (one x) r a) (statement (two x) r (stripped_stmt a))
body_alike m r a f x s u o h q w = f (hidden x h.names h.ghosts o.locals) u (subst IsOrderly h.is q) (subst (λ (v : Scope). WalksStmt m r a v (Ok u)) h.is w)

while_becomes : (m : Meanings) (r : CType) (p : Place) (e : ExprTree) (i : Option Invariant) (a : StmtTree) → AreUnseen m → Becomes m r a → Becomes m r (tree.while_ p e i a)
while_becomes m r p e i a d f x t o h =
    let k = went h in
    let j = went k.first in
    let same = condition_stays e j.first.is in
    let o₁ : IsOrderly j.at = subst IsOrderly (sym same) o in
    let adds : AddsGhosts x.scope k.at = subst (λ (u : Scope). AddsGhosts u k.at) same (invariant_adds m d p.file i o₁ j.next) in
    let o₂ : IsOrderly k.at = extends_orderly (invariant_extends m d p.file i o₁ j.next) o₁ in
    let back = inner_back (WalksStmt m r a) (λ u w. stmt_extends m d r a k.at u o₂ w) o₂ k.next in
    let l = went k.next in
    adds_alike x t o (subst (AddsGhosts x.scope) (sym back) adds)
    (loop_alike p i a (condition_alike x p j.at e j.first.is) (body_alike m r a f x k.at l.at o adds o₂ l.first))

-- a `for` behind its first part
for_loop : (m : Meanings) (r : CType) (p : Place) (f : Option First) (c : Option ExprTree) (s : Option Simple) (i : Option Invariant) (a : StmtTree) → AreUnseen m → Becomes m r a → (x : Stands) (u : Scope) → IsOrderly x.scope → optional walked_condition c x.scope ≡ Ok x.scope → optional walked_simple s x.scope ≡ Ok x.scope
    → Optional (m.invariant p.file) i x.scope (Ok u) → (v : Scope) → WalksStmt m r a u (Ok v)
    → Alike Is (looped p i (last_of a) (loop_test (one x) c) (statement (one x) r a ⨾ (λ z. optional_simple (one x) s))) (looped p None (last_of (stripped_stmt a)) (loop_test (two x) c) (statement (two x) r (stripped_stmt a) ⨾ (λ z. optional_simple (two x) s)))
for_loop m r p f c s i a d g x u o test step inv v w =
    let adds : AddsGhosts x.scope u = invariant_adds m d p.file i o inv in
    let q : IsOrderly u = extends_orderly (invariant_extends m d p.file i o inv) o in
    loop_alike p i a (loop_test_alike x c x.scope test) (alike_then (body_alike m r a g x u v o adds q w) (λ b c z. optional_alike x s x.scope step))

for_becomes : (m : Meanings) (r : CType) (p : Place) (f : Option First) (c : Option ExprTree) (s : Option Simple) (i : Option Invariant) (a : StmtTree) → AreUnseen m → Becomes m r a → Becomes m r (tree.for_ p f c s i a)
for_becomes m r p f c s i a d g x t o h =
    let k = went h in
    let j = went k.first in
    let parts = for_parts_go f c s j.first.is in
    let o₁ : IsOrderly j.at = extends_orderly (first_extends f parts.first) o in
    let o₂ : IsOrderly k.at = extends_orderly (invariant_extends m d p.file i o₁ j.next) o₁ in
    let l = went k.next in
    let b = went l.first in
    let same = inner_back (WalksStmt m r a) (λ u w. stmt_extends m d r a k.at u o₂ w) o₂ l.first in
    let adds : AddsGhosts x.scope t = for_adds f o parts.first (invariant_adds m d p.file i o₁ j.next) (subst (λ (u : Scope). without_first f (count x.scope) u ≡ Ok t) same l.next.is) in
    alike_then (first_alike x p f j.at o parts.first) (λ y z st. alike_on (behind k.at b.at st o₁ parts.condition parts.step j.next b.first) (λ u. alike_gives _ _ (adds_there x t o.locals adds)))
  where
    behind : (u v : Scope) {s₁ : Scope} {y z : Setting} → Stand s₁ y z → IsOrderly s₁ → optional walked_condition c s₁ ≡ Ok s₁ → optional walked_simple s s₁ ≡ Ok s₁ → Optional (m.invariant p.file) i s₁ (Ok u) → WalksStmt m r a u (Ok v)
        → Alike Is (looped p i (last_of a) (loop_test y c) (statement y r a ⨾ (λ q. optional_simple y s))) (looped p None (last_of (stripped_stmt a)) (loop_test z c) (statement z r (stripped_stmt a) ⨾ (λ q. optional_simple z s)))
    behind u v (stand w e) q holds step inv body =
        for_loop m r p f c s i a d g w u (subst IsOrderly (sym e) q)
        (subst (λ (z : Scope). optional walked_condition c z ≡ Ok z) (sym e) holds) (subst (λ (z : Scope). optional walked_simple s z ≡ Ok z) (sym e) step)
        (subst (λ (z : Scope). Optional (m.invariant p.file) i z (Ok u)) (sym e) inv) v body

-- a ghost command leaves the setting as it is
regroup : {t : Scope} (p : Place) (g : GhostCommandTree) (c : Setting) (r : CType) (ys zs : StmtTrees) (d : Setting) → Alike (Stand t) (does p (steps.ghost g) ⨾ (λ u. statements c r ys)) (statements d r zs) → Alike (Stand t) (statements c r (more_stmt (tree.ghost p g) ys)) (statements d r zs)
unfolding does ◌⨾◌ gives
regroup p g c r ys zs d h = record { left = h.left; locals = h.locals; nodes = h.nodes }

-- a block
block_alike : (x : Stands) (t : Scope) {u : Scope} {m k : Lowering Setting} → t ≡ x.scope → Alike (Stand u) m k → Alike (Stand t) (m ⨾ (λ d. gives (one x))) (k ⨾ (λ d. gives (two x)))
block_alike x t e h = alike_then h (λ a b s. alike_gives _ _ (stays_there x t e))

-- a ghost command in front of statements
ghost_then : (m : Meanings) → AreUnseen m → (r : CType) (p : Place) (g : GhostCommandTree) (ys : StmtTrees) → Become m r ys → (x : Stands) (t : Scope) → IsOrderly x.scope → WalksStmts m r (more_stmt (tree.ghost p g) ys) x.scope (Ok t)
    → Alike (Stand t) (statements (one x) r (more_stmt (tree.ghost p g) ys)) (statements (two x) r (stripped_stmts ys))
ghost_then m d r p g ys f x t o h =
    let k = went h in
    let adds = d.command g x.scope k.at o k.first in
    let y = hidden x adds.names adds.ghosts o.locals in
    let q : IsOrderly k.at = extends_orderly (stmt_extends m d r (tree.ghost p g) x.scope k.at o k.first) o in
    regroup p g (one x) r ys (stripped_stmts ys) (two x) (alike_hidden p (steps.ghost g) refl (f y t (subst IsOrderly adds.is q) (subst (λ (u : Scope). WalksStmts m r ys u (Ok t)) adds.is k.next)))

mutual
  -- a statement
  pub stmt_alike : (m : Meanings) → AreUnseen m → (r : CType) (y : StmtTree) → Becomes m r y
  stmt_alike m d r (tree.declaration p w n e last) x t o h = declaration_alike x p w n e t o h.is
  stmt_alike m d r (tree.simple p s last) x t o h = stays_alike x t (simple_stays s h.is) (part_alike x p s t h.is)
  stmt_alike m d r (tree.if_ p e a) x t o h = test_then m r p e a d (stmt_alike m d r a) x t o h
  stmt_alike m d r (tree.if_else p e a b) x t o h = two_tests m r p e a b d (stmt_alike m d r a) (stmt_alike m d r b) x t o h
  stmt_alike m d r (tree.while_ p e i a) x t o h = while_becomes m r p e i a d (stmt_alike m d r a) x t o h
  stmt_alike m d r (tree.for_ p f c s i a) x t o h = for_becomes m r p f c s i a d (stmt_alike m d r a) x t o h
  stmt_alike m d r (tree.return_ p e last) x t o h = let k = stays (return_refusal x.scope r p e) h.is in stays_alike x t k.is (returned_alike x p p r e k.unrefused)
  stmt_alike m d r (tree.block p xs last) x t o h = let k = went h in block_alike x t (inner_back (WalksStmts m r xs) (λ u w. stmts_extend m d r xs x.scope u o w) o h) (stmts_alike m d r xs x k.at o k.first)
  stmt_alike m d r (tree.empty_ p) x t o h = alike_gives _ _ (stays_there x t (sym (ok_same h.is)))
  stmt_alike m d r (tree.ghost p g) x t o h = alike_hidden p (steps.ghost g) refl (alike_gives _ _ (adds_there x t o.locals (d.command g x.scope t o h)))

  -- statements in order
  pub stmts_alike : (m : Meanings) → AreUnseen m → (r : CType) (ys : StmtTrees) → Become m r ys
  stmts_alike m d r no_stmt x t o h = alike_gives _ _ (stays_there x t (sym (ok_same h.is)))
  stmts_alike m d r (more_stmt (tree.ghost p g) ys) x t o h = ghost_then m d r p g ys (stmts_alike m d r ys) x t o h
  stmts_alike m d r (more_stmt (tree.declaration p w n e last) ys) x t o h = more_alike m d r (tree.declaration p w n e last) ys (stmt_alike m d r (tree.declaration p w n e last)) (stmts_alike m d r ys) x t o h
  stmts_alike m d r (more_stmt (tree.simple p s last) ys) x t o h = more_alike m d r (tree.simple p s last) ys (stmt_alike m d r (tree.simple p s last)) (stmts_alike m d r ys) x t o h
  stmts_alike m d r (more_stmt (tree.if_ p e a) ys) x t o h = more_alike m d r (tree.if_ p e a) ys (stmt_alike m d r (tree.if_ p e a)) (stmts_alike m d r ys) x t o h
  stmts_alike m d r (more_stmt (tree.if_else p e a b) ys) x t o h = more_alike m d r (tree.if_else p e a b) ys (stmt_alike m d r (tree.if_else p e a b)) (stmts_alike m d r ys) x t o h
  stmts_alike m d r (more_stmt (tree.while_ p e i a) ys) x t o h = more_alike m d r (tree.while_ p e i a) ys (stmt_alike m d r (tree.while_ p e i a)) (stmts_alike m d r ys) x t o h
  stmts_alike m d r (more_stmt (tree.for_ p f c s i a) ys) x t o h = more_alike m d r (tree.for_ p f c s i a) ys (stmt_alike m d r (tree.for_ p f c s i a)) (stmts_alike m d r ys) x t o h
  stmts_alike m d r (more_stmt (tree.return_ p e last) ys) x t o h = more_alike m d r (tree.return_ p e last) ys (stmt_alike m d r (tree.return_ p e last)) (stmts_alike m d r ys) x t o h
  stmts_alike m d r (more_stmt (tree.block p xs last) ys) x t o h = more_alike m d r (tree.block p xs last) ys (stmt_alike m d r (tree.block p xs last)) (stmts_alike m d r ys) x t o h
  stmts_alike m d r (more_stmt (tree.empty_ p) ys) x t o h = more_alike m d r (tree.empty_ p) ys (stmt_alike m d r (tree.empty_ p)) (stmts_alike m d r ys) x t o h
