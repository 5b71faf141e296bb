-- What is spelled by the grammar without annotations is left as it is where annotations are left out.
use Rattle.std.proofs.Common.{◌≡◌, ℕ, false, List, [], ◌∷◌, Option, Some, None, refl, ap}
use Rattle.std.specs.Prelude.{filter_map}
use Rattle.std.specs.List.{cons_option}
use Rattle.vf_lexer.specs.declared.token.Token.{Token}
use Rattle.vf_syntax.specs.declared.side.Grammar.TheVariants.{Plain}
use Rattle.vf_syntax.specs.declared.item.Body.{Body}
use Rattle.vf_syntax.specs.declared.item.Item.{Item}
use Rattle.vf_syntax.specs.declared.item.Item.TheVariants as items
use Rattle.vf_syntax.specs.declared.item.Unit.{Unit as FileUnit}
use Rattle.vf_syntax.specs.StmtTree.{StmtTree, StmtTrees, no_stmt, more_stmt, stmt_list}
use Rattle.vf_syntax.specs.StmtTree as tree
use Rattle.vf_syntax.specs.Walks.{Walk, ◌⨾◌, never, provided, at, mark, word}
use Rattle.vf_syntax.specs.Lists.{each, optional}
use Rattle.vf_syntax.specs.Statements.{claim, contract, invariant_walk, owed, allowed, simple, first, is_command, stmt, stmts}
use Rattle.vf_syntax.specs.Units.{signature, body, item, unit, Spells}
use Rattle.vf_syntax.specs.Expressions.{expr}
use Rattle.vf_grammar_read.proofs.expressions.Fronts.{gone}
use Rattle.vf_erasure_laws.specs.plain.Stripped.{stripped_stmt, stripped_stmts, stripped_part, stripped_body, stripped_item, stripped_items, stripped}

-- where a walk takes something, P holds
record Tells (f : Walk) (P : Type 0) : Type 0 where
  tells : (ts rest : List Token) → f ts ≡ Some rest → P

always : {f : Walk} {P : Type 0} → P → Tells f P
always h = record { tells = λ ts rest e. h }

never_tells : {P : Type 0} → Tells never P
never_tells = record { tells = λ ts rest e. absurd cc }

so : {f : Walk} {P Q : Type 0} → (P → Q) → Tells f P → Tells f Q
so h a = record { tells = λ ts rest e. h (a.tells ts rest e) }

front : {f : Walk} {P : Type 0} → Tells f P → (g : Walk) → Tells (f ⨾ g) P
front {f = f} a g = record { tells = λ ts rest e. let m = gone {g = g} (f ts) e in a.tells ts m.0 m.1 }

behind : {g : Walk} {P : Type 0} (f : Walk) → Tells g P → Tells (f ⨾ g) P
behind {g = g} f a = record { tells = λ ts rest e. let m = gone {g = g} (f ts) e in a.tells m.0 rest m.2 }

together : {f g : Walk} {P Q : Type 0} → Tells f P → Tells g Q → Tells (f ⨾ g) (P × Q)
together {f = f} {g = g} a b = record { tells = λ ts rest e. let m = gone {g = g} (f ts) e in (a.tells ts m.0 m.1, b.tells m.0 rest m.2) }

owed_tells : {A : Type 0} (w : A → Walk) (x : Option A) → Tells (owed Plain w x) (None ≡ x)
owed_tells w None = always refl
owed_tells w (Some x) = never_tells

allowed_tells : {A : Type 0} (w : A → Walk) (x : Option A) → Tells (allowed Plain w x) (None ≡ x)
allowed_tells w None = always refl
allowed_tells w (Some x) = never_tells

no_command : (x : StmtTree) → Tells (stmt Plain x) (is_command x ≡ false)
no_command (tree.ghost p c) = never_tells
no_command x = always refl

-- a list of which nothing is left out
listed : (x : StmtTree) (xs : StmtTrees) → is_command x ≡ false → stripped_stmt x ≡ x → stripped_stmts xs ≡ xs → stripped_stmts (more_stmt x xs) ≡ more_stmt x xs
listed x xs h one all = rw h (λ i. more_stmt (one i) (all i))

mutual
  stmt_stays : (x : StmtTree) → Tells (stmt Plain x) (stripped_stmt x ≡ x)
  stmt_stays (tree.declaration p t n e last) = always refl
  stmt_stays (tree.simple p s last) = always refl
  stmt_stays (tree.if_ p c a) = behind (at _) (behind (word _ _) (behind (mark _ _) (behind (expr c) (behind (mark _ _) (behind (provided _) (so (ap (tree.if_ p c)) (stmt_stays a)))))))
  stmt_stays (tree.if_else p c a b) = behind (at _) (behind (word _ _) (behind (mark _ _) (behind (expr c) (behind (mark _ _) (behind (provided _) (behind (provided _) (so (λ h i. tree.if_else p c (h.0 i) (h.1 i)) (together (stmt_stays a) (behind (word _ _) (behind (provided _) (stmt_stays b)))))))))))
  stmt_stays (tree.while_ p c v body) = behind (at _) (behind (word _ _) (behind (mark _ _) (behind (expr c) (behind (mark _ _) (so (λ h i. tree.while_ p c (h.0 i) (h.1 i)) (together (owed_tells invariant_walk v) (behind (provided _) (stmt_stays body))))))))
  stmt_stays (tree.for_ p f c s v body) = behind (at _) (behind (word _ _) (behind (mark _ _) (behind (optional first f) (behind (mark _ _) (behind (optional expr c) (behind (mark _ _) (behind (optional simple s) (behind (mark _ _) (so (λ h i. tree.for_ p f c s (h.0 i) (h.1 i)) (together (owed_tells invariant_walk v) (behind (provided _) (stmt_stays body))))))))))))
  stmt_stays (tree.return_ p e last) = always refl
  stmt_stays (tree.block p xs last) = behind (at _) (behind (mark _ _) (front (so (λ h i. tree.block p (h i) last) (stmts_stay xs)) (at _ ⨾ mark _ _)))
  stmt_stays (tree.empty_ p) = always refl
  stmt_stays (tree.ghost p c) = never_tells

  stmts_stay : (xs : StmtTrees) → Tells (stmts Plain xs) (stripped_stmts xs ≡ xs)
  stmts_stay no_stmt = always refl
  stmts_stay (more_stmt x xs) = record { tells = λ ts rest e. listed x xs ((front (no_command x) (stmts Plain xs)).tells ts rest e) ((front (stmt_stays x) (stmts Plain xs)).tells ts rest e) ((behind (stmt Plain x) (stmts_stay xs)).tells ts rest e) }

part_stays : (x : StmtTree) (xs ys : List StmtTree) → is_command x ≡ false → stripped_stmt x ≡ x → xs ≡ ys → cons_option (stripped_part x) xs ≡ x ∷ ys
part_stays x xs ys h one all = rw h (λ i. one i ∷ all i)

parts_stay : (xs : List StmtTree) → Tells (stmts Plain (stmt_list xs)) (filter_map stripped_part xs ≡ xs)
parts_stay [] = always refl
parts_stay (x ∷ xs) = record { tells = λ ts rest e. part_stays x (filter_map stripped_part xs) xs ((front (no_command x) (stmts Plain (stmt_list xs))).tells ts rest e) ((front (stmt_stays x) (stmts Plain (stmt_list xs))).tells ts rest e) ((behind (stmt Plain x) (parts_stay xs)).tells ts rest e) }

body_stays : (x : Body) → Tells (body Plain x) (stripped_body x ≡ x)
unfolding body
body_stays x = behind (at _) (behind (mark _ _) (front (so (λ h i. record { place = x.place; statements = h i; last = x.last }) (parts_stay x.statements)) (at _ ⨾ mark _ _)))

item_stays : (x : Item) → Tells (item Plain x) (stripped_item x ≡ Some x)
unfolding item
item_stays (items.Opaque p tag) = always refl
item_stays (items.Struct p tag fs) = always refl
item_stays (items.FunctionType p s c) = behind (at _) (behind (word _ _) (behind (signature s) (behind (mark _ _) (so (λ h i. Some (items.FunctionType p s (h i))) (owed_tells contract c)))))
item_stays (items.Prototype s q c) = behind (signature s) (behind (mark _ _) (so (λ h i. Some (items.Prototype s (h.0 i) (h.1 i))) (together (allowed_tells claim q) (owed_tells contract c))))
item_stays (items.Function s q c b) = behind (signature s) (so (λ h i. Some (items.Function s (h.0 i) (h.1.0 i) (h.1.1 i))) (together (allowed_tells claim q) (together (allowed_tells contract c) (body_stays b))))
item_stays (items.Ghost x) = never_tells

items_stay : (xs : List Item) → Tells (each (item Plain) xs) (stripped_items xs ≡ xs)
items_stay [] = always refl
items_stay (x ∷ xs) = so (λ h i. cons_option (h.0 i) (h.1 i)) (together (item_stays x) (items_stay xs))

pub stays : (d : ℕ) (u : FileUnit) (ts : List Token) → Spells Plain d u ts → stripped u ≡ u
unfolding unit
stays d u ts s = let h = (items_stay u.items).tells ts [] s.spelled in λ i. record { items = h i; headers = u.headers }
