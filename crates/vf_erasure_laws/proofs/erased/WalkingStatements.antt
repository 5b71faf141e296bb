-- The walk over statements without the annotations in them comes to what C text sees of what they declare.
use Rattle.std.proofs.Common.{◌≡◌, ℕ, Bool, true, false, if◌then◌else◌, List, [], ◌∷◌, Option, Some, None, Ok, Err, refl, sym, ap, subst, ◌∙◌, append-nil, map}
use Rattle.std.proofs.lemmas.List.{length-map}
use Rattle.vf_base.specs.declared.place.Place.{Place}
use Rattle.vf_base.specs.declared.rule.Rule.TheVariants as rules
use Rattle.vf_declared.specs.declared.ctype.CType.{CType}
use Rattle.vf_declared.specs.declared.locals.Local.{Local}
use Rattle.vf_declared.specs.declared.locals.Local.TheVariants as locals
use Rattle.vf_declared.specs.declared.scope.Scope.{Scope}
use Rattle.vf_declared.specs.Changes.{IsAligned, without_local}
use Rattle.vf_syntax.specs.declared.contract.Invariant.{Invariant}
use Rattle.vf_syntax.specs.declared.simple.First.{First}
use Rattle.vf_syntax.specs.declared.simple.First.TheVariants as firsts
use Rattle.vf_syntax.specs.declared.simple.Simple.{Simple}
use Rattle.vf_syntax.specs.declared.written.CType.{CType as WrittenType}
use Rattle.vf_syntax.specs.declared.written.Name.{Name}
use Rattle.vf_syntax.specs.ExprTree.{ExprTree}
use Rattle.vf_syntax.specs.Statements.{is_command}
use Rattle.vf_syntax.specs.StmtTree.{StmtTree, StmtTrees, no_stmt, more_stmt, stmt_list}
use Rattle.vf_syntax.specs.StmtTree as tree
use Rattle.vf_typing.specs.Names.{written_type}
use Rattle.vf_typing.specs.Operands.{assigned_refusal}
use Rattle.vf_typing.specs.Refusals.{refused}
use Rattle.vf_typing.specs.Typed.{typed}
use Rattle.vf_typing.specs.Types.{is_void}
use Rattle.vf_walk.specs.Meanings.{Meanings, no_meanings}
use Rattle.vf_walk.specs.Statements.{condition, count, declaration, declared, first_part, first_value, for_parts, Inner, needless, return_refusal, simple, variable, WalksStmt, WalksStmts, with_variable, without_first}
use Rattle.vf_walk.specs.Walking.{behind, Only, optional, Optional, Then, unless, Walked}
use Rattle.vf_walk.specs.Walking as walking
use Rattle.vf_erasure_laws.specs.seen.Seen.{IsOrderly, seen}
use Rattle.vf_erasure_laws.specs.seen.Unseen.{AddsGhosts, AreUnseen}
use Rattle.vf_erasure_laws.specs.plain.Stripped.{stripped_stmt, stripped_stmts}
use Rattle.vf_erasure_laws.proofs.erased.WalkingSteps.{ok_same, on, stays, unrefused, went}
use Rattle.vf_erasure_laws.proofs.erased.WalkingExtends.{condition_stays, Declares, DeclaresFirst, declaration_declares, Extends, extends_orderly, first_extends, ForParts, for_parts_go, ghosts_extend, inner_back, more, simple_stays, stmt_extends, stmts_extend, without_between}
use Rattle.vf_erasure_laws.proofs.erased.WalkingSeen.{assigned_seen, condition_seen, fresh_seen, seen_aligned, seen_back, seen_ghosts, seen_more, simple_seen, written_seen}

-- ---- declarations
-- C text sees a local of C that is declared
pub declared_seen : {w : WrittenType} {n : Name} {c : CType} {s t : Scope} → IsAligned s.locals → Declares w n c s t → seen t ≡ more (seen s) (n.text ∷ []) (locals.Real c ∷ [])
declared_seen {n = n} {c = c} {s = s} a h = ap seen h.is ∙ seen_more s (n.text ∷ []) (locals.Real c ∷ []) a

-- and it is declared too where C text alone is seen
pub with_variable_seen : {w : WrittenType} {n : Name} {c : CType} {s t : Scope} → IsAligned s.locals → Declares w n c s t → with_variable n c (seen s) ≡ Ok (seen t)
with_variable_seen {n = n} {c = c} {s = s} a h = ap (λ b. if b then Err (refused rules.Name n.place) else Ok (more (seen s) (n.text ∷ []) (locals.Real c ∷ []))) (fresh_seen s n.text h.fresh) ∙ ap Ok (sym (declared_seen a h))

pub variable_seen : {w : WrittenType} {n : Name} {c : CType} {s t : Scope} → IsAligned s.locals → Declares w n c s t → variable n w (seen s) ≡ Ok (seen t)
variable_seen {w = w} {n = n} {s = s} a h = on (λ t. with_variable n t (seen s)) (written_type (seen s) w) (written_seen s w h.written) (with_variable_seen a h)

value_seen : {s : Scope} (c : CType) (e : Option ExprTree) → optional (first_value c) e s ≡ Ok s → optional (first_value c) e (seen s) ≡ Ok (seen s)
value_seen c None h = refl
value_seen {s} c (Some e) h = unrefused (seen s) (assigned_seen s c e (stays _ h).unrefused)

declaration_seen : {w : WrittenType} {n : Name} {e : Option ExprTree} {s t : Scope} → IsAligned s.locals → DeclaresFirst w n e s t → declaration w n e (seen s) ≡ Ok (seen t)
declaration_seen {w = w} {n = n} {e = e} {s = s} {t = t} a h =
    on (λ c. declared n e c (seen s)) (written_type (seen s) w) (written_seen s w h.declares.written)
    (on (optional (first_value h.type) e) (with_variable n h.type (seen s)) (with_variable_seen a h.declares) (value_seen h.type e h.value))

-- ---- parts that change nothing
simple_goes : {s : Scope} (x : Simple) → simple x s ≡ Ok s → simple x (seen s) ≡ Ok (seen s)
simple_goes {s} x h = unrefused (seen s) (simple_seen s x (stays _ h).unrefused)

condition_goes : {s : Scope} (e : ExprTree) → condition e s ≡ Ok s → condition e (seen s) ≡ Ok (seen s)
condition_goes {s} e h = unrefused (seen s) (condition_seen s e (stays _ h).unrefused)

optional_goes : {A : Type 0} {s : Scope} (f : A → Scope → Walked) → ((a : A) → f a s ≡ Ok s → f a (seen s) ≡ Ok (seen s)) → (o : Option A) → optional f o s ≡ Ok s → optional f o (seen s) ≡ Ok (seen s)
optional_goes f each None h = refl
optional_goes f each (Some a) h = each a h

return_seen : (s : Scope) (r : CType) (p : Place) (e : Option ExprTree) → return_refusal s r p e ≡ None → return_refusal (seen s) r p e ≡ None
return_seen s r p None h = h
return_seen s r p (Some e) h = by_test (is_void r) h
  where
    by_test : (b : Bool) → (if b then Some (needless (typed s e)) else assigned_refusal s r (typed s e)) ≡ None → (if b then Some (needless (typed (seen s) e)) else assigned_refusal (seen s) r (typed (seen s) e)) ≡ None
    by_test true h = absurd cc
    by_test false h = assigned_seen s r e h

-- ---- what stands in front of the body of a `for`
first_seen : {t : Scope} (s : Scope) (f : Option First) → IsAligned s.locals → optional first_part f s ≡ Ok t → optional first_part f (seen s) ≡ Ok (seen t)
first_seen s None a h = ap (λ (u : Scope). Ok (seen u)) (ok_same h)
first_seen s (Some (firsts.Declaration w n e)) a h = declaration_seen a (declaration_declares w n (Some e) h)
first_seen {t} s (Some (firsts.Simple x)) a h =
    let same = simple_stays x h in
    simple_goes x (h ∙ ap Ok same) ∙ ap (λ (u : Scope). Ok (seen u)) (sym same)

for_parts_seen : {s t : Scope} (f : Option First) (c : Option ExprTree) (x : Option Simple) → IsAligned s.locals → ForParts f c x s t → for_parts f c x (seen s) ≡ Ok (seen t)
for_parts_seen {s} f c x a h =
    on (optional simple x) (behind (optional condition c) (optional first_part f (seen s)))
    (on (optional condition c) (optional first_part f (seen s)) (first_seen s f a h.first) (optional_goes condition (λ e g. condition_goes e g) c h.condition))
    (optional_goes simple (λ y g. simple_goes y g) x h.step)

-- ---- parts with locals of their own
inner_seen : {s : Scope} (F G : Scope → Walked → Type 0) → IsAligned s.locals → {t : Scope} → ((u : Scope) → F s (Ok u) → Extends s u) → ((u : Scope) → F s (Ok u) → G (seen s) (Ok (seen u))) → Inner F s (Ok t) → Inner G (seen s) (Ok (seen s))
inner_seen F G a each same h =
    let k = went h in
    walking.goes (same k.at k.first) (record { is = ap Ok (seen_back a (each k.at k.first)) })

-- ---- annotations
pub adds_none : {s t : Scope} → t ≡ s → AddsGhosts s t
adds_none {s} e = subst (AddsGhosts s) (sym e) (record {
  names = [];
  ghosts = [];
  beside = refl;
  is = λ i. record s { locals = record { names = sym (append-nil s.locals.names) i; meanings = sym (append-nil s.locals.meanings) i } };
})

invariant_adds : {s t : Scope} (m : Meanings) → AreUnseen m → (file : ℕ) (i : Option Invariant) → IsOrderly s → Optional (m.invariant file) i s (Ok t) → AddsGhosts s t
invariant_adds m d file None o h = adds_none (sym (ok_same h.is))
invariant_adds m d file (Some i) o h = d.invariant file i _ _ o h

command_adds : {s t : Scope} (m : Meanings) → AreUnseen m → (r : CType) (x : StmtTree) → is_command x ≡ true → IsOrderly s → WalksStmt m r x s (Ok t) → AddsGhosts s t
command_adds m d r (tree.ghost p c) e o h = d.command c _ _ o h
command_adds m d r (tree.declaration p w n f last) e o h = absurd cc
command_adds m d r (tree.simple p x last) e o h = absurd cc
command_adds m d r (tree.if_ p c a) e o h = absurd cc
command_adds m d r (tree.if_else p c a b) e o h = absurd cc
command_adds m d r (tree.while_ p c i a) e o h = absurd cc
command_adds m d r (tree.for_ p f c x i a) e o h = absurd cc
command_adds m d r (tree.return_ p x last) e o h = absurd cc
command_adds m d r (tree.block p xs last) e o h = absurd cc
command_adds m d r (tree.empty_ p) e o h = absurd cc

-- ---- behind a `for`
nothing_between : {t : Scope} (s : Scope) (x : List ℕ) (l : Local) → IsAligned s.locals → t ≡ more s (x ∷ []) (l ∷ []) → record t { locals = without_local t.locals (count s) } ≡ s
nothing_between {t} s x l a e =
    without_between s x l a e (record { names = []; meanings = []; beside = refl; is = λ i. record t { locals = record { names = sym (append-nil t.locals.names) i; meanings = sym (append-nil t.locals.meanings) i } } })
    ∙ (λ i. record s { locals = record { names = append-nil s.locals.names i; meanings = append-nil s.locals.meanings i } })

ghosts_between : {t u : Scope} (s : Scope) (x : List ℕ) (l : Local) → IsAligned s.locals → t ≡ more s (x ∷ []) (l ∷ []) → AddsGhosts t u → AddsGhosts s (record u { locals = without_local u.locals (count s) })
ghosts_between s x l a e h = record {
  names = h.names;
  ghosts = h.ghosts;
  beside = h.beside;
  is = without_between s x l a e (record { names = h.names; meanings = map locals.Ghost h.ghosts; beside = h.beside ∙ sym (length-map h.ghosts locals.Ghost); is = h.is });
}

without_first_seen : {t u v : Scope} (s : Scope) (f : Option First) → IsAligned s.locals → optional first_part f s ≡ Ok t → IsAligned t.locals → AddsGhosts t u → without_first f (count s) u ≡ Ok v → without_first f (count (seen s)) (seen u) ≡ Ok (seen v)
without_first_seen s None a h b g w = ap (λ (v : Scope). Ok (seen v)) (ok_same w)
without_first_seen s (Some (firsts.Simple x)) a h b g w = ap (λ (v : Scope). Ok (seen v)) (ok_same w)
without_first_seen s (Some (firsts.Declaration c n e)) a h b g w =
    let d = declaration_declares c n (Some e) h in
    let back = nothing_between (seen s) n.text (locals.Real d.type) (seen_aligned s a) (seen_ghosts b g ∙ declared_seen a d.declares) in
    let there = seen_ghosts a (ghosts_between s n.text (locals.Real d.type) a d.declares.is g) in
    ap Ok (back ∙ sym there ∙ ap seen (ok_same w))

-- ---- statements
-- a statement in front of others, which is left out where it is a ghost command
one_more : {s : Scope} (t u : Scope) (m : Meanings) → AreUnseen m → (r : CType) (x : StmtTree) (xs : StmtTrees) → IsOrderly s → WalksStmt m r x s (Ok u) → WalksStmt no_meanings r (stripped_stmt x) (seen s) (Ok (seen u)) → WalksStmts no_meanings r (stripped_stmts xs) (seen u) (Ok (seen t)) → (b : Bool) → is_command x ≡ b → WalksStmts no_meanings r (if b then stripped_stmts xs else more_stmt (stripped_stmt x) (stripped_stmts xs)) (seen s) (Ok (seen t))
one_more t u m d r x xs o h first rest true e = subst (λ v. WalksStmts no_meanings r (stripped_stmts xs) v (Ok (seen t))) (seen_ghosts o.locals (command_adds m d r x e o h)) rest
one_more t u m d r x xs o h first rest false e = walking.goes first rest

mutual
  -- a statement without the annotations in it
  pub stmt_seen : (m : Meanings) → AreUnseen m → (r : CType) (y : StmtTree) (s t : Scope) → IsOrderly s → WalksStmt m r y s (Ok t) → WalksStmt no_meanings r (stripped_stmt y) (seen s) (Ok (seen t))
  stmt_seen m d r (tree.declaration p w n e last) s t o h = record { is = declaration_seen o.locals (declaration_declares w n e h.is) }
  stmt_seen m d r (tree.simple p x last) s t o h =
      let same = simple_stays x h.is in
      record { is = simple_goes x (h.is ∙ ap Ok same) ∙ ap (λ (u : Scope). Ok (seen u)) (sym same) }
  stmt_seen m d r (tree.if_ p c a) s t o h =
      let k = went h in
      let same = condition_stays c k.first.is in
      let o₁ : IsOrderly k.at = subst IsOrderly (sym same) o in
      let extends : (u : Scope) → WalksStmt m r a k.at (Ok u) → Extends k.at u = λ u g. stmt_extends m d r a k.at u o₁ g in
      let back : t ≡ k.at = inner_back (WalksStmt m r a) extends o₁ k.next in
      let inside = inner_seen (WalksStmt m r a) (WalksStmt no_meanings r (stripped_stmt a)) o₁.locals extends (λ u g. stmt_seen m d r a k.at u o₁ g) k.next in
      walking.goes (record { is = condition_goes c (k.first.is ∙ ap Ok same) ∙ ap (λ (u : Scope). Ok (seen u)) (sym same) })
      (subst (λ (u : Scope). Inner (WalksStmt no_meanings r (stripped_stmt a)) (seen k.at) (Ok (seen u))) (sym back) inside)
  stmt_seen m d r (tree.if_else p c a b) s t o h =
      let k = went h in
      let j = went k.first in
      let same = condition_stays c j.first.is in
      let o₁ : IsOrderly j.at = subst IsOrderly (sym same) o in
      let extends : (u : Scope) → WalksStmt m r a j.at (Ok u) → Extends j.at u = λ u g. stmt_extends m d r a j.at u o₁ g in
      let back : k.at ≡ j.at = inner_back (WalksStmt m r a) extends o₁ j.next in
      let inside = inner_seen (WalksStmt m r a) (WalksStmt no_meanings r (stripped_stmt a)) o₁.locals extends (λ u g. stmt_seen m d r a j.at u o₁ g) j.next in
      let o₂ : IsOrderly k.at = subst IsOrderly (sym back) o₁ in
      let extends₂ : (u : Scope) → WalksStmt m r b k.at (Ok u) → Extends k.at u = λ u g. stmt_extends m d r b k.at u o₂ g in
      let back₂ : t ≡ k.at = inner_back (WalksStmt m r b) extends₂ o₂ k.next in
      let inside₂ = inner_seen (WalksStmt m r b) (WalksStmt no_meanings r (stripped_stmt b)) o₂.locals extends₂ (λ u g. stmt_seen m d r b k.at u o₂ g) k.next in
      walking.goes
      (walking.goes (record { is = condition_goes c (j.first.is ∙ ap Ok same) ∙ ap (λ (u : Scope). Ok (seen u)) (sym same) })
      (subst (λ (u : Scope). Inner (WalksStmt no_meanings r (stripped_stmt a)) (seen j.at) (Ok (seen u))) (sym back) inside))
      (subst (λ (u : Scope). Inner (WalksStmt no_meanings r (stripped_stmt b)) (seen k.at) (Ok (seen u))) (sym back₂) inside₂)
  stmt_seen m d r (tree.while_ p c i a) s t o h =
      let k = went h in
      let j = went k.first in
      let same = condition_stays c j.first.is in
      let o₁ : IsOrderly j.at = subst IsOrderly (sym same) o in
      let there = invariant_adds m d p.file i o₁ j.next in
      let o₂ : IsOrderly k.at = extends_orderly (ghosts_extend there) o₁ in
      let extends : (u : Scope) → WalksStmt m r a k.at (Ok u) → Extends k.at u = λ u g. stmt_extends m d r a k.at u o₂ g in
      let back : t ≡ k.at = inner_back (WalksStmt m r a) extends o₂ k.next in
      let inside = inner_seen (WalksStmt m r a) (WalksStmt no_meanings r (stripped_stmt a)) o₂.locals extends (λ u g. stmt_seen m d r a k.at u o₂ g) k.next in
      walking.goes
      (walking.goes (record { is = condition_goes c (j.first.is ∙ ap Ok same) ∙ ap (λ (u : Scope). Ok (seen u)) (sym same) }) (record { is = ap Ok (sym (seen_ghosts o₁.locals there)) }))
      (subst (λ (u : Scope). Inner (WalksStmt no_meanings r (stripped_stmt a)) (seen k.at) (Ok (seen u))) (sym back) inside)
  stmt_seen m d r (tree.for_ p f c x i a) s t o h =
      let k = went h in
      let j = went k.first in
      let parts = for_parts_go f c x j.first.is in
      let o₁ : IsOrderly j.at = extends_orderly (first_extends f parts.first) o in
      let there = invariant_adds m d p.file i o₁ j.next in
      let o₂ : IsOrderly k.at = extends_orderly (ghosts_extend there) o₁ in
      let l = went k.next in
      let extends : (u : Scope) → WalksStmt m r a k.at (Ok u) → Extends k.at u = λ u g. stmt_extends m d r a k.at u o₂ g in
      let back : l.at ≡ k.at = inner_back (WalksStmt m r a) extends o₂ l.first in
      let inside = inner_seen (WalksStmt m r a) (WalksStmt no_meanings r (stripped_stmt a)) o₂.locals extends (λ u g. stmt_seen m d r a k.at u o₂ g) l.first in
      walking.goes
      (walking.goes (record { is = for_parts_seen f c x o.locals parts }) (record { is = ap Ok (sym (seen_ghosts o₁.locals there)) }))
      (walking.goes inside (record { is = without_first_seen s f o.locals parts.first o₁.locals there (ap (without_first f (count s)) (sym back) ∙ l.next.is) }))
  stmt_seen m d r (tree.return_ p e last) s t o h =
      let k = stays (return_refusal s r p e) h.is in
      record { is = unrefused (seen s) (return_seen s r p e k.unrefused) ∙ ap (λ (u : Scope). Ok (seen u)) (sym k.is) }
  stmt_seen m d r (tree.block p xs last) s t o h =
      let extends : (u : Scope) → WalksStmts m r xs s (Ok u) → Extends s u = λ u g. stmts_extend m d r xs s u o g in
      let back : t ≡ s = inner_back (WalksStmts m r xs) extends o h in
      let inside = inner_seen (WalksStmts m r xs) (WalksStmts no_meanings r (stripped_stmts xs)) o.locals extends (λ u g. stmts_seen m d r xs s u o g) h in
      subst (λ (u : Scope). Inner (WalksStmts no_meanings r (stripped_stmts xs)) (seen s) (Ok (seen u))) (sym back) inside
  stmt_seen m d r (tree.empty_ p) s t o h = record { is = ap (λ (u : Scope). Ok (seen u)) (ok_same h.is) }
  stmt_seen m d r (tree.ghost p c) s t o h = record { is = ap Ok (sym (seen_ghosts o.locals (d.command c s t o h))) }

  -- some statements without the annotations among them
  pub stmts_seen : (m : Meanings) → AreUnseen m → (r : CType) (xs : StmtTrees) (s t : Scope) → IsOrderly s → WalksStmts m r xs s (Ok t) → WalksStmts no_meanings r (stripped_stmts xs) (seen s) (Ok (seen t))
  stmts_seen m d r no_stmt s t o h = record { is = ap (λ (u : Scope). Ok (seen u)) (ok_same h.is) }
  stmts_seen m d r (more_stmt x xs) s t o h =
      let k = went h in
      let o₁ : IsOrderly k.at = extends_orderly (stmt_extends m d r x s k.at o k.first) o in
      one_more t k.at m d r x xs o k.first (stmt_seen m d r x s k.at o k.first) (stmts_seen m d r xs k.at t o₁ k.next) (is_command x) refl
