-- What a walk over statements adds to what is declared: locals behind those that are there.
use Rattle.std.proofs.Common.{◌≡◌, ℕ, suc, ◌+◌, false, List, [], ◌∷◌, ◌++◌, length, map, take, drop, is_some, Option, Some, None, Ok, refl, sym, ap, ap₂, subst, ◌∙◌, append_assoc, append-nil, length-append, arith}
use Rattle.std.proofs.Math.Seq.{take-append_seam}
use Rattle.std.proofs.lemmas.List.{length-map}
use Rattle.vf_names.specs.Names.{number_of}
use Rattle.vf_declared.specs.declared.ctype.CType.{CType}
use Rattle.vf_declared.specs.declared.locals.Local.{Local}
use Rattle.vf_declared.specs.declared.locals.Local.TheVariants as locals
use Rattle.vf_declared.specs.declared.scope.Scope.{Scope}
use Rattle.vf_declared.specs.Changes.{without_local}
use Rattle.vf_syntax.specs.declared.contract.Invariant.{Invariant}
use Rattle.vf_syntax.specs.declared.simple.First.{First}
use Rattle.vf_syntax.specs.declared.simple.First.TheVariants as firsts
use Rattle.vf_syntax.specs.declared.simple.Simple.{Simple}
use Rattle.vf_syntax.specs.declared.written.CType.{CType as WrittenType}
use Rattle.vf_syntax.specs.declared.written.Name.{Name}
use Rattle.vf_syntax.specs.ExprTree.{ExprTree}
use Rattle.vf_syntax.specs.StmtTree.{StmtTree, StmtTrees, no_stmt, more_stmt}
use Rattle.vf_syntax.specs.StmtTree as tree
use Rattle.vf_typing.specs.Names.{written_type}
use Rattle.vf_walk.specs.Meanings.{Meanings}
use Rattle.vf_walk.specs.Statements.{condition, count, declaration, declared, first_part, first_value, for_parts, Inner, left, return_refusal, simple, variable, WalksStmt, WalksStmts, with_variable, without_first}
use Rattle.vf_walk.specs.Walking.{behind, optional, Optional, Walked}
use Rattle.vf_erasure_laws.specs.seen.Seen.{IsOrderly}
use Rattle.vf_erasure_laws.specs.seen.Unseen.{AddsGhosts, AreUnseen}
use Rattle.vf_erasure_laws.proofs.erased.WalkingSteps.{ok_same, optional_stays, refused_where, stays, through, went}

-- a scope with more locals behind those that are there
abbrev pub more : Scope → List (List ℕ) → List Local → Scope
more s xs ls = record s { locals = record { names = s.locals.names ++ xs; meanings = s.locals.meanings ++ ls } }

-- the second scope has more locals than the first, behind those that are there, and is else the same
pub record Extends (s t : Scope) : Type 0 where
  pub names : List (List ℕ)
  pub meanings : List Local
  pub beside : length names ≡ length meanings
  pub is : t ≡ more s names meanings

pub extends_itself : (s : Scope) → Extends s s
extends_itself s = record {
  names = [];
  meanings = [];
  beside = refl;
  is = λ i. record s { locals = record { names = sym (append-nil s.locals.names) i; meanings = sym (append-nil s.locals.meanings) i } };
}

pub extends_same : {s t : Scope} → t ≡ s → Extends s t
extends_same {s} e = subst (Extends s) (sym e) (extends_itself s)

-- lists that stand beside each other, one behind the other
pub beside_behind : {A B : Type 0} (xs zs : List A) (ys us : List B) → length xs ≡ length ys → length zs ≡ length us → length (xs ++ zs) ≡ length (ys ++ us)
beside_behind xs zs ys us e h = length-append xs zs ∙ ap₂ ◌+◌ e h ∙ sym (length-append ys us)

regrouped : (s : Scope) (xs ys : List (List ℕ)) (ls ks : List Local) → more (more s xs ls) ys ks ≡ more s (xs ++ ys) (ls ++ ks)
regrouped s xs ys ls ks = λ i. record s { locals = record { names = append_assoc s.locals.names xs ys i; meanings = append_assoc s.locals.meanings ls ks i } }

pub extends_both : {s t u : Scope} → Extends s t → Extends t u → Extends s u
extends_both {s} h k = record {
  names = h.names ++ k.names;
  meanings = h.meanings ++ k.meanings;
  beside = beside_behind h.names k.names h.meanings k.meanings h.beside k.beside;
  is = k.is ∙ ap (λ (t : Scope). more t k.names k.meanings) h.is ∙ regrouped s h.names k.names h.meanings k.meanings;
}

-- names of annotations are such locals
pub ghosts_extend : {s t : Scope} → AddsGhosts s t → Extends s t
ghosts_extend h = record { names = h.names; meanings = map locals.Ghost h.ghosts; beside = h.beside ∙ sym (length-map h.ghosts locals.Ghost); is = h.is }

-- names still stand beside what they mean
pub extends_orderly : {s t : Scope} → Extends s t → IsOrderly s → IsOrderly t
extends_orderly {s} h o = subst IsOrderly (sym h.is) (record {
  locals = beside_behind s.locals.names h.names s.locals.meanings h.meanings o.locals h.beside;
  names = o.names;
  prototypes = o.prototypes;
})

-- as many items as stand in the list beside the front of a list are that front
front : {A B : Type 0} (xs : List A) (ys zs : List B) → length xs ≡ length ys → take (length xs) (ys ++ zs) ≡ ys
front xs ys zs e = ap (λ n. take n (ys ++ zs)) e ∙ take-append_seam ys zs

-- what was added is gone where the first locals alone are left
pub left_back : {s t : Scope} → length s.locals.names ≡ length s.locals.meanings → Extends s t → left (count s) t ≡ s
left_back {s} a h = ap (left (count s)) h.is ∙ (λ i. record s { locals = record { names = front s.locals.names s.locals.names h.names refl i; meanings = front s.locals.names s.locals.meanings h.meanings a i } })

-- ---- a local of C of a type that is declared
pub record Declares (w : WrittenType) (n : Name) (c : CType) (s t : Scope) : Type 0 where
  pub written : written_type s w ≡ Ok c
  pub fresh : is_some (number_of s.locals.names n.text) ≡ false
  pub is : t ≡ more s (n.text ∷ []) (locals.Real c ∷ [])

pub with_variable_declares : {s t : Scope} (w : WrittenType) (n : Name) (c : CType) → written_type s w ≡ Ok c → with_variable n c s ≡ Ok t → Declares w n c s t
with_variable_declares {s} w n c e h =
    let k = refused_where (more s (n.text ∷ []) (locals.Real c ∷ [])) _ (is_some (number_of s.locals.names n.text)) h in
    record { written = e; fresh = k.holds; is = k.is }

-- the same of some type
pub record DeclaresOne (w : WrittenType) (n : Name) (s t : Scope) : Type 0 where
  pub type : CType
  pub declares : Declares w n type s t

pub variable_declares : {s t : Scope} (w : WrittenType) (n : Name) → variable n w s ≡ Ok t → DeclaresOne w n s t
variable_declares {s} w n h =
    let k = through (λ t. with_variable n t s) (written_type s w) h in
    record { type = k.at; declares = with_variable_declares w n k.at k.first k.next }

pub declares_extend : {w : WrittenType} {n : Name} {c : CType} {s t : Scope} → Declares w n c s t → Extends s t
declares_extend {n = n} {c = c} h = record { names = n.text ∷ []; meanings = locals.Real c ∷ []; beside = refl; is = h.is }

first_value_stays : {s t : Scope} (c : CType) (e : ExprTree) → first_value c e s ≡ Ok t → t ≡ s
first_value_stays c e h = (stays _ h).is

-- a local that is declared, and its first value
pub record DeclaresFirst (w : WrittenType) (n : Name) (e : Option ExprTree) (s t : Scope) : Type 0 where
  pub type : CType
  pub declares : Declares w n type s t
  pub value : optional (first_value type) e t ≡ Ok t

pub declaration_declares : {s t : Scope} (w : WrittenType) (n : Name) (e : Option ExprTree) → declaration w n e s ≡ Ok t → DeclaresFirst w n e s t
declaration_declares {s} {t} w n e h =
    let k = through (λ c. declared n e c s) (written_type s w) h in
    let j = through (optional (first_value k.at) e) (with_variable n k.at s) k.next in
    let same : t ≡ j.at = optional_stays (first_value k.at) (first_value_stays k.at) e j.next in
    record {
      type = k.at;
      declares = with_variable_declares w n k.at k.first (j.first ∙ ap Ok (sym same));
      value = subst (λ (u : Scope). optional (first_value k.at) e u ≡ Ok t) (sym same) j.next;
    }

-- ---- what stands in front of the body of a `for`
pub simple_stays : {s t : Scope} (x : Simple) → simple x s ≡ Ok t → t ≡ s
simple_stays x h = (stays _ h).is

pub condition_stays : {s t : Scope} (e : ExprTree) → condition e s ≡ Ok t → t ≡ s
condition_stays e h = (stays _ h).is

pub record ForParts (f : Option First) (c : Option ExprTree) (x : Option Simple) (s t : Scope) : Type 0 where
  pub first : optional first_part f s ≡ Ok t
  pub condition : optional condition c t ≡ Ok t
  pub step : optional simple x t ≡ Ok t

pub for_parts_go : {s t : Scope} (f : Option First) (c : Option ExprTree) (x : Option Simple) → for_parts f c x s ≡ Ok t → ForParts f c x s t
for_parts_go {s} {t} f c x h =
    let k = through (optional simple x) (behind (optional condition c) (optional first_part f s)) h in
    let j = through (optional condition c) (optional first_part f s) k.first in
    let step : t ≡ k.at = optional_stays simple simple_stays x k.next in
    let test : k.at ≡ j.at = optional_stays condition condition_stays c j.next in
    let same : t ≡ j.at = step ∙ test in
    record {
      first = j.first ∙ ap Ok (sym same);
      condition = subst (λ (u : Scope). optional condition c u ≡ Ok t) (sym same) (j.next ∙ ap Ok (sym step));
      step = subst (λ (u : Scope). optional simple x u ≡ Ok t) (sym step) k.next;
    }

-- a local that stands between others is taken away
without_seam : {A : Type 0} (xs : List A) (x : A) (ys : List A) → take (length xs) ((xs ++ x ∷ []) ++ ys) ++ drop (length xs + 1) ((xs ++ x ∷ []) ++ ys) ≡ xs ++ ys
without_seam [] x ys = refl
without_seam (y ∷ xs) x ys = let step : suc (length xs) + 1 ≡ suc (length xs + 1) = omega arith in rw step (ap (λ zs. y ∷ zs) (without_seam xs x ys))

without_at : {A B : Type 0} (ns : List B) (xs : List A) (x : A) (ys : List A) → length ns ≡ length xs → take (length ns) ((xs ++ x ∷ []) ++ ys) ++ drop (length ns + 1) ((xs ++ x ∷ []) ++ ys) ≡ xs ++ ys
without_at ns xs x ys e = ap (λ n. take n ((xs ++ x ∷ []) ++ ys) ++ drop (n + 1) ((xs ++ x ∷ []) ++ ys)) e ∙ without_seam xs x ys

pub without_between : {t u : Scope} (s : Scope) (x : List ℕ) (l : Local) → length s.locals.names ≡ length s.locals.meanings → t ≡ more s (x ∷ []) (l ∷ []) → (h : Extends t u) → record u { locals = without_local u.locals (count s) } ≡ more s h.names h.meanings
without_between s x l a e h =
    ap (λ (v : Scope). record v { locals = without_local v.locals (count s) }) (h.is ∙ ap (λ (v : Scope). more v h.names h.meanings) e)
    ∙ (λ i. record s { locals = record { names = without_at s.locals.names s.locals.names x h.names refl i; meanings = without_at s.locals.names s.locals.meanings l h.meanings a i } })

-- behind a `for` the local of its first part is gone, and else what was added stays
for_extends : {s t u v : Scope} (f : Option First) → IsOrderly s → optional first_part f s ≡ Ok t → Extends t u → without_first f (count s) u ≡ Ok v → Extends s v
for_extends None o h k w = extends_both (extends_same (sym (ok_same h))) (extends_both k (extends_same (sym (ok_same w))))
for_extends {s} (Some (firsts.Declaration c n e)) o h k w =
    let d = declaration_declares c n (Some e) h in
    let is = without_between s n.text (locals.Real d.type) o.locals d.declares.is k in
    record { names = k.names; meanings = k.meanings; beside = k.beside; is = sym (ok_same w) ∙ is }
for_extends (Some (firsts.Simple x)) o h k w = extends_both (extends_same (simple_stays x h)) (extends_both k (extends_same (sym (ok_same w))))

-- what stands first in a `for` may declare a local
pub first_extends : {s t : Scope} (f : Option First) → optional first_part f s ≡ Ok t → Extends s t
first_extends None h = extends_same (sym (ok_same h))
first_extends (Some (firsts.Declaration c n e)) h = declares_extend (declaration_declares c n (Some e) h).declares
first_extends (Some (firsts.Simple x)) h = extends_same (simple_stays x h)

-- ---- parts with locals of their own
pub inner_back : {s t : Scope} (F : Scope → Walked → Type 0) → ((u : Scope) → F s (Ok u) → Extends s u) → IsOrderly s → Inner F s (Ok t) → t ≡ s
inner_back F each o h = let k = went h in sym (ok_same k.next.is) ∙ left_back o.locals (each k.at k.first)

-- an invariant, or none
pub invariant_extends : {s t : Scope} (m : Meanings) → AreUnseen m → (file : ℕ) (i : Option Invariant) → IsOrderly s → Optional (m.invariant file) i s (Ok t) → Extends s t
invariant_extends m d file None o h = extends_same (sym (ok_same h.is))
invariant_extends m d file (Some i) o h = ghosts_extend (d.invariant file i _ _ o h)

-- ---- statements
mutual
  -- behind a statement there may be more locals than in front of it
  pub stmt_extends : (m : Meanings) → AreUnseen m → (r : CType) (y : StmtTree) (s t : Scope) → IsOrderly s → WalksStmt m r y s (Ok t) → Extends s t
  stmt_extends m d r (tree.declaration p w n e last) s t o h = declares_extend (declaration_declares w n e h.is).declares
  stmt_extends m d r (tree.simple p x last) s t o h = extends_same (simple_stays x h.is)
  stmt_extends m d r (tree.if_ p c a) s t o h =
      let k = went h in
      let same = condition_stays c k.first.is in
      let o₁ : IsOrderly k.at = subst IsOrderly (sym same) o in
      extends_same (inner_back (WalksStmt m r a) (λ u g. stmt_extends m d r a k.at u o₁ g) o₁ k.next ∙ same)
  stmt_extends m d r (tree.if_else p c a b) s t o h =
      let k = went h in
      let j = went k.first in
      let same = condition_stays c j.first.is in
      let o₁ : IsOrderly j.at = subst IsOrderly (sym same) o in
      let then_ = inner_back (WalksStmt m r a) (λ u g. stmt_extends m d r a j.at u o₁ g) o₁ j.next in
      let o₂ : IsOrderly k.at = subst IsOrderly (sym then_) o₁ in
      extends_same (inner_back (WalksStmt m r b) (λ u g. stmt_extends m d r b k.at u o₂ g) o₂ k.next ∙ then_ ∙ same)
  stmt_extends m d r (tree.while_ p c i a) s t o h =
      let k = went h in
      let j = went k.first in
      let first = extends_same (condition_stays c j.first.is) in
      let o₁ : IsOrderly j.at = extends_orderly first o in
      let there = invariant_extends m d p.file i o₁ j.next in
      let o₂ : IsOrderly k.at = extends_orderly there o₁ in
      extends_both first (extends_both there (extends_same (inner_back (WalksStmt m r a) (λ u g. stmt_extends m d r a k.at u o₂ g) o₂ k.next)))
  stmt_extends m d r (tree.for_ p f c x i a) s t o h =
      let k = went h in
      let j = went k.first in
      let parts = for_parts_go f c x j.first.is in
      let o₁ : IsOrderly j.at = extends_orderly (first_extends f parts.first) o in
      let there = invariant_extends m d p.file i o₁ j.next in
      let o₂ : IsOrderly k.at = extends_orderly there o₁ in
      let l = went k.next in
      let same = inner_back (WalksStmt m r a) (λ u g. stmt_extends m d r a k.at u o₂ g) o₂ l.first in
      for_extends f o parts.first (extends_both there (extends_same same)) l.next.is
  stmt_extends m d r (tree.return_ p e last) s t o h = extends_same (stays (return_refusal s r p e) h.is).is
  stmt_extends m d r (tree.block p xs last) s t o h = extends_same (inner_back (WalksStmts m r xs) (λ u g. stmts_extend m d r xs s u o g) o h)
  stmt_extends m d r (tree.empty_ p) s t o h = extends_same (sym (ok_same h.is))
  stmt_extends m d r (tree.ghost p c) s t o h = ghosts_extend (d.command c s t o h)

  -- and behind some statements
  pub stmts_extend : (m : Meanings) → AreUnseen m → (r : CType) (xs : StmtTrees) (s t : Scope) → IsOrderly s → WalksStmts m r xs s (Ok t) → Extends s t
  stmts_extend m d r no_stmt s t o h = extends_same (sym (ok_same h.is))
  stmts_extend m d r (more_stmt x xs) s t o h =
      let k = went h in
      let first = stmt_extends m d r x s k.at o k.first in
      extends_both first (stmts_extend m d r xs k.at t (extends_orderly first o) k.next)
