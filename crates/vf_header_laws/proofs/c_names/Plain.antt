-- What walks over parameters and statements leave as it is: all but locals.
use Rattle.std.proofs.Common.{◌≡◌, ℕ, [], is_some, Option, Some, None, Ok, sym, ap, ◌∙◌, List, ◌∷◌}
use Rattle.vf_names.specs.Names.{number_of}
use Rattle.vf_declared.specs.declared.ctype.CType.{CType}
use Rattle.vf_declared.specs.declared.locals.Local.TheVariants as locals
use Rattle.vf_declared.specs.declared.scope.Scope.{Scope}
use Rattle.vf_declared.specs.Changes.{with_local}
use Rattle.vf_syntax.specs.declared.contract.Invariant.{Invariant}
use Rattle.vf_syntax.specs.declared.item.Typed.{Typed}
use Rattle.vf_syntax.specs.declared.simple.First.{First}
use Rattle.vf_syntax.specs.declared.simple.First.TheVariants as firsts
use Rattle.vf_syntax.specs.declared.simple.Simple.{Simple}
use Rattle.vf_syntax.specs.declared.written.CType.{CType as WrittenType}
use Rattle.vf_syntax.specs.declared.written.Name.{Name}
use Rattle.vf_syntax.specs.ExprTree.{ExprTree}
use Rattle.vf_syntax.specs.StmtTree.{StmtTree, StmtTrees, no_stmt, more_stmt}
use Rattle.vf_syntax.specs.StmtTree as tree
use Rattle.vf_typing.specs.Names.{written_type}
use Rattle.vf_walk.specs.Items.{no_locals, parameters_walked}
use Rattle.vf_walk.specs.Meanings.{no_meanings}
use Rattle.vf_walk.specs.Statements.{condition, count, declaration, declared, first_part, first_value, for_parts, Inner, return_refusal, simple, variable, WalksStmt, WalksStmts, with_variable, without_first}
use Rattle.vf_walk.specs.Walking.{behind, optional, Optional, Walked}
use Rattle.vf_header_laws.proofs.c_names.Steps.{ok_same, optional_stays, refused_where, stays, through, went}

-- a scope without its locals and without what functions are declared with so far
abbrev pub plain : Scope → Scope
plain s = record s { locals = no_locals; sides = [] }

-- all but these is the same in both scopes
pub record IsPlain (s t : Scope) : Type 0 where
  pub is : plain t ≡ plain s

pub plain_same : {s t : Scope} → t ≡ s → IsPlain s t
plain_same e = record { is = ap plain e }

pub plain_both : {s t u : Scope} → IsPlain t u → IsPlain s t → IsPlain s u
plain_both h k = record { is = h.is ∙ k.is }

-- a local of C
pub variable_is : {t : Scope} (s : Scope) (n : Name) (c : CType) → with_variable n c s ≡ Ok t → t ≡ record s { locals = with_local s.locals n.text (locals.Real c) }
variable_is s n c h = (refused_where (record s { locals = with_local s.locals n.text (locals.Real c) }) _ (is_some (number_of s.locals.names n.text)) h).is

variable_plain : {s t : Scope} (n : Name) (c : CType) → with_variable n c s ≡ Ok t → IsPlain s t
variable_plain {s} n c h = record { is = ap plain (variable_is s n c h) }

pub one_plain : {s t : Scope} (n : Name) (w : WrittenType) → variable n w s ≡ Ok t → IsPlain s t
one_plain {s} n w h = let k = through (λ c. with_variable n c s) (written_type s w) h in variable_plain n k.at k.next

pub parameters_plain : {t : Scope} (ps : List Typed) (s : Scope) → parameters_walked ps s ≡ Ok t → IsPlain s t
parameters_plain [] s h = plain_same (sym (ok_same h))
parameters_plain (p ∷ ps) s h =
    let k = through (parameters_walked ps) (variable p.name p.written s) h in
    plain_both (parameters_plain ps k.at k.next) (one_plain p.name p.written k.first)

declaration_plain : {s t : Scope} (w : WrittenType) (n : Name) (e : Option ExprTree) → declaration w n e s ≡ Ok t → IsPlain s t
declaration_plain {s} {t} w n e h =
    let k = through (λ c. declared n e c s) (written_type s w) h in
    let j = through (optional (first_value k.at) e) (with_variable n k.at s) k.next in
    plain_both (plain_same (optional_stays (first_value k.at) (λ a g. (stays _ g).is) e j.next)) (variable_plain n k.at j.first)

condition_plain : {s t : Scope} (e : ExprTree) → condition e s ≡ Ok t → IsPlain s t
condition_plain e h = plain_same (stays _ h).is

first_plain : {s t : Scope} (f : Option First) → optional first_part f s ≡ Ok t → IsPlain s t
first_plain None h = plain_same (sym (ok_same h))
first_plain (Some (firsts.Declaration c n e)) h = declaration_plain c n (Some e) h
first_plain (Some (firsts.Simple x)) h = plain_same (stays _ h).is

parts_plain : {s t : Scope} (f : Option First) (c : Option ExprTree) (x : Option Simple) → for_parts f c x s ≡ Ok t → IsPlain s t
parts_plain {s} {t} f c x h =
    let k = through (optional simple x) (behind (optional condition c) (optional first_part f s)) h in
    let j = through (optional condition c) (optional first_part f s) k.first in
    plain_both (plain_same (optional_stays simple (λ a g. (stays _ g).is) x k.next)) (plain_both (plain_same (optional_stays condition (λ a g. (stays _ g).is) c j.next)) (first_plain f j.first))

without_plain : {s t : Scope} (f : Option First) (k : ℕ) → without_first f k s ≡ Ok t → IsPlain s t
without_plain None k h = plain_same (sym (ok_same h))
without_plain (Some (firsts.Declaration c n e)) k h = record { is = ap plain (sym (ok_same h)) }
without_plain (Some (firsts.Simple x)) k h = plain_same (sym (ok_same h))

invariant_plain : {s t : Scope} (file : ℕ) (i : Option Invariant) → Optional (no_meanings.invariant file) i s (Ok t) → IsPlain s t
invariant_plain file None h = plain_same (sym (ok_same h.is))
invariant_plain file (Some i) h = plain_same (sym (ok_same h.is))

inner_plain : {s t : Scope} (F : Scope → Walked → Type 0) → ((u : Scope) → F s (Ok u) → IsPlain s u) → Inner F s (Ok t) → IsPlain s t
inner_plain F each h = let k = went h in record { is = ap plain (sym (ok_same k.next.is)) ∙ (each k.at k.first).is }

mutual
  -- a statement without annotations leaves all but locals as it is
  pub stmt_plain : (r : CType) (y : StmtTree) (s t : Scope) → WalksStmt no_meanings r y s (Ok t) → IsPlain s t
  stmt_plain r (tree.declaration p w n e last) s t h = declaration_plain w n e h.is
  stmt_plain r (tree.simple p x last) s t h = plain_same (stays _ h.is).is
  stmt_plain r (tree.if_ p c a) s t h =
      let k = went h in
      plain_both (inner_plain (WalksStmt no_meanings r a) (λ u g. stmt_plain r a k.at u g) k.next) (condition_plain c k.first.is)
  stmt_plain r (tree.if_else p c a b) s t h =
      let k = went h in
      let j = went k.first in
      plain_both (inner_plain (WalksStmt no_meanings r b) (λ u g. stmt_plain r b k.at u g) k.next) (plain_both (inner_plain (WalksStmt no_meanings r a) (λ u g. stmt_plain r a j.at u g) j.next) (condition_plain c j.first.is))
  stmt_plain r (tree.while_ p c i a) s t h =
      let k = went h in
      let j = went k.first in
      plain_both (inner_plain (WalksStmt no_meanings r a) (λ u g. stmt_plain r a k.at u g) k.next) (plain_both (invariant_plain p.file i j.next) (condition_plain c j.first.is))
  stmt_plain r (tree.for_ p f c x i a) s t h =
      let k = went h in
      let j = went k.first in
      let l = went k.next in
      plain_both (without_plain f (count s) l.next.is) (plain_both (inner_plain (WalksStmt no_meanings r a) (λ u g. stmt_plain r a k.at u g) l.first) (plain_both (invariant_plain p.file i j.next) (parts_plain f c x j.first.is)))
  stmt_plain r (tree.return_ p e last) s t h = plain_same (stays (return_refusal s r p e) h.is).is
  stmt_plain r (tree.block p xs last) s t h = inner_plain (WalksStmts no_meanings r xs) (λ u g. stmts_plain r xs s u g) h
  stmt_plain r (tree.empty_ p) s t h = plain_same (sym (ok_same h.is))
  stmt_plain r (tree.ghost p c) s t h = plain_same (sym (ok_same h.is))

  -- and so do statements
  pub stmts_plain : (r : CType) (xs : StmtTrees) (s t : Scope) → WalksStmts no_meanings r xs s (Ok t) → IsPlain s t
  stmts_plain r no_stmt s t h = plain_same (sym (ok_same h.is))
  stmts_plain r (more_stmt x xs) s t h = let k = went h in plain_both (stmts_plain r xs k.at t k.next) (stmt_plain r x s k.at k.first)
