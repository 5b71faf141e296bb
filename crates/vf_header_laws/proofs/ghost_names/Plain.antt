-- What walks over contracts and statements with annotations leave as it is: all but locals, and what functions are declared with beside their types.
use Rattle.std.proofs.Common.{◌≡◌, refl, sym, ap, ◌∙◌, ℕ, Bool, true, false, List, Option, Some, None, Ok}
use Rattle.vf_base.specs.declared.place.Place.{Place}
use Rattle.vf_declared.specs.declared.ctype.CType.{CType}
use Rattle.vf_declared.specs.declared.locals.Locals.{Locals}
use Rattle.vf_declared.specs.declared.scope.Scope.{Scope}
use Rattle.vf_syntax.specs.declared.contract.Contract.{Contract}
use Rattle.vf_syntax.specs.declared.contract.Invariant.{Invariant}
use Rattle.vf_syntax.specs.declared.item.Body.{Body}
use Rattle.vf_syntax.specs.declared.item.Signature.{Signature as WrittenSignature}
use Rattle.vf_syntax.specs.declared.item.Typed.{Typed}
use Rattle.vf_syntax.specs.declared.simple.First.{First}
use Rattle.vf_syntax.specs.declared.simple.First.TheVariants as firsts
use Rattle.vf_syntax.specs.declared.simple.Simple.{Simple}
use Rattle.vf_syntax.specs.declared.written.CType.{CType as WrittenType}
use Rattle.vf_syntax.specs.declared.written.Name.{Name}
use Rattle.vf_syntax.specs.ExprTree.{ExprTree}
use Rattle.vf_syntax.specs.GhostCommandTree.{GhostCommandTree}
use Rattle.vf_syntax.specs.StmtTree.{StmtTree, StmtTrees, no_stmt, more_stmt, stmt_list}
use Rattle.vf_syntax.specs.StmtTree as tree
use Rattle.vf_typing.specs.Names.{written_type}
use Rattle.vf_datatypes.specs.declared.stated.Stated.{Stated}
use Rattle.vf_annotations.specs.Forms.{meanings}
use Rattle.vf_contracts.specs.Comes as contracts
use Rattle.vf_commands.specs.Comes as commands
use Rattle.vf_walk.specs.declared.annotations.Owner.{Owner}
use Rattle.vf_walk.specs.Items.{first_renamed, listed, taken_unless, taken_where, WalksBodyIf, WalksContract}
use Rattle.vf_walk.specs.Meanings.{Meanings}
use Rattle.vf_walk.specs.Statements.{condition, count, declaration, declared, first_part, first_value, for_parts, Inner, return_refusal, simple, WalksStmt, WalksStmts, with_variable, without_first}
use Rattle.vf_walk.specs.Walking.{behind, optional, Optional, Walked}
use Rattle.vf_header_laws.proofs.c_names.Plain.{IsPlain, plain, plain_both, plain_same, variable_is}
use Rattle.vf_header_laws.proofs.c_names.Steps.{apart, ok_same, optional_stays, stays, through, went}
use Rattle.vf_erasure_laws.proofs.hidden.Adding.{IsKept}
use Rattle.vf_erasure_laws.proofs.hidden.Giving.{command, contract, parts}

pub plain_kept : IsKept IsPlain
plain_kept = record {
  same = λ s. record { is = refl };
  both = λ h k. plain_both k h;
  named = λ s b e. record { is = refl };
  one = λ s x t. record { is = refl };
  gone = λ h. record { is = h.is };
}

-- contracts, invariants and ghost commands leave all but locals as it is
pub record ArePlain (m : Meanings) : Type 0 where
  pub contract : {s t : Scope} (o : Owner) (c : Contract) → m.contract o c s (Ok t) → IsPlain s t
  pub invariant : {s t : Scope} (file : ℕ) (i : Invariant) → m.invariant file i s (Ok t) → IsPlain s t
  pub command : {s t : Scope} (c : GhostCommandTree) → m.command c s (Ok t) → IsPlain s t

contract_is : {s t : Scope} (o : Owner) (c : Contract) → contracts.OwnedComes o c s (Ok t) → IsPlain s t
contract_is o c (contracts.given g) = contract plain_kept g

invariant_is : {s t : Scope} (i : Invariant) → contracts.InvariantComes i s (Ok t) → IsPlain s t
invariant_is i (contracts.given g) = parts plain_kept g

command_is : {s t : Scope} (c : GhostCommandTree) → commands.CommandComes commands.around_statements c s (Ok t) → IsPlain s t
command_is c (commands.given g) = command plain_kept g

pub annotations_plain : (d : Stated) → ArePlain (meanings d)
annotations_plain d = record { contract = λ o c h. contract_is o c h; invariant = λ file i h. invariant_is i h; command = λ c h. command_is c h }

-- ---- parts of statements
variable_plain : {s t : Scope} (n : Name) (c : CType) → with_variable n c s ≡ Ok t → IsPlain s t
variable_plain {s} n c h = record { is = ap plain (variable_is s n c h) }

declaration_plain : {s t : Scope} (w : WrittenType) (n : Name) (e : Option ExprTree) → declaration w n e s ≡ Ok t → IsPlain s t
declaration_plain {s} {t} w n e h =
    let k = through (λ c. declared n e c s) (written_type s w) h in
    let j = through (optional (first_value k.at) e) (with_variable n k.at s) k.next in
    plain_both (plain_same (optional_stays (first_value k.at) (λ a g. (stays _ g).is) e j.next)) (variable_plain n k.at j.first)

condition_plain : {s t : Scope} (e : ExprTree) → condition e s ≡ Ok t → IsPlain s t
condition_plain e h = plain_same (stays _ h).is

first_plain : {s t : Scope} (f : Option First) → optional first_part f s ≡ Ok t → IsPlain s t
first_plain None h = plain_same (sym (ok_same h))
first_plain (Some (firsts.Declaration c n e)) h = declaration_plain c n (Some e) h
first_plain (Some (firsts.Simple x)) h = plain_same (stays _ h).is

parts_plain : {s t : Scope} (f : Option First) (c : Option ExprTree) (x : Option Simple) → for_parts f c x s ≡ Ok t → IsPlain s t
parts_plain {s} {t} f c x h =
    let k = through (optional simple x) (behind (optional condition c) (optional first_part f s)) h in
    let j = through (optional condition c) (optional first_part f s) k.first in
    plain_both (plain_same (optional_stays simple (λ a g. (stays _ g).is) x k.next)) (plain_both (plain_same (optional_stays condition (λ a g. (stays _ g).is) c j.next)) (first_plain f j.first))

without_plain : {s t : Scope} (f : Option First) (k : ℕ) → without_first f k s ≡ Ok t → IsPlain s t
without_plain None k h = plain_same (sym (ok_same h))
without_plain (Some (firsts.Declaration c n e)) k h = record { is = ap plain (sym (ok_same h)) }
without_plain (Some (firsts.Simple x)) k h = plain_same (sym (ok_same h))

inner_plain : {s t : Scope} (F : Scope → Walked → Type 0) → ((u : Scope) → F s (Ok u) → IsPlain s u) → Inner F s (Ok t) → IsPlain s t
inner_plain F each h = let k = went h in record { is = ap plain (sym (ok_same k.next.is)) ∙ (each k.at k.first).is }

-- ---- statements
module _ (m : Meanings) (its : ArePlain m) where
  invariant_plain : {s t : Scope} (file : ℕ) (i : Option Invariant) → Optional (m.invariant file) i s (Ok t) → IsPlain s t
  invariant_plain file None h = plain_same (sym (ok_same h.is))
  invariant_plain file (Some i) h = its.invariant file i h

  mutual
    stmt_plain : (r : CType) (y : StmtTree) (s t : Scope) → WalksStmt m r y s (Ok t) → IsPlain s t
    stmt_plain r (tree.declaration p w n e last) s t h = declaration_plain w n e h.is
    stmt_plain r (tree.simple p x last) s t h = plain_same (stays _ h.is).is
    stmt_plain r (tree.if_ p c a) s t h =
        let k = went h in
        plain_both (inner_plain (WalksStmt m r a) (λ u g. stmt_plain r a k.at u g) k.next) (condition_plain c k.first.is)
    stmt_plain r (tree.if_else p c a b) s t h =
        let k = went h in
        let j = went k.first in
        plain_both (inner_plain (WalksStmt m r b) (λ u g. stmt_plain r b k.at u g) k.next) (plain_both (inner_plain (WalksStmt m r a) (λ u g. stmt_plain r a j.at u g) j.next) (condition_plain c j.first.is))
    stmt_plain r (tree.while_ p c i a) s t h =
        let k = went h in
        let j = went k.first in
        plain_both (inner_plain (WalksStmt m r a) (λ u g. stmt_plain r a k.at u g) k.next) (plain_both (invariant_plain p.file i j.next) (condition_plain c j.first.is))
    stmt_plain r (tree.for_ p f c x i a) s t h =
        let k = went h in
        let j = went k.first in
        let l = went k.next in
        plain_both (without_plain f (count s) l.next.is) (plain_both (inner_plain (WalksStmt m r a) (λ u g. stmt_plain r a k.at u g) l.first) (plain_both (invariant_plain p.file i j.next) (parts_plain f c x j.first.is)))
    stmt_plain r (tree.return_ p e last) s t h = plain_same (stays (return_refusal s r p e) h.is).is
    stmt_plain r (tree.block p xs last) s t h = inner_plain (WalksStmts m r xs) (λ u g. stmts_plain r xs s u g) h
    stmt_plain r (tree.empty_ p) s t h = plain_same (sym (ok_same h.is))
    stmt_plain r (tree.ghost p c) s t h = its.command c h

    stmts_plain : (r : CType) (xs : StmtTrees) (s t : Scope) → WalksStmts m r xs s (Ok t) → IsPlain s t
    stmts_plain r no_stmt s t h = plain_same (sym (ok_same h.is))
    stmts_plain r (more_stmt x xs) s t h = let k = went h in plain_both (stmts_plain r xs k.at t k.next) (stmt_plain r x s k.at k.first)

  -- ---- contracts and bodies of functions
  pub optional_plain : {s t : Scope} (o : Owner) (c : Option Contract) → Optional (m.contract o) c s (Ok t) → IsPlain s t
  optional_plain o None h = plain_same (sym (ok_same h.is))
  optional_plain o (Some c) h = its.contract o c h

  taken_if : {s t : Scope} (l : Locals) (p : Option Place) → taken_unless l p s ≡ Ok t → IsPlain s t
  taken_if l None h = record { is = ap plain (sym (ok_same h)) }
  taken_if l (Some p) h = absurd (apart h)

  taken_plain : {s t : Scope} (b : Bool) (ps : List Typed) (l : Option Locals) → taken_where b ps l s ≡ Ok t → IsPlain s t
  taken_plain true ps None h = plain_same (sym (ok_same h))
  taken_plain true ps (Some l) h = taken_if l (first_renamed l.names ps) h
  taken_plain false ps l h = plain_same (sym (ok_same h))

  pub contract_plain : {s t : Scope} (g : WrittenSignature) (r : CType) (k : ℕ) (c : Option Contract) → WalksContract m g r k c s (Ok t) → IsPlain s t
  contract_plain g r k None h = taken_plain m.takes (listed g.parameters) _ h.is
  contract_plain g r k (Some c) h = its.contract _ c h

  pub body_plain : {s t : Scope} (b : Bool) (r : CType) (x : Body) → WalksBodyIf b m r x s (Ok t) → IsPlain s t
  body_plain {s} {t} true r x h = stmts_plain r (stmt_list x.statements) s t h
  body_plain false r x h = absurd (apart h.is)

  -- a body that is accepted may stand where it does
  pub body_stands : (s t : Scope) (b : Bool) (r : CType) (x : Body) → WalksBodyIf b m r x s (Ok t) → b ≡ true
  body_stands s t true r x h = refl
  body_stands s t false r x h = absurd (apart h.is)
