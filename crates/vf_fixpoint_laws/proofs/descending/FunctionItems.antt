-- Functions, function types and structs declare no datatypes.
use Rattle.std.proofs.Common.{refl, ℕ, Bool, true, false, nat_eq, List, length, Option, Some, None, Err, slice_get}
use Rattle.vf_base.specs.declared.place.Place.{Place}
use Rattle.vf_names.specs.Names.{number_of}
use Rattle.vf_declared.specs.declared.ctype.CType.{CType}
use Rattle.vf_declared.specs.declared.declaration.Meaning.TheVariants as meanings
use Rattle.vf_declared.specs.declared.locals.Locals.{Locals}
use Rattle.vf_declared.specs.declared.scope.Scope.{Scope}
use Rattle.vf_syntax.specs.declared.contract.Contract.{Contract}
use Rattle.vf_syntax.specs.declared.item.Body.{Body}
use Rattle.vf_syntax.specs.declared.item.Signature.{Signature as WrittenSignature}
use Rattle.vf_syntax.specs.declared.item.Typed.{Typed}
use Rattle.vf_syntax.specs.declared.written.Name.{Name}
use Rattle.vf_syntax.specs.StmtTree.{stmt_list}
use Rattle.vf_walk.specs.declared.function.Head.{Head}
use Rattle.vf_walk.specs.Items.{WalksBodyIf, WalksContract, WalksDefinition, WalksDefinitionOf, WalksPrototype, WalksPrototypeOf, WalksType, WalksTypeOf, again_in, declared_as, defined, defined_walked, first_renamed, function_number, head, listed, owner, parameters_walked, prototype_in, real_types, result_type, signature_walked, taken_from, taken_unless, taken_where, type_declared, type_named, type_signed}
use Rattle.vf_walk.specs.Meanings.{Meanings}
use Rattle.vf_walk.specs.Names.{has_types, is_new}
use Rattle.vf_walk.specs.Walking.{behind}
use Rattle.vf_erasure_laws.proofs.hidden.Coming.{Comes, Leads, ok_comes, only_leads, then_leads}
use Rattle.vf_fixpoint_laws.proofs.definable.Extending.{Keeps, keeps_same}
use Rattle.vf_fixpoint_laws.proofs.definable.Parts.{Any, err_comes, if_comes, optional_keeps, walk_comes}
use Rattle.vf_fixpoint_laws.proofs.definable.Statements.{AreOrderly, parameters_keep, stmts_keep}
use Rattle.vf_fixpoint_laws.proofs.descending.Levels.{Adds, adds_again, adds_behind, adds_itself, adds_name}
use Rattle.vf_fixpoint_laws.proofs.descending.Parts.{behind_adds, only_kept, then_adds}

-- ---- signatures
again_adds : (s : Scope) (file : ℕ) (o : Option ℕ) → Adds s (again_in file o s)
again_adds s file None = adds_itself s
again_adds s file (Some k) = adds_again s k file

named_adds : (s : Scope) (n : Name) (t : CType) (o : Option ℕ) → Comes (Adds s) (declared_as n t o s)
named_adds s n t None = ok_comes (Adds s) (let h = adds_name s n.text (meanings.Function (length s.functions)) n.place.file (λ low high. tt) in record { more = h.more; others = h.others; datatypes = h.datatypes })
named_adds s n t (Some k) = if_comes (Adds s) (has_types t (real_types s.locals.meanings) (slice_get s.functions k)) _ _ (λ f. again_adds s n.place.file (number_of s.names n.text))

signature_adds : (s : Scope) (g : WrittenSignature) (h : Head) → Comes (Adds s) (signature_walked g h s)
signature_adds s g h =
    walk_comes (Keeps s) (Adds s) (declared_as g.name h.given h.earlier) (parameters_walked (listed g.parameters) s) (parameters_keep (listed g.parameters) s) (λ t k u f. adds_behind k (named_adds t g.name h.given h.earlier u f))

-- ---- prototypes
pub prototype_adds : (m : Meanings) → AreOrderly m → (g : WrittenSignature) (c : Option Contract) (s : Scope) → Leads (Adds s) (WalksPrototype m g c s)
prototype_adds m o g c s = then_leads Any (Adds s) (only_leads Any (head s g false) (λ h e. tt)) (λ h u. of_head h)
  where
    of_head : (h : Head) → Leads (Adds s) (WalksPrototypeOf m g c s h)
    of_head h =
        then_adds
        (then_adds (only_leads (Adds s) (signature_walked g h s) (signature_adds s g h)) (λ t. optional_keeps (m.contract (owner g h.given false)) c t (λ x. o.contract (owner g h.given false) x t)))
        (λ t. only_kept (record { same = refl }))

-- ---- functions with their bodies
taken_keeps : (l : Locals) (p : Option Place) (s : Scope) → Comes (Keeps s) (taken_unless l p s)
taken_keeps l None s = ok_comes (Keeps s) (record { same = refl })
taken_keeps l (Some p) s = err_comes (Keeps s) _

from_keeps : (ps : List Typed) (l : Option Locals) (s : Scope) → Comes (Keeps s) (taken_from ps l s)
from_keeps ps None s = ok_comes (Keeps s) (keeps_same s)
from_keeps ps (Some l) s = taken_keeps l (first_renamed l.names ps) s

where_keeps : (b : Bool) (ps : List Typed) (l : Option Locals) (s : Scope) → Comes (Keeps s) (taken_where b ps l s)
where_keeps true ps l s = from_keeps ps l s
where_keeps false ps l s = ok_comes (Keeps s) (keeps_same s)

contract_keeps : (m : Meanings) → AreOrderly m → (g : WrittenSignature) (t : CType) (k : ℕ) (c : Option Contract) (s : Scope) → Leads (Keeps s) (WalksContract m g t k c s)
contract_keeps m o g t k None s = only_leads (Keeps s) (taken_where m.takes (listed g.parameters) (prototype_in (slice_get s.sides k)) s) (where_keeps m.takes (listed g.parameters) (prototype_in (slice_get s.sides k)) s)
contract_keeps m o g t k (Some c) s = o.contract (owner g t false) c s

body_keeps : (b : Bool) (m : Meanings) → AreOrderly m → (t : CType) (y : Body) (s : Scope) → Leads (Keeps s) (WalksBodyIf b m t y s)
body_keeps true m o t y s = stmts_keep m o t (stmt_list y.statements) s
body_keeps false m o t y s = only_leads (Keeps s) (Err _) (err_comes (Keeps s) _)

pub definition_adds : (m : Meanings) → AreOrderly m → (g : WrittenSignature) (c : Option Contract) (y : Body) (s : Scope) → Leads (Adds s) (WalksDefinition m g c y s)
definition_adds m o g c y s = then_leads Any (Adds s) (only_leads Any (head s g true) (λ h e. tt)) (λ h u. of_head h)
  where
    of_head : (h : Head) → Leads (Adds s) (WalksDefinitionOf m g c y s h)
    of_head h =
        let k = function_number s h.earlier in
        then_adds
        (then_adds
        (then_adds
        (only_leads (Adds s) (defined_walked g h s) (behind_adds (defined k) (signature_walked g h s) (signature_adds s g h) (λ t. ok_comes (Keeps t) (record { same = refl }))))
        (λ t. contract_keeps m o g h.given k c t))
        (λ t. body_keeps (nat_eq g.name.place.file t.file) m o h.given y t))
        (λ t. only_kept (record { same = refl }))

-- ---- function types
type_adds : (n : Name) (s : Scope) → Comes (Adds s) (type_named n s)
type_adds n s = if_comes (Adds s) (is_new s n.text) _ _ (λ e. adds_name s n.text _ n.place.file (λ low high. tt))

declared_type : (g : WrittenSignature) (t : CType) (s : Scope) → Comes (Adds s) (type_declared g t s)
declared_type g t s =
    behind_adds (type_signed t) (behind (parameters_walked (listed g.parameters)) (type_named g.name s))
    (behind_adds (parameters_walked (listed g.parameters)) (type_named g.name s) (type_adds g.name s) (λ u. parameters_keep (listed g.parameters) u))
    (λ u. ok_comes (Keeps u) (record { same = refl }))

pub function_type_adds : (m : Meanings) → AreOrderly m → (g : WrittenSignature) (c : Option Contract) (s : Scope) → Leads (Adds s) (WalksType m g c s)
function_type_adds m o g c s = then_leads Any (Adds s) (only_leads Any (result_type s g.«result») (λ t e. tt)) (λ t u. of_type t)
  where
    of_type : (t : CType) → Leads (Adds s) (WalksTypeOf m g c s t)
    of_type t =
        then_adds
        (then_adds (only_leads (Adds s) (type_declared g t s) (declared_type g t s)) (λ u. optional_keeps (m.contract (owner g t true)) c u (λ x. o.contract (owner g t true) x u)))
        (λ u. only_kept (record { same = refl }))
