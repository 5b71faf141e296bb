-- What functions and function types declare at file level.
use Rattle.std.proofs.Common.{refl, ◌∙◌, ℕ, Bool, true, false, nat_eq, List, length, Option, Some, None, Err, slice_get}
use Rattle.vf_base.specs.declared.place.Place.{Place}
use Rattle.vf_names.specs.Names.{number_of}
use Rattle.vf_declared.specs.declared.ctype.CType.{CType}
use Rattle.vf_declared.specs.declared.declaration.Meaning.TheVariants as meanings
use Rattle.vf_declared.specs.declared.locals.Locals.{Locals}
use Rattle.vf_declared.specs.declared.scope.Scope.{Scope}
use Rattle.vf_syntax.specs.declared.contract.Contract.{Contract}
use Rattle.vf_syntax.specs.declared.item.Body.{Body}
use Rattle.vf_syntax.specs.declared.item.Signature.{Signature as WrittenSignature}
use Rattle.vf_syntax.specs.declared.item.Typed.{Typed}
use Rattle.vf_syntax.specs.declared.written.Name.{Name}
use Rattle.vf_syntax.specs.StmtTree.{stmt_list}
use Rattle.vf_walk.specs.declared.function.Head.{Head}
use Rattle.vf_walk.specs.Items.{WalksBodyIf, WalksContract, WalksDefinition, WalksDefinitionOf, WalksPrototype, WalksPrototypeOf, WalksType, WalksTypeOf, again_in, declared_as, defined, defined_walked, first_renamed, function_number, head, head_giving, head_of, listed, main_is_right, owner, parameters_walked, prototype_in, real_types, result_type, signature_walked, taken_from, taken_unless, taken_where, type_declared, type_named, type_signed}
use Rattle.vf_walk.specs.Meanings.{Meanings}
use Rattle.vf_walk.specs.Names.{earlier, has_types, is_new}
use Rattle.vf_walk.specs.Walking.{behind}
use Rattle.vf_erasure_laws.proofs.hidden.Coming.{Comes, Leads, ok_comes, only_leads, then_leads}
use Rattle.vf_fixpoint_laws.proofs.definable.Extending.{Keeps, keeps_same}
use Rattle.vf_fixpoint_laws.proofs.definable.Parts.{Any, any_comes, err_comes, if_comes, optional_keeps, walk_comes}
use Rattle.vf_fixpoint_laws.proofs.definable.Statements.{AreOrderly, parameters_keep, stmts_keep}
use Rattle.vf_env_laws.proofs.Keeping.{IsBeside, Stands}
use Rattle.vf_env_laws.proofs.Heads.{earlier_stands, new_name}
use Rattle.vf_fixpoint_laws.proofs.well_declared.Cores.{PlainFrom, behind_plain, nothing, one_file, one_name, plain_behind, then_plain}

-- ---- heads
abbrev HeadOf : Scope → Name → Head → Type 0
HeadOf s n h = Stands s n.text h.earlier

head_stands : (s : Scope) (g : WrittenSignature) (b : Bool) → IsBeside s → Comes (HeadOf s g.name) (head s g b)
head_stands s g b a =
    any_comes (HeadOf s g.name) (head_giving s g b) (result_type s g.«result»)
    (λ t. walk_comes (Stands s g.name.text) (HeadOf s g.name) (head_of t g) (earlier s g.name b) (earlier_stands s g.name b a) (λ k h. if_comes (HeadOf s g.name) (main_is_right t g) _ _ (λ e. h)))

stands_kept : {s t : Scope} (x : List ℕ) (o : Option ℕ) → Keeps s t → Stands s x o → Stands t x o
stands_kept x None h e = (λ i. number_of (h.same i).names x) ∙ e
stands_kept x (Some k) h e = (e.0, (λ i. number_of (h.same i).names x) ∙ e.1)

-- ---- signatures
again_plain : (file : ℕ) (o : Option ℕ) (s : Scope) → PlainFrom s (again_in file o s)
again_plain file None s = record { is = nothing refl }
again_plain file (Some k) s = record { is = one_file k file refl }

named_plain : (s : Scope) (n : Name) (t : CType) (o : Option ℕ) → Stands s n.text o → Comes (PlainFrom s) (declared_as n t o s)
named_plain s n t None e = ok_comes (PlainFrom s) (record { is = one_name n.text (meanings.Function (length s.functions)) n.place.file e refl refl })
named_plain s n t (Some k) e = if_comes (PlainFrom s) (has_types t (real_types s.locals.meanings) (slice_get s.functions k)) _ _ (λ f. again_plain n.place.file (number_of s.names n.text) s)

signature_plain : (s : Scope) (g : WrittenSignature) (h : Head) → HeadOf s g.name h → Comes (PlainFrom s) (signature_walked g h s)
signature_plain s g h e =
    walk_comes (Keeps s) (PlainFrom s) (declared_as g.name h.given h.earlier) (parameters_walked (listed g.parameters) s) (parameters_keep (listed g.parameters) s)
    (λ t k u f. plain_behind k (named_plain t g.name h.given h.earlier (stands_kept g.name.text h.earlier k e) u f))

-- ---- prototypes
pub prototype_plain : (m : Meanings) → AreOrderly m → (g : WrittenSignature) (c : Option Contract) (s : Scope) → IsBeside s → Leads (PlainFrom s) (WalksPrototype m g c s)
prototype_plain m o g c s a =
    then_leads (HeadOf s g.name) (PlainFrom s) (only_leads (HeadOf s g.name) (head s g false) (head_stands s g false a)) (λ h e. of_head h e)
  where
    of_head : (h : Head) → HeadOf s g.name h → Leads (PlainFrom s) (WalksPrototypeOf m g c s h)
    of_head h e =
        then_plain
        (then_plain (only_leads (PlainFrom s) (signature_walked g h s) (signature_plain s g h e)) (λ t. optional_keeps (m.contract (owner g h.given false)) c t (λ x. o.contract (owner g h.given false) x t)))
        (λ t. only_leads (Keeps t) _ (ok_comes (Keeps t) (record { same = refl })))

-- ---- functions with their bodies
taken_keeps : (l : Locals) (p : Option Place) (s : Scope) → Comes (Keeps s) (taken_unless l p s)
taken_keeps l None s = ok_comes (Keeps s) (record { same = refl })
taken_keeps l (Some p) s = err_comes (Keeps s) _

from_keeps : (ps : List Typed) (l : Option Locals) (s : Scope) → Comes (Keeps s) (taken_from ps l s)
from_keeps ps None s = ok_comes (Keeps s) (keeps_same s)
from_keeps ps (Some l) s = taken_keeps l (first_renamed l.names ps) s

where_keeps : (b : Bool) (ps : List Typed) (l : Option Locals) (s : Scope) → Comes (Keeps s) (taken_where b ps l s)
where_keeps true ps l s = from_keeps ps l s
where_keeps false ps l s = ok_comes (Keeps s) (keeps_same s)

contract_keeps : (m : Meanings) → AreOrderly m → (g : WrittenSignature) (t : CType) (k : ℕ) (c : Option Contract) (s : Scope) → Leads (Keeps s) (WalksContract m g t k c s)
contract_keeps m o g t k None s = only_leads (Keeps s) (taken_where m.takes (listed g.parameters) (prototype_in (slice_get s.sides k)) s) (where_keeps m.takes (listed g.parameters) (prototype_in (slice_get s.sides k)) s)
contract_keeps m o g t k (Some c) s = o.contract (owner g t false) c s

body_keeps : (b : Bool) (m : Meanings) → AreOrderly m → (t : CType) (y : Body) (s : Scope) → Leads (Keeps s) (WalksBodyIf b m t y s)
body_keeps true m o t y s = stmts_keep m o t (stmt_list y.statements) s
body_keeps false m o t y s = only_leads (Keeps s) (Err _) (err_comes (Keeps s) _)

pub definition_plain : (m : Meanings) → AreOrderly m → (g : WrittenSignature) (c : Option Contract) (y : Body) (s : Scope) → IsBeside s → Leads (PlainFrom s) (WalksDefinition m g c y s)
definition_plain m o g c y s a =
    then_leads (HeadOf s g.name) (PlainFrom s) (only_leads (HeadOf s g.name) (head s g true) (head_stands s g true a)) (λ h e. of_head h e)
  where
    of_head : (h : Head) → HeadOf s g.name h → Leads (PlainFrom s) (WalksDefinitionOf m g c y s h)
    of_head h e =
        let k = function_number s h.earlier in
        then_plain
        (then_plain
        (then_plain
        (only_leads (PlainFrom s) (defined_walked g h s) (behind_plain (defined k) (signature_walked g h s) (signature_plain s g h e) (λ t. ok_comes (Keeps t) (record { same = refl }))))
        (λ t. contract_keeps m o g h.given k c t))
        (λ t. body_keeps (nat_eq g.name.place.file t.file) m o h.given y t))
        (λ t. only_leads (Keeps t) _ (ok_comes (Keeps t) (record { same = refl })))

-- ---- function types
type_plain : (n : Name) (s : Scope) → Comes (PlainFrom s) (type_named n s)
type_plain n s = if_comes (PlainFrom s) (is_new s n.text) _ _ (λ e. record { is = one_name n.text (meanings.FunctionType (length s.function_types)) n.place.file (new_name s n.text e) refl refl })

declared_type : (g : WrittenSignature) (t : CType) (s : Scope) → Comes (PlainFrom s) (type_declared g t s)
declared_type g t s =
    behind_plain (type_signed t) (behind (parameters_walked (listed g.parameters)) (type_named g.name s))
    (behind_plain (parameters_walked (listed g.parameters)) (type_named g.name s) (type_plain g.name s) (λ u. parameters_keep (listed g.parameters) u))
    (λ u. ok_comes (Keeps u) (record { same = refl }))

pub function_type_plain : (m : Meanings) → AreOrderly m → (g : WrittenSignature) (c : Option Contract) (s : Scope) → Leads (PlainFrom s) (WalksType m g c s)
function_type_plain m o g c s =
    then_leads Any (PlainFrom s) (only_leads Any (result_type s g.«result») (λ t e. tt)) (λ t u. of_type t)
  where
    of_type : (t : CType) → Leads (PlainFrom s) (WalksTypeOf m g c s t)
    of_type t =
        then_plain
        (then_plain (only_leads (PlainFrom s) (type_declared g t s) (declared_type g t s)) (λ u. optional_keeps (m.contract (owner g t true)) c u (λ x. o.contract (owner g t true) x u)))
        (λ u. only_leads (Keeps u) _ (ok_comes (Keeps u) (record { same = refl })))
