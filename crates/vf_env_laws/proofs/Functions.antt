-- Functions, function types and structs bring their names.
use Rattle.std.proofs.Common.{◌≡◌, refl, sym, ℕ, Bool, true, false, nat_eq, List, [], ◌∷◌, length, Option, Some, None, Err, slice_get}
use Rattle.vf_base.specs.declared.place.Place.{Place}
use Rattle.vf_names.specs.Names.{number_of}
use Rattle.vf_declared.specs.declared.ctype.CType.{CType}
use Rattle.vf_declared.specs.declared.declaration.Meaning.TheVariants as meanings
use Rattle.vf_declared.specs.declared.locals.Locals.{Locals}
use Rattle.vf_declared.specs.declared.scope.Scope.{Scope}
use Rattle.vf_syntax.specs.declared.contract.Contract.{Contract}
use Rattle.vf_syntax.specs.declared.item.Body.{Body}
use Rattle.vf_syntax.specs.declared.item.Signature.{Signature as WrittenSignature}
use Rattle.vf_syntax.specs.declared.item.Typed.{Typed}
use Rattle.vf_syntax.specs.declared.written.Name.{Name}
use Rattle.vf_syntax.specs.StmtTree.{stmt_list}
use Rattle.vf_walk.specs.declared.function.Head.{Head}
use Rattle.vf_walk.specs.Items.{WalksBodyIf, WalksContract, WalksDefinition, WalksDefinitionOf, WalksPrototype, WalksPrototypeOf, WalksType, WalksTypeOf, again_in, declared_as, defined, defined_walked, fields_behind, fields_walked, first_renamed, function_number, head, head_giving, head_of, listed, main_is_right, no_fields, owner, parameters_walked, prototype_in, real_types, result_type, signature_walked, struct_, struct_found, struct_number, struct_walked, taken_from, taken_unless, taken_where, type_declared, type_named, type_signed, with_found}
use Rattle.vf_walk.specs.Meanings.{Meanings}
use Rattle.vf_walk.specs.Names.{earlier, has_types, is_new, may_be_stated}
use Rattle.vf_walk.specs.Walking.{behind}
use Rattle.vf_erasure_laws.proofs.hidden.Coming.{Comes, Leads, ok_comes, only_leads, then_leads}
use Rattle.vf_env_laws.proofs.Keeping.{Any, Brings, IsBeside, Keeps, Stands, any_comes, behind_brings, brings_behind, brings_known, brings_name, beside_kept, err_comes, if_comes, keeps_again, keeps_same, ok_keeps, optional_keeps, then_brings, walk_comes}
use Rattle.vf_env_laws.proofs.Putting.{put_known, put_new}
use Rattle.vf_env_laws.proofs.Heads.{earlier_stands, new_name, stands_kept}
use Rattle.vf_env_laws.proofs.Statements.{AreOrderly, parameters_keep, stmts_keep}

-- ---- heads
-- what a head is of stands for its name
abbrev HeadOf : Scope → Name → Head → Type 0
HeadOf s n h = Stands s n.text h.earlier

head_stands : (s : Scope) (g : WrittenSignature) (b : Bool) → IsBeside s → Comes (HeadOf s g.name) (head s g b)
head_stands s g b a =
    any_comes (HeadOf s g.name) (head_giving s g b) (result_type s g.«result»)
    (λ t. walk_comes (Stands s g.name.text) (HeadOf s g.name) (head_of t g) (earlier s g.name b) (earlier_stands s g.name b a) (λ k h. if_comes (HeadOf s g.name) (main_is_right t g) _ _ (λ e. h)))

-- ---- signatures
again_keeps : (file : ℕ) (o : Option ℕ) (s : Scope) → Keeps s (again_in file o s)
again_keeps file None s = keeps_same s
again_keeps file (Some k) s = keeps_again s k file

named_brings : (s : Scope) (n : Name) (t : CType) (o : Option ℕ) → IsBeside s → Stands s n.text o → Comes (Brings (n.text ∷ []) [] s) (declared_as n t o s)
named_brings s n t None a e =
    let b = brings_name s n.text (meanings.Function (length s.functions)) n.place.file a e in
    ok_comes (Brings (n.text ∷ []) [] s) (record { names = b.names; tags = b.tags; beside = b.beside })
named_brings s n t (Some k) a e = if_comes (Brings (n.text ∷ []) [] s) (has_types t (real_types s.locals.meanings) (slice_get s.functions k)) _ _ (λ f. brings_known n.text e.0 a e.1 (again_keeps n.place.file (number_of s.names n.text) s))

signature_brings : (s : Scope) (g : WrittenSignature) (h : Head) → IsBeside s → HeadOf s g.name h → Comes (Brings (g.name.text ∷ []) [] s) (signature_walked g h s)
signature_brings s g h a e =
    walk_comes (Keeps s) (Brings (g.name.text ∷ []) [] s) (declared_as g.name h.given h.earlier) (parameters_walked (listed g.parameters) s) (parameters_keep (listed g.parameters) s)
    (λ t k u f. brings_behind k (named_brings t g.name h.given h.earlier (beside_kept a k) (stands_kept g.name.text h.earlier k e) u f))

-- ---- prototypes
pub prototype_brings : (m : Meanings) → AreOrderly m → (g : WrittenSignature) (c : Option Contract) (s : Scope) → IsBeside s → Leads (Brings (g.name.text ∷ []) [] s) (WalksPrototype m g c s)
prototype_brings m o g c s a =
    then_leads (HeadOf s g.name) (Brings (g.name.text ∷ []) [] s) (only_leads (HeadOf s g.name) (head s g false) (head_stands s g false a)) (λ h e. of_head h e)
  where
    of_head : (h : Head) → HeadOf s g.name h → Leads (Brings (g.name.text ∷ []) [] s) (WalksPrototypeOf m g c s h)
    of_head h e =
        then_brings
        (then_brings (only_leads (Brings (g.name.text ∷ []) [] s) (signature_walked g h s) (signature_brings s g h a e)) (λ t. optional_keeps (m.contract (owner g h.given false)) c t (λ x. o.contract (owner g h.given false) x t)))
        (λ t. ok_keeps (record { names = refl; tags = refl; count = refl }))

-- ---- functions with their bodies
taken_keeps : (l : Locals) (p : Option Place) (s : Scope) → Comes (Keeps s) (taken_unless l p s)
taken_keeps l None s = ok_comes (Keeps s) (record { names = refl; tags = refl; count = refl })
taken_keeps l (Some p) s = err_comes (Keeps s) _

from_keeps : (ps : List Typed) (l : Option Locals) (s : Scope) → Comes (Keeps s) (taken_from ps l s)
from_keeps ps None s = ok_comes (Keeps s) (keeps_same s)
from_keeps ps (Some l) s = taken_keeps l (first_renamed l.names ps) s

where_keeps : (b : Bool) (ps : List Typed) (l : Option Locals) (s : Scope) → Comes (Keeps s) (taken_where b ps l s)
where_keeps true ps l s = from_keeps ps l s
where_keeps false ps l s = ok_comes (Keeps s) (keeps_same s)

contract_keeps : (m : Meanings) → AreOrderly m → (g : WrittenSignature) (t : CType) (k : ℕ) (c : Option Contract) (s : Scope) → Leads (Keeps s) (WalksContract m g t k c s)
contract_keeps m o g t k None s = only_leads (Keeps s) (taken_where m.takes (listed g.parameters) (prototype_in (slice_get s.sides k)) s) (where_keeps m.takes (listed g.parameters) (prototype_in (slice_get s.sides k)) s)
contract_keeps m o g t k (Some c) s = o.contract (owner g t false) c s

body_keeps : (b : Bool) (m : Meanings) → AreOrderly m → (t : CType) (y : Body) (s : Scope) → Leads (Keeps s) (WalksBodyIf b m t y s)
body_keeps true m o t y s = stmts_keep m o t (stmt_list y.statements) s
body_keeps false m o t y s = only_leads (Keeps s) (Err _) (err_comes (Keeps s) _)

pub definition_brings : (m : Meanings) → AreOrderly m → (g : WrittenSignature) (c : Option Contract) (y : Body) (s : Scope) → IsBeside s → Leads (Brings (g.name.text ∷ []) [] s) (WalksDefinition m g c y s)
definition_brings m o g c y s a =
    then_leads (HeadOf s g.name) (Brings (g.name.text ∷ []) [] s) (only_leads (HeadOf s g.name) (head s g true) (head_stands s g true a)) (λ h e. of_head h e)
  where
    of_head : (h : Head) → HeadOf s g.name h → Leads (Brings (g.name.text ∷ []) [] s) (WalksDefinitionOf m g c y s h)
    of_head h e =
        let k = function_number s h.earlier in
        then_brings
        (then_brings
        (then_brings
        (only_leads (Brings (g.name.text ∷ []) [] s) (defined_walked g h s) (behind_brings (defined k) (signature_walked g h s) (signature_brings s g h a e) (λ t. ok_comes (Keeps t) (record { names = refl; tags = refl; count = refl }))))
        (λ t. contract_keeps m o g h.given k c t))
        (λ t. body_keeps (nat_eq g.name.place.file t.file) m o h.given y t))
        (λ t. ok_keeps (record { names = refl; tags = refl; count = refl }))

-- ---- function types
type_brings : (n : Name) (s : Scope) → IsBeside s → Comes (Brings (n.text ∷ []) [] s) (type_named n s)
type_brings n s a = if_comes (Brings (n.text ∷ []) [] s) (is_new s n.text) _ _ (λ e. brings_name s n.text _ n.place.file a (new_name s n.text e))

declared_type : (g : WrittenSignature) (t : CType) (s : Scope) → IsBeside s → Comes (Brings (g.name.text ∷ []) [] s) (type_declared g t s)
declared_type g t s a =
    behind_brings (type_signed t) (behind (parameters_walked (listed g.parameters)) (type_named g.name s))
    (behind_brings (parameters_walked (listed g.parameters)) (type_named g.name s) (type_brings g.name s a) (λ u. parameters_keep (listed g.parameters) u))
    (λ u. ok_comes (Keeps u) (record { names = refl; tags = refl; count = refl }))

pub function_type_brings : (m : Meanings) → AreOrderly m → (g : WrittenSignature) (c : Option Contract) (s : Scope) → IsBeside s → Leads (Brings (g.name.text ∷ []) [] s) (WalksType m g c s)
function_type_brings m o g c s a =
    then_leads Any (Brings (g.name.text ∷ []) [] s) (only_leads Any (result_type s g.«result») (λ t e. tt)) (λ t u. of_type t)
  where
    of_type : (t : CType) → Leads (Brings (g.name.text ∷ []) [] s) (WalksTypeOf m g c s t)
    of_type t =
        then_brings
        (then_brings (only_leads (Brings (g.name.text ∷ []) [] s) (type_declared g t s) (declared_type g t s a)) (λ u. optional_keeps (m.contract (owner g t true)) c u (λ x. o.contract (owner g t true) x u)))
        (λ u. ok_keeps (record { names = refl; tags = refl; count = refl }))

-- ---- structs
tag_brings : (n : Name) (opaque : Bool) (o : Option ℕ) (s : Scope) → IsBeside s → number_of s.tags n.text ≡ o → Comes (Brings [] (n.text ∷ []) s) (struct_found n opaque o s)
tag_brings n opaque None s a e = ok_comes (Brings [] (n.text ∷ []) s) (record { names = refl; tags = sym (put_new s.tags n.text e); beside = a })
tag_brings n opaque (Some k) s a e = if_comes (Brings [] (n.text ∷ []) s) (may_be_stated s n.place.file opaque (slice_get s.structures k)) _ _ (λ f. record { names = refl; tags = sym (put_known s.tags n.text k e); beside = a })

pub struct_brings : (n : Name) (opaque : Bool) (s : Scope) → IsBeside s → Comes (Brings [] (n.text ∷ []) s) (struct_ n opaque s)
struct_brings n opaque s a = tag_brings n opaque (number_of s.tags n.text) s a refl

pub fields_bring : (n : Name) (xs : List Typed) (s : Scope) → IsBeside s → Comes (Brings [] (n.text ∷ []) s) (struct_walked n xs s)
fields_bring n xs s a =
    let k = struct_number s (number_of s.tags n.text) in
    behind_brings (fields_walked n xs k) (struct_ n false s) (struct_brings n false s a)
    (λ t. any_comes (Keeps t) (with_found k t) (fields_behind t xs (no_fields n.place.file)) (λ fs. ok_comes (Keeps t) (record { names = refl; tags = refl; count = refl })))
