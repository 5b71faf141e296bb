-- Functions, function types and structs add to what is declared.
use Rattle.std.proofs.Common.{◌≡◌, refl, sym, subst, ◌∙◌, ap, ℕ, Bool, true, false, ◌&&◌, if◌then◌else◌, nat_eq, List, length, Option, Some, None, Result, Err, slice_get}
use Rattle.vf_base.specs.declared.place.Place.{Place}
use Rattle.vf_base.specs.declared.refusal.Refusal.{Refusal}
use Rattle.vf_names.specs.Names.{number_of}
use Rattle.vf_declared.specs.declared.ctype.CType.{CType}
use Rattle.vf_declared.specs.declared.declaration.Declaration.{Declaration}
use Rattle.vf_declared.specs.declared.declaration.Meaning.TheVariants as meanings
use Rattle.vf_declared.specs.declared.locals.Locals.{Locals}
use Rattle.vf_declared.specs.declared.scope.Scope.{Scope}
use Rattle.vf_declared.specs.Scopes.{at_index, at_name, is_visible}
use Rattle.vf_syntax.specs.declared.contract.Contract.{Contract}
use Rattle.vf_syntax.specs.declared.item.Body.{Body}
use Rattle.vf_syntax.specs.declared.item.Signature.{Signature as WrittenSignature}
use Rattle.vf_syntax.specs.declared.item.Typed.{Typed}
use Rattle.vf_syntax.specs.declared.written.Name.{Name}
use Rattle.vf_syntax.specs.StmtTree.{stmt_list}
use Rattle.vf_walk.specs.declared.function.Head.{Head}
use Rattle.vf_walk.specs.Items.{WalksBodyIf, WalksContract, WalksDefinition, WalksDefinitionOf, WalksPrototype, WalksPrototypeOf, WalksType, WalksTypeOf, again_in, declared_as, defined, defined_walked, fields_behind, fields_walked, first_renamed, function_number, head, head_giving, head_of, listed, main_is_right, no_fields, owner, parameters_walked, prototype_in, real_types, result_type, signature_walked, struct_, struct_found, struct_number, struct_walked, taken_from, taken_unless, taken_where, type_declared, type_named, type_signed, with_found}
use Rattle.vf_walk.specs.Meanings.{Meanings}
use Rattle.vf_walk.specs.Names.{earlier, earlier_in, extended, extends, has_types, is_new, is_taken, may_be_stated}
use Rattle.vf_walk.specs.Walking.{behind}
use Rattle.vf_erasure_laws.proofs.hidden.Coming.{Comes, Leads, none_some, ok_comes, only_leads, then_leads}
use Rattle.vf_fixpoint_laws.specs.definable.Files.{SeesThrough}
use Rattle.vf_fixpoint_laws.proofs.definable.Extending.{Grows, Keeps, core, grows_again, grows_behind, grows_kept, grows_name, keeps_both, keeps_same, sees_kept, visible_bare}
use Rattle.vf_fixpoint_laws.proofs.definable.Parts.{Any, Cleared, Ends, any_comes, behind_grows, err_comes, if_comes, optional_keeps, then_ends, then_grows, walk_comes}
use Rattle.vf_fixpoint_laws.proofs.definable.Seeing.{bare}
use Rattle.vf_fixpoint_laws.proofs.definable.Seen.{IsSeen, NewOrSeen, new_or_seen_kept}
use Rattle.vf_fixpoint_laws.proofs.definable.Statements.{AreOrderly, parameters_keep, stmts_keep}

-- ---- heads
both_true : (a b : Bool) (o : Option ℕ) (k : ℕ) → (if a && b then o else None) ≡ Some k → a ≡ true
both_true true b o k e = refl
both_true false b o k e = absurd (none_some e)

extends_seen : (s : Scope) (n : Name) (b : Bool) (j : ℕ) (d : Declaration) (o : Option ℕ) → number_of s.names n.text ≡ Some j → slice_get s.declarations j ≡ Some d → extended s n.place.file b d ≡ o → Comes (NewOrSeen (core s) n.text n.place.file) (extends n o)
extends_seen s n b j d None e f g = err_comes (NewOrSeen (core s) n.text n.place.file) _
extends_seen s n b j d (Some k) e f g = ok_comes (NewOrSeen (core s) n.text n.place.file) (record { number = j; is = e; seen = λ c h. subst (λ (c : Declaration). is_visible (bare s) n.place.file c.files ≡ true) (same h) (visible_bare s n.place.file d.files ∙ both_true (is_visible s n.place.file d.files) _ _ k g) })
  where
    some : {c : Declaration} → ◌≡◌ {A = Option Declaration} (Some d) (Some c) → d ≡ c
    some e = cc

    same : {c : Declaration} → slice_get s.declarations j ≡ Some c → d ≡ c
    same h = some (sym f ∙ h)

placed_seen : (s : Scope) (n : Name) (b : Bool) (j : ℕ) (o : Option Declaration) → number_of s.names n.text ≡ Some j → slice_get s.declarations j ≡ o → Comes (NewOrSeen (core s) n.text n.place.file) (earlier_in s n b o)
placed_seen s n b j None e f = ok_comes (NewOrSeen (core s) n.text n.place.file) tt
placed_seen s n b j (Some d) e f = extends_seen s n b j d (extended s n.place.file b d) e f refl

named_seen : (s : Scope) (n : Name) (b : Bool) (o : Option ℕ) → number_of s.names n.text ≡ o → Comes (NewOrSeen (core s) n.text n.place.file) (earlier_in s n b (at_index s.declarations o))
named_seen s n b None e = ok_comes (NewOrSeen (core s) n.text n.place.file) tt
named_seen s n b (Some j) e = placed_seen s n b j (slice_get s.declarations j) e refl

taken_seen : (s : Scope) (n : Name) (b : Bool) (r : Result (Option ℕ) Refusal) (x : Refusal) → Comes (NewOrSeen (core s) n.text n.place.file) r → Comes (NewOrSeen (core s) n.text n.place.file) (if b then Err x else r)
taken_seen s n true r x h = err_comes (NewOrSeen (core s) n.text n.place.file) x
taken_seen s n false r x h = h

earlier_seen : (s : Scope) (n : Name) (b : Bool) → Comes (NewOrSeen (core s) n.text n.place.file) (earlier s n b)
earlier_seen s n b = taken_seen s n (is_taken s n.text) (earlier_in s n b (at_name s.names s.declarations n.text)) _ (named_seen s n b (number_of s.names n.text) refl)

-- what a head is of is seen where it stands
abbrev HeadOf : Scope → Name → Head → Type 0
HeadOf s n h = NewOrSeen (core s) n.text n.place.file h.earlier

head_seen : (s : Scope) (g : WrittenSignature) (b : Bool) → Comes (HeadOf s g.name) (head s g b)
head_seen s g b =
    any_comes (HeadOf s g.name) (head_giving s g b) (result_type s g.«result»)
    (λ t. walk_comes (NewOrSeen (core s) g.name.text g.name.place.file) (HeadOf s g.name) (head_of t g) (earlier s g.name b) (earlier_seen s g.name b) (λ k h. if_comes (HeadOf s g.name) (main_is_right t g) _ _ (λ e. h)))

-- ---- signatures
again_grows : (m : ℕ) (s : Scope) → SeesThrough s → (n : Name) (k : ℕ) → IsSeen (core s) n.text n.place.file → (o : Option ℕ) → number_of s.names n.text ≡ o → Grows m s (again_in n.place.file o s)
again_grows m s v n k h None e = grows_kept m (keeps_same s)
again_grows m s v n k h (Some j) e = grows_again m s v j n.place.file (λ d f. sym (visible_bare s n.place.file d.files) ∙ h.seen d (ap (slice_get s.declarations) (same (sym h.is ∙ e)) ∙ f))
  where
    same : ◌≡◌ {A = Option ℕ} (Some h.number) (Some j) → h.number ≡ j
    same e = cc

named_grows : (m : ℕ) (s : Scope) → SeesThrough s → (n : Name) (t : CType) (o : Option ℕ) → NewOrSeen (core s) n.text n.place.file o → Comes (Grows m s) (declared_as n t o s)
named_grows m s v n t None h = ok_comes (Grows m s) (record { extends = (grows_name m s n.text (meanings.Function (length s.functions)) n.place.file).extends })
named_grows m s v n t (Some k) h = if_comes (Grows m s) (has_types t (real_types s.locals.meanings) (slice_get s.functions k)) _ _ (λ f. again_grows m s v n k h (number_of s.names n.text) refl)

signature_grows : (m : ℕ) (s : Scope) → SeesThrough s → (g : WrittenSignature) (h : Head) → HeadOf s g.name h → Comes (Grows m s) (signature_walked g h s)
signature_grows m s v g h e =
    walk_comes (Keeps s) (Grows m s) (declared_as g.name h.given h.earlier) (parameters_walked (listed g.parameters) s) (parameters_keep (listed g.parameters) s)
    (λ t k u f. grows_behind k (named_grows m t (sees_kept (grows_kept m k) v) g.name h.given h.earlier (new_or_seen_kept k g.name.text g.name.place.file h.earlier e) u f))

-- ---- prototypes
pub prototype_ends : (m : Meanings) → AreOrderly m → (d : ℕ) (g : WrittenSignature) (c : Option Contract) (s : Scope) → SeesThrough s → Leads (Ends d s) (WalksPrototype m g c s)
prototype_ends m o d g c s v =
    then_leads (HeadOf s g.name) (Ends d s) (only_leads (HeadOf s g.name) (head s g false) (head_seen s g false)) (λ h e. of_head h e)
  where
    of_head : (h : Head) → HeadOf s g.name h → Leads (Ends d s) (WalksPrototypeOf m g c s h)
    of_head h e =
        then_ends
        (then_grows (only_leads (Grows d s) (signature_walked g h s) (signature_grows d s v g h e)) (λ t. optional_keeps (m.contract (owner g h.given false)) c t (λ x. o.contract (owner g h.given false) x t)))
        (λ t. only_leads (Cleared t) _ (ok_comes (Cleared t) (record { keeps = record { same = refl }; locals = refl })))

-- ---- functions with their bodies
taken_keeps : (l : Locals) (p : Option Place) (s : Scope) → Comes (Keeps s) (taken_unless l p s)
taken_keeps l None s = ok_comes (Keeps s) (record { same = refl })
taken_keeps l (Some p) s = err_comes (Keeps s) _

from_keeps : (ps : List Typed) (l : Option Locals) (s : Scope) → Comes (Keeps s) (taken_from ps l s)
from_keeps ps None s = ok_comes (Keeps s) (keeps_same s)
from_keeps ps (Some l) s = taken_keeps l (first_renamed l.names ps) s

where_keeps : (b : Bool) (ps : List Typed) (l : Option Locals) (s : Scope) → Comes (Keeps s) (taken_where b ps l s)
where_keeps true ps l s = from_keeps ps l s
where_keeps false ps l s = ok_comes (Keeps s) (keeps_same s)

contract_keeps : (m : Meanings) → AreOrderly m → (g : WrittenSignature) (t : CType) (k : ℕ) (c : Option Contract) (s : Scope) → Leads (Keeps s) (WalksContract m g t k c s)
contract_keeps m o g t k None s = only_leads (Keeps s) (taken_where m.takes (listed g.parameters) (prototype_in (slice_get s.sides k)) s) (where_keeps m.takes (listed g.parameters) (prototype_in (slice_get s.sides k)) s)
contract_keeps m o g t k (Some c) s = o.contract (owner g t false) c s

body_keeps : (b : Bool) (m : Meanings) → AreOrderly m → (t : CType) (y : Body) (s : Scope) → Leads (Keeps s) (WalksBodyIf b m t y s)
body_keeps true m o t y s = stmts_keep m o t (stmt_list y.statements) s
body_keeps false m o t y s = only_leads (Keeps s) (Err _) (err_comes (Keeps s) _)

pub definition_ends : (m : Meanings) → AreOrderly m → (d : ℕ) (g : WrittenSignature) (c : Option Contract) (y : Body) (s : Scope) → SeesThrough s → Leads (Ends d s) (WalksDefinition m g c y s)
definition_ends m o d g c y s v =
    then_leads (HeadOf s g.name) (Ends d s) (only_leads (HeadOf s g.name) (head s g true) (head_seen s g true)) (λ h e. of_head h e)
  where
    of_head : (h : Head) → HeadOf s g.name h → Leads (Ends d s) (WalksDefinitionOf m g c y s h)
    of_head h e =
        let k = function_number s h.earlier in
        then_ends
        (then_grows
        (then_grows
        (only_leads (Grows d s) (defined_walked g h s) (behind_grows (defined k) (signature_walked g h s) (signature_grows d s v g h e) (λ t. ok_comes (Keeps t) (record { same = refl }))))
        (λ t. contract_keeps m o g h.given k c t))
        (λ t. body_keeps (nat_eq g.name.place.file t.file) m o h.given y t))
        (λ t. only_leads (Cleared t) _ (ok_comes (Cleared t) (record { keeps = record { same = refl }; locals = refl })))

-- ---- function types
type_grows : (d : ℕ) (n : Name) (s : Scope) → Comes (Grows d s) (type_named n s)
type_grows d n s = if_comes (Grows d s) (is_new s n.text) _ _ (λ e. grows_name d s n.text _ n.place.file)

declared_type : (d : ℕ) (g : WrittenSignature) (t : CType) (s : Scope) → Comes (Grows d s) (type_declared g t s)
declared_type d g t s =
    behind_grows (type_signed t) (behind (parameters_walked (listed g.parameters)) (type_named g.name s))
    (behind_grows (parameters_walked (listed g.parameters)) (type_named g.name s) (type_grows d g.name s) (λ u. parameters_keep (listed g.parameters) u))
    (λ u. ok_comes (Keeps u) (record { same = refl }))

pub function_type_ends : (m : Meanings) → AreOrderly m → (d : ℕ) (g : WrittenSignature) (c : Option Contract) (s : Scope) → Leads (Ends d s) (WalksType m g c s)
function_type_ends m o d g c s =
    then_leads Any (Ends d s) (only_leads Any (result_type s g.«result») (λ t e. tt)) (λ t u. of_type t)
  where
    of_type : (t : CType) → Leads (Ends d s) (WalksTypeOf m g c s t)
    of_type t =
        then_ends
        (then_grows (only_leads (Grows d s) (type_declared g t s) (declared_type d g t s)) (λ u. optional_keeps (m.contract (owner g t true)) c u (λ x. o.contract (owner g t true) x u)))
        (λ u. only_leads (Cleared u) _ (ok_comes (Cleared u) (record { keeps = record { same = refl }; locals = refl })))

-- ---- structs
-- nothing is declared that names of file level mean, and the locals are as before
pub record IsBeside (s t : Scope) : Type 0 where
  pub keeps : Keeps s t
  pub locals : t.locals ≡ s.locals

tag_beside : (n : Name) (opaque : Bool) (o : Option ℕ) (s : Scope) → Comes (IsBeside s) (struct_found n opaque o s)
tag_beside n opaque None s = ok_comes (IsBeside s) (record { keeps = record { same = refl }; locals = refl })
tag_beside n opaque (Some k) s = if_comes (IsBeside s) (may_be_stated s n.place.file opaque (slice_get s.structures k)) _ _ (λ f. record { keeps = record { same = refl }; locals = refl })

pub struct_beside : (n : Name) (opaque : Bool) (s : Scope) → Comes (IsBeside s) (struct_ n opaque s)
struct_beside n opaque s = tag_beside n opaque (number_of s.tags n.text) s

pub fields_beside : (n : Name) (xs : List Typed) (s : Scope) → Comes (IsBeside s) (struct_walked n xs s)
fields_beside n xs s =
    let k = struct_number s (number_of s.tags n.text) in
    walk_comes (IsBeside s) (IsBeside s) (fields_walked n xs k) (struct_ n false s) (struct_beside n false s)
    (λ t h. any_comes (IsBeside s) (with_found k t) (fields_behind t xs (no_fields n.place.file)) (λ fs. ok_comes (IsBeside s) (record { keeps = keeps_both h.keeps (record { same = refl }); locals = h.locals })))
