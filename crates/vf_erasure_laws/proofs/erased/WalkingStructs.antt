-- The walk over structs and function types comes to the same where C text alone is seen.
use Rattle.std.proofs.Common.{◌≡◌, ℕ, Bool, true, false, if◌then◌else◌, List, [], ◌∷◌, ◌++◌, length, map, Option, Some, None, Ok, Err, slice_get, refl, sym, ap, subst, ◌∙◌}
use Rattle.std.proofs.lemmas.List.{length-map}
use Rattle.vf_base.specs.declared.rule.Rule.TheVariants as rules
use Rattle.vf_names.specs.Names.{number_of}
use Rattle.vf_declared.specs.declared.ctype.CType.{CType}
use Rattle.vf_declared.specs.declared.declaration.Fields.{Fields}
use Rattle.vf_declared.specs.declared.declaration.Meaning.TheVariants as meanings
use Rattle.vf_declared.specs.declared.declaration.Structure.{Structure}
use Rattle.vf_declared.specs.declared.locals.Local.TheVariants as locals
use Rattle.vf_declared.specs.declared.scope.Scope.{Scope}
use Rattle.vf_declared.specs.Writing.{with_fields, with_name, with_struct, with_struct_again}
use Rattle.vf_syntax.specs.declared.contract.Contract.{Contract}
use Rattle.vf_syntax.specs.declared.item.Signature.{Signature as WrittenSignature}
use Rattle.vf_syntax.specs.declared.item.Typed.{Typed}
use Rattle.vf_syntax.specs.declared.written.Name.{Name}
use Rattle.vf_typing.specs.Names.{written_type}
use Rattle.vf_typing.specs.Refusals.{refused}
use Rattle.vf_walk.specs.Items.{field_walked, fields_behind, fields_walked, listed, no_fields, owner, parameters_walked, signature_of, struct_, struct_found, struct_number, struct_walked, type_named, type_signed, WalksType, with_field, with_found, without_locals}
use Rattle.vf_walk.specs.Meanings.{Meanings, no_meanings}
use Rattle.vf_walk.specs.Names.{is_new, may_be_stated}
use Rattle.vf_walk.specs.Walking.{behind, Only, Optional, Then, Walked}
use Rattle.vf_walk.specs.Walking as walking
use Rattle.vf_erasure_laws.specs.seen.Seen.{IsOrderly, seen}
use Rattle.vf_erasure_laws.specs.seen.Unseen.{AreUnseen}
use Rattle.vf_erasure_laws.specs.erased.Walks.{IsSettled}
use Rattle.vf_erasure_laws.proofs.erased.WalkingSteps.{ok_same, on, refused_unless, through, went}
use Rattle.vf_erasure_laws.proofs.erased.WalkingExtends.{beside_behind, more}
use Rattle.vf_erasure_laws.proofs.erased.WalkingSeen.{seen_ghosts, written_seen}
use Rattle.vf_erasure_laws.proofs.erased.WalkingNames.{named_seen, new_seen, stated_alike}
use Rattle.vf_erasure_laws.proofs.erased.WalkingFunctions.{parameters_declare, result_seen, signature_alike}
use Rattle.vf_erasure_laws.proofs.erased.WalkingContracts.{contract_adds, seen_without, settled_without}
use Rattle.vf_erasure_laws.proofs.erased.WalkingTypes.{as_many_texts, texts}

-- ---- structs
-- all but structs is declared as before
pub record Structured (s t : Scope) : Type 0 where
  pub tags : List (List ℕ)
  pub structures : List Structure
  pub is : t ≡ record s { tags = tags; structures = structures }

pub structured_settled : {s t : Scope} → IsSettled s → Structured s t → IsSettled t
structured_settled o h = subst IsSettled (sym h.is) (record {
  orderly = record { locals = o.orderly.locals; names = o.orderly.names; prototypes = o.orderly.prototypes };
  cleared = o.cleared;
  numbered = o.numbered;
  typed = o.typed;
})

-- a struct is declared
pub record StructGoes (n : Name) (opaque : Bool) (s t : Scope) : Type 0 where
  pub structured : Structured s t
  pub again : struct_ n opaque (seen s) ≡ Ok (seen t)

struct_new_seen : (n : Name) (opaque : Bool) (s : Scope) → struct_found n opaque None (seen s) ≡ Ok (seen (with_struct s n.text n.place.file opaque))
unfolding seen
struct_new_seen n opaque s = refl

struct_again_seen : (n : Name) (opaque : Bool) (s : Scope) (k : ℕ) → may_be_stated s n.place.file opaque (slice_get s.structures k) ≡ true → struct_found n opaque (Some k) (seen s) ≡ Ok (seen (with_struct_again s k n.place.file opaque))
unfolding seen
struct_again_seen n opaque s k h =
    ap (λ b. if b then Ok (with_struct_again (seen s) k n.place.file opaque) else Err (refused rules.Name n.place)) (stated_alike s n.place.file opaque (slice_get s.structures k) ∙ h)

tags_alike : (s : Scope) → (seen s).tags ≡ s.tags
unfolding seen
tags_alike s = refl

pub struct_goes : {t : Scope} (n : Name) (opaque : Bool) (s : Scope) → struct_ n opaque s ≡ Ok t → StructGoes n opaque s t
struct_goes {t} n opaque s h = by_number (number_of s.tags n.text) refl h
  where
    tagged : (q : Option ℕ) → number_of s.tags n.text ≡ q → struct_found n opaque q (seen s) ≡ Ok (seen t) → struct_ n opaque (seen s) ≡ Ok (seen t)
    tagged q e h = ap (λ ts. struct_found n opaque (number_of ts n.text) (seen s)) (tags_alike s) ∙ ap (λ q. struct_found n opaque q (seen s)) e ∙ h

    by_number : (q : Option ℕ) → number_of s.tags n.text ≡ q → struct_found n opaque q s ≡ Ok t → StructGoes n opaque s t
    by_number None e h = record {
      structured = record { tags = _; structures = _; is = sym (ok_same h) };
      again = tagged None e (struct_new_seen n opaque s ∙ ap (λ (u : Scope). Ok (seen u)) (ok_same h));
    }
    by_number (Some k) e h =
        let test = refused_unless (with_struct_again s k n.place.file opaque) (refused rules.Name n.place) (may_be_stated s n.place.file opaque (slice_get s.structures k)) h in
        record {
          structured = record { tags = _; structures = _; is = test.is };
          again = tagged (Some k) e (struct_again_seen n opaque s k test.holds ∙ ap (λ (u : Scope). Ok (seen u)) (sym test.is));
        }

-- fields
field_seen : {gs : Fields} (s : Scope) (x : Typed) (fs : Fields) → field_walked s x fs ≡ Ok gs → field_walked (seen s) x fs ≡ Ok gs
field_seen s x fs h =
    let k = through (λ t. with_field x t fs) (written_type s x.written) h in
    on (λ t. with_field x t fs) (written_type (seen s) x.written) (written_seen s x.written k.first) k.next

fields_seen : {gs : Fields} (s : Scope) (xs : List Typed) (fs : Fields) → fields_behind s xs fs ≡ Ok gs → fields_behind (seen s) xs fs ≡ Ok gs
fields_seen s [] fs h = h
fields_seen s (x ∷ xs) fs h =
    let k = through (fields_behind s xs) (field_walked s x fs) h in
    on (fields_behind (seen s) xs) (field_walked (seen s) x fs) (field_seen s x fs k.first) (fields_seen s xs k.at k.next)

with_fields_seen : (s : Scope) (k : ℕ) (fs : Fields) → with_fields (seen s) k fs ≡ seen (with_fields s k fs)
unfolding seen
with_fields_seen s k fs = refl

struct_number_alike : (s : Scope) (q : Option ℕ) → struct_number (seen s) q ≡ struct_number s q
unfolding seen
struct_number_alike s None = refl
struct_number_alike s (Some k) = refl

-- a struct with its fields
pub record FieldsGo (n : Name) (xs : List Typed) (s t : Scope) : Type 0 where
  pub settled : IsSettled t
  pub again : struct_walked n xs (seen s) ≡ Ok (seen t)

pub fields_go : {t : Scope} (n : Name) (xs : List Typed) (s : Scope) → IsSettled s → struct_walked n xs s ≡ Ok t → FieldsGo n xs s t
fields_go {t} n xs s o h =
    let number = struct_number s (number_of s.tags n.text) in
    let k = through (fields_walked n xs number) (struct_ n false s) h in
    let g = struct_goes n false s k.first in
    let j = through (with_found number k.at) (fields_behind k.at xs (no_fields n.place.file)) k.next in
    let is : with_fields k.at number j.at ≡ t = ok_same j.next in
    let same : struct_number (seen s) (number_of (seen s).tags n.text) ≡ number = struct_number_alike s (number_of (seen s).tags n.text) ∙ ap (λ ts. struct_number s (number_of ts n.text)) (tags_alike s) in
    record {
      settled = subst IsSettled is (structured_settled (structured_settled o g.structured) (record { tags = k.at.tags; structures = _; is = refl }));
      again = on (fields_walked n xs (struct_number (seen s) (number_of (seen s).tags n.text))) (struct_ n false (seen s)) g.again
          (ap (λ q. fields_walked n xs q (seen k.at)) same
          ∙ on (with_found number (seen k.at)) (fields_behind (seen k.at) xs (no_fields n.place.file)) (fields_seen k.at xs (no_fields n.place.file) j.first) (ap Ok (with_fields_seen k.at number j.at) ∙ ap (λ (u : Scope). Ok (seen u)) is));
    }

-- ---- function types
-- one more function type that takes the locals
abbrev with_type : CType → Scope → Scope
with_type c s = record s { function_types = s.function_types ++ signature_of c s ∷ [] }

type_signed_seen : (c : CType) (s : Scope) → with_type c (seen s) ≡ seen (with_type c s)
unfolding seen
type_signed_seen c s = λ i. record (seen s) { function_types = s.function_types ++ signature_alike c s i ∷ [] }

abbrev type_name : Scope → Name → Scope
type_name s n = with_name s n.text (meanings.FunctionType (length s.function_types)) n.place.file

type_name_seen : (s : Scope) (n : Name) → length s.names ≡ length s.declarations → seen (type_name s n) ≡ type_name (seen s) n
unfolding seen
type_name_seen s n a = named_seen s n.text (meanings.FunctionType (length s.function_types)) n.place.file refl a

type_named_seen : (s : Scope) (n : Name) → length s.names ≡ length s.declarations → is_new s n.text ≡ true → type_named n (seen s) ≡ Ok (seen (type_name s n))
type_named_seen s n a h = ap (λ b. if b then Ok (type_name (seen s) n) else Err (refused rules.Name n.place)) (new_seen s n.text h) ∙ ap Ok (sym (type_name_seen s n a))

pub record TypeGoes (g : WrittenSignature) (s t : Scope) : Type 0 where
  pub settled : IsSettled t
  pub walks : WalksType no_meanings g None (seen s) (Ok (seen t))

pub type_goes : {t : Scope} (m : Meanings) → AreUnseen m → (g : WrittenSignature) (c : Option Contract) (s : Scope) → IsSettled s → WalksType m g c s (Ok t) → TypeGoes g s t
type_goes {t} m d g c s o h =
    let ps = listed g.parameters in
    let named = type_name s g.name in
    let k = went h in
    let j = went k.next in
    let i = went j.first in
    let w = through (type_signed k.at) (behind (parameters_walked ps) (type_named g.name s)) i.first.is in
    let x = through (parameters_walked ps) (type_named g.name s) w.first in
    let new = refused_unless named (refused rules.Name g.name.place) (is_new s g.name.text) x.first in
    let p = parameters_declare ps named o.orderly.locals (ap (parameters_walked ps) (sym new.is) ∙ x.next) in
    let u : Scope = with_type k.at (more named (texts ps) (map locals.Real p.types)) in
    let is : u ≡ i.at = ap (with_type k.at) (sym p.is) ∙ ok_same w.next in
    let beside : length s.names ≡ length s.declarations = o.orderly.names in
    let orderly : IsOrderly u = record {
      locals = beside_behind s.locals.names (texts ps) s.locals.meanings (map locals.Real p.types) o.orderly.locals (as_many_texts ps ∙ sym p.as_many ∙ sym (length-map p.types locals.Real));
      names = beside_behind s.names (g.name.text ∷ []) s.declarations ((record { meaning = meanings.FunctionType (length s.function_types); files = g.name.place.file ∷ [] }) ∷ []) beside refl;
      prototypes = o.orderly.prototypes;
    } in
    let adds = contract_adds m d (owner g k.at true) c (subst IsOrderly is orderly) i.next in
    let same : without_locals u ≡ t = ap without_locals is ∙ sym (ap without_locals adds.is) ∙ ok_same j.next.is in
    record {
      settled = subst IsSettled same (settled_without u orderly o.numbered o.typed);
      walks = walking.goes (record { is = result_seen s g.«result» k.first.is })
          (walking.goes
          (walking.goes
          (record {
            is =
                on (type_signed k.at) (behind (parameters_walked ps) (type_named g.name (seen s)))
                (on (parameters_walked ps) (type_named g.name (seen s)) (type_named_seen s g.name beside new.holds) p.again)
                (ap Ok (type_signed_seen k.at w.at) ∙ ap (λ (u : Scope). Ok (seen u)) (ok_same w.next));
          })
          (record { is = ap Ok (sym (seen_ghosts (subst IsOrderly is orderly).locals adds)) }))
          (record { is = ap Ok (sym (seen_without j.at)) ∙ ap (λ (u : Scope). Ok (seen u)) (ok_same j.next.is) }));
    }
