-- What is the same in two units stays the same where more is declared.
use Rattle.std.proofs.Common.{◌≡◌, ℕ, true, ◌||◌, nat_eq, List, Option, Some, slice_get, sym, ap, subst, ◌∙◌}
use Rattle.std.specs.Option.{option_or}
use Rattle.vf_declared.specs.declared.ctype.CType.{CType}
use Rattle.vf_declared.specs.declared.declaration.Meaning.{Meaning}
use Rattle.vf_declared.specs.declared.declaration.Signature.{Signature}
use Rattle.vf_declared.specs.declared.scope.Scope.{Scope}
use Rattle.vf_declared.specs.Scopes.{declaration_of, field_of, function_type_of, is_among, signature_of, tag_of}
use Rattle.vf_header_laws.specs.c_names.Parts.{is_part_of}
use Rattle.vf_header_laws.specs.c_names.Same.{AreOneSignature, AreOneType, Both, both, ConsistsOfHeaders, done, Each, HaveTheSameFields, MeanTheSame, neither, next, ShowTheSame}
use Rattle.vf_header_laws.specs.c_names.Same as same
use Rattle.vf_header_laws.specs.c_names.Items.{SeesAsBefore}
use Rattle.vf_header_laws.proofs.c_names.Files.{OfOneUnit, part_same}
use Rattle.vf_header_laws.proofs.c_names.Elsewhere.{unit_of}
use Rattle.vf_header_laws.proofs.c_names.Types.{both_map, part_itself}

-- names and tags of a header mean what they meant
pub record Names (header : ℕ) (s t : Scope) : Type 0 where
  pub names : (name : List ℕ) (m : Meaning) → declaration_of s name header ≡ Some m → declaration_of t name header ≡ Some m
  pub tags : (tag : List ℕ) (n : ℕ) → tag_of s tag header ≡ Some n → tag_of t tag header ≡ Some n

-- and so do the numbers of functions and function types
pub record Grows (header : ℕ) (s t : Scope) : Type 0 where
  pub named : Names header s t
  pub functions : (n : ℕ) (f : Signature) → signature_of s n ≡ Some f → signature_of t n ≡ Some f
  pub function_types : (n : ℕ) (f : Signature) → function_type_of s n ≡ Some f → function_type_of t n ≡ Some f

pub or_first : {A : Type 0} {a : A} (o p q : Option A) → q ≡ option_or o p → o ≡ Some a → q ≡ Some a
or_first o p q e h = e ∙ ap (λ z. option_or z p) h

pub type_grows : {header : ℕ} {s t u v : Scope} {a b : CType} → Names header s u → Names header t v → AreOneType header s t a b → AreOneType header u v a b
type_grows h k same.void = same.void
type_grows h k same.integer = same.integer
type_grows h k same.void_pointer = same.void_pointer
type_grows h k same.int_pointer = same.int_pointer
type_grows h k (same.struct_pointer x) = same.struct_pointer (record { tag = x.tag; first = h.tags x.tag _ x.first; second = k.tags x.tag _ x.second })
type_grows h k (same.function_pointer x) = same.function_pointer (record { name = x.name; first = h.names x.name _ x.first; second = k.names x.name _ x.second })
type_grows h k (same.function x) = same.function (record { name = x.name; first = h.names x.name _ x.first; second = k.names x.name _ x.second })

pub types_grow : {header : ℕ} {s t u v : Scope} {xs ys : List CType} → Names header s u → Names header t v → Each (AreOneType header s t) xs ys → Each (AreOneType header u v) xs ys
types_grow h k done = done
types_grow h k (next r rs) = next (type_grows h k r) (types_grow h k rs)

pub signature_grows : {header : ℕ} {s t u v : Scope} {f g : Signature} → Names header s u → Names header t v → AreOneSignature header s t f g → AreOneSignature header u v f g
signature_grows h k r = record { gives = type_grows h k r.gives; takes = types_grow h k r.takes }

pub meaning_grows : {header : ℕ} {s t u v : Scope} {x y : Meaning} → Grows header s u → Grows header t v → MeanTheSame header s t x y → MeanTheSame header u v x y
meaning_grows h k (same.functions e i r) = same.functions (h.functions _ _ e) (k.functions _ _ i) (signature_grows h.named k.named r)
meaning_grows h k (same.function_types e i r) = same.function_types (h.function_types _ _ e) (k.function_types _ _ i) (signature_grows h.named k.named r)
meaning_grows h k same.ghosts = same.ghosts

-- fields are seen from the files of a header as before
pub record Fielded (header : ℕ) (s t : Scope) : Type 0 where
  pub unit : OfOneUnit s t
  pub fields : (from n : ℕ) (name : List ℕ) → is_part_of s header from ≡ true → field_of t n name from ≡ field_of s n name from

pub both_at : {A B : Type 0} {R : A → B → Type 0} {o p : Option A} {q r : Option B} → p ≡ o → r ≡ q → Both R o q → Both R p r
both_at {R = R} {o = o} {r = r} e h k = subst (λ z. Both R z r) (sym e) (subst (λ z. Both R o z) (sym h) k)

pub fields_grow : {header : ℕ} {s t u v : Scope} {n m : ℕ} → ((from : ℕ) → is_part_of s header from ≡ true → is_part_of t header from ≡ true) → Fielded header s u → Fielded header t v → Names header s u → Names header t v → HaveTheSameFields header s t n m → HaveTheSameFields header u v n m
fields_grow {header} {s} {n = n} {m = m} part h k i j r = record {
  fields = λ from name p.
      let q : is_part_of s header from ≡ true = sym (part_same header from h.unit) ∙ p in
      both_at (h.fields from n name q) (k.fields from m name (part from q)) (both_map (λ a b c. type_grows i j c) (r.fields from name q));
}

-- ---- a header that sees the same as before
pub grows_as_before : {header : ℕ} {s t : Scope} → SeesAsBefore header s t → Grows header s t
grows_as_before {header} {s} h = record {
  named = record {
    names = λ name m e. h.names header name (part_itself s header) ∙ e;
    tags = λ tag n e. h.tags header tag (part_itself s header) ∙ e;
  };
  functions = h.functions;
  function_types = h.function_types;
}

pub fielded_as_before : {header : ℕ} {s t : Scope} → SeesAsBefore header s t → Fielded header s t
fielded_as_before h = record { unit = unit_of h; fields = h.fields }

-- a header consists of the same files in both units
pub part_both : {header : ℕ} {s t : Scope} (from : ℕ) → ShowTheSame header s t → is_part_of s header from ≡ is_part_of t header from
part_both {header} {s} from h = ap (λ o. nat_eq header from || is_among o from) (h.files header (part_itself s header))

pub shows_as_before : {header : ℕ} {s t u v : Scope} → SeesAsBefore header s u → SeesAsBefore header t v → ShowTheSame header s t → ShowTheSame header u v
shows_as_before {header} {s} {t} {u} h k r =
    let back : (from : ℕ) → is_part_of u header from ≡ true → is_part_of s header from ≡ true = λ from p. sym (part_same header from (unit_of h)) ∙ p in
    let part : (from : ℕ) → is_part_of s header from ≡ true → is_part_of t header from ≡ true = λ from p. sym (part_both from r) ∙ p in
    record {
      files = λ file p. ap (λ hs. slice_get hs file) h.headers ∙ r.files file (back file p) ∙ sym (ap (λ hs. slice_get hs file) k.headers);
      names = λ from name p. both_at (h.names from name (back from p)) (k.names from name (part from (back from p))) (both_map (λ a b c. meaning_grows (grows_as_before h) (grows_as_before k) c) (r.names from name (back from p)));
      tags = λ from tag p. both_at (h.tags from tag (back from p)) (k.tags from tag (part from (back from p)))
          (both_map (λ a b c. fields_grow part (fielded_as_before h) (fielded_as_before k) (grows_as_before h).named (grows_as_before k).named c) (r.tags from tag (back from p)));
    }
