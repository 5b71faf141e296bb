-- Lookups from a header.
use Rattle.std.proofs.Common.{◌≡◌, ℕ, zero, suc, Bool, true, false, ◌||◌, if◌then◌else◌, List, [], ◌∷◌, map, Option, Some, None, slice_get, refl, sym, ap, ◌∙◌}
use Rattle.std.specs.Option.{option_map}
use Rattle.std.proofs.lemmas.Bool.{false≢true}
use Rattle.vf_names.specs.Names.{number_of}
use Rattle.vf_declared.specs.declared.ctype.CType.{CType}
use Rattle.vf_declared.specs.declared.declaration.Declaration.{Declaration}
use Rattle.vf_declared.specs.declared.declaration.Fields.{Fields}
use Rattle.vf_declared.specs.declared.declaration.Meaning.{Meaning}
use Rattle.vf_declared.specs.declared.declaration.Structure.{Structure}
use Rattle.vf_declared.specs.declared.scope.Scope.{Scope}
use Rattle.vf_declared.specs.Scopes.{at_index, at_name, declared_in, field_in, fields_in, is_declared, is_visible, sees, stands_in, visible_number, visible_tag}
use Rattle.vf_header_laws.specs.c_names.Lookups.{HeadersSeeTheirOwn, LookupsAreInThePart}
use Rattle.vf_header_laws.specs.c_names.Parts.{declaration_within, field_files_in, fields_within, files_in, IsHeader, is_part_of, LiesWithin, part_of, parts_among, StandsIn, structure_files_in, structure_within}
use Rattle.vf_header_laws.proofs.c_names.Seeing.{sees_parts, visible_in_part, visible_stands}

-- ---- what means something stands in the files of the header
declared_stands : (s : Scope) (header : ℕ) (m : Meaning) (o : Option Declaration) → IsHeader s header → declared_in s header o ≡ Some m → StandsIn s header (files_in o)
declared_stands s header m None h e = absurd cc
declared_stands s header m (Some d) h e = by_test (is_visible s header d.files) refl e
  where
    by_test : (b : Bool) → is_visible s header d.files ≡ b → (if b then Some d.meaning else None) ≡ Some m → StandsIn s header d.files
    by_test true v e = visible_stands s header d.files h v
    by_test false v e = absurd cc

number_stands : (s : Scope) (header k n : ℕ) (o : Option Structure) → IsHeader s header → visible_number s header k o ≡ Some n → StandsIn s header (structure_files_in o)
number_stands s header k n None h e = absurd cc
number_stands s header k n (Some x) h e = by_test (is_visible s header x.files) refl e
  where
    by_test : (b : Bool) → is_visible s header x.files ≡ b → (if b then Some k else None) ≡ Some n → StandsIn s header x.files
    by_test true v e = visible_stands s header x.files h v
    by_test false v e = absurd cc

tag_stands : (s : Scope) (header n : ℕ) (o : Option ℕ) → IsHeader s header → visible_tag s header o ≡ Some n → StandsIn s header (structure_files_in (at_index s.structures o))
tag_stands s header n None h e = absurd cc
tag_stands s header n (Some k) h e = number_stands s header k n (slice_get s.structures k) h e

field_stands : (s : Scope) (header : ℕ) (name : List ℕ) (t : CType) (o : Option Fields) → IsHeader s header → field_in s header name o ≡ Some t → StandsIn s header (field_files_in o)
field_stands s header name t None h e = absurd cc
field_stands s header name t (Some fields) h e = by_test (sees s header fields.file) refl e
  where
    or_none : (b : Bool) → b ≡ true → (b || false) ≡ true
    or_none true e = refl
    or_none false e = e

    by_test : (b : Bool) → sees s header fields.file ≡ b → (if b then at_name fields.names fields.types name else None) ≡ Some t → StandsIn s header (fields.file ∷ [])
    by_test true v e = visible_stands s header (fields.file ∷ []) h (or_none (sees s header fields.file) v)
    by_test false v e = absurd cc

pub headers_see_their_own : HeadersSeeTheirOwn
headers_see_their_own s header h = record {
  names = λ name m e. declared_stands s header m (at_name s.names s.declarations name) h e;
  tags = λ tag n e. tag_stands s header n (number_of s.tags tag) h e;
  fields = λ n name t e. field_stands s header name t (fields_in (slice_get s.structures n)) h e;
}

-- ---- lookups in the part that stands there
get_map : {A B : Type 0} (f : A → B) (xs : List A) (n : ℕ) → slice_get (map f xs) n ≡ option_map f (slice_get xs n)
get_map f [] n = refl
get_map f (x ∷ xs) zero = refl
get_map f (x ∷ xs) (suc n) = get_map f xs n

index_map : {A B : Type 0} (f : A → B) (xs : List A) (o : Option ℕ) → at_index (map f xs) o ≡ option_map f (at_index xs o)
index_map f xs None = refl
index_map f xs (Some n) = get_map f xs n

module _ (s : Scope) (header from : ℕ) (h : IsHeader s from) (w : LiesWithin s header from) where
  declared_part : (o : Option Declaration) → declared_in (part_of header s) from (option_map (declaration_within s header) o) ≡ declared_in s from o
  declared_part None = refl
  declared_part (Some d) = ap (λ b. if b then Some d.meaning else None) (visible_in_part s header from d.files h w)

  number_part : (n : ℕ) (o : Option Structure) → visible_number (part_of header s) from n (option_map (structure_within s header) o) ≡ visible_number s from n o
  number_part n None = refl
  number_part n (Some x) = ap (λ b. if b then Some n else None) (visible_in_part s header from x.files h w)

  tag_part : (o : Option ℕ) → visible_tag (part_of header s) from o ≡ visible_tag s from o
  tag_part None = refl
  tag_part (Some n) = ap (visible_number (part_of header s) from n) (get_map (structure_within s header) s.structures n) ∙ number_part n (slice_get s.structures n)

  fields_part : (name : List ℕ) (o : Option Fields) → field_in (part_of header s) from name (fields_within s header o) ≡ field_in s from name o
  fields_part name None = refl
  fields_part name (Some fields) = by_test (is_part_of s header fields.file) refl
    where
      unseen : (b : Bool) → is_part_of s from fields.file ≡ b → is_part_of s header fields.file ≡ false → sees s from fields.file ≡ false
      unseen true e k = absurd (false≢true (sym k ∙ w fields.file e))
      unseen false e k = sees_parts s from fields.file h ∙ e

      by_test : (b : Bool) → is_part_of s header fields.file ≡ b → field_in (part_of header s) from name (if b then Some fields else None) ≡ field_in s from name (Some fields)
      by_test true e = refl
      by_test false e = sym (ap (λ b. if b then at_name fields.names fields.types name else None) (unseen (is_part_of s from fields.file) refl e))

  structure_part : (name : List ℕ) (o : Option Structure) → field_in (part_of header s) from name (fields_in (option_map (structure_within s header) o)) ≡ field_in s from name (fields_in o)
  structure_part name None = refl
  structure_part name (Some x) = fields_part name x.fields

  predicate_part : (o : Option (List ℕ)) → stands_in (part_of header s) from (option_map (parts_among s header) o) ≡ stands_in s from o
  predicate_part None = refl
  predicate_part (Some files) = visible_in_part s header from files h w

pub lookups_are_in_the_part : LookupsAreInThePart
lookups_are_in_the_part s header from h w = record {
  names = λ name. ap (declared_in (part_of header s) from) (index_map (declaration_within s header) s.declarations (number_of s.names name)) ∙ declared_part s header from h w (at_name s.names s.declarations name);
  tags = λ tag. tag_part s header from h w (number_of s.tags tag);
  fields = λ n name. ap (λ o. field_in (part_of header s) from name (fields_in o)) (get_map (structure_within s header) s.structures n) ∙ structure_part s header from h w name (slice_get s.structures n);
  predicates = λ name. ap (λ b. if (if is_declared s name then false else b) then at_name s.predicates s.predicate_sorts name else None)
      (ap (stands_in (part_of header s) from) (index_map (parts_among s header) s.predicate_files (number_of s.predicates name)) ∙ predicate_part s header from h w (at_name s.predicates s.predicate_files name));
}
