-- Types that are written in a header.
use Rattle.std.proofs.Common.{◌≡◌, ℕ, Bool, true, false, ◌||◌, if◌then◌else◌, nat_eq, List, [], ◌∷◌, Option, Some, None, slice_get, refl, sym, ap, ◌∙◌}
use Rattle.std.specs.List.{list_all}
use Rattle.std.proofs.lemmas.Bool.{and_parts, false≢true}
use Rattle.vf_base.specs.declared.place.Place.{Place}
use Rattle.vf_names.specs.Names.{number_of}
use Rattle.vf_declared.specs.declared.declaration.Declaration.{Declaration}
use Rattle.vf_declared.specs.declared.declaration.Meaning.{Meaning}
use Rattle.vf_declared.specs.declared.declaration.Meaning.TheVariants as meanings
use Rattle.vf_declared.specs.declared.declaration.Structure.{Structure}
use Rattle.vf_declared.specs.declared.locals.Local.{Local}
use Rattle.vf_declared.specs.declared.locals.Local.TheVariants as locals
use Rattle.vf_declared.specs.declared.scope.Scope.{Scope}
use Rattle.vf_declared.specs.Scopes.{at_name, declaration_of, declared_in, is_among, is_visible, local_of, sees, tag_of, visible_number, visible_tag}
use Rattle.vf_syntax.specs.declared.written.CType.{CType as WrittenType}
use Rattle.vf_syntax.specs.declared.written.TypeForm.{TypeForm}
use Rattle.vf_syntax.specs.declared.written.TypeForm.TheVariants as forms
use Rattle.vf_typing.specs.Names.{form_type, no_function_type, pointer_to, struct_pointer, written_type}
use Rattle.vf_header_laws.specs.c_names.Parts.{is_part_of}
use Rattle.vf_header_laws.specs.c_names.Same.{AreOneName, AreOneStruct, AreOneType, both, Both, ConsistsOfHeaders, function_pointer, int_pointer, integer, MeanTheSame, neither, ShowTheSame, void_pointer}
use Rattle.vf_header_laws.specs.c_names.Same as same
use Rattle.vf_header_laws.specs.c_names.Types.{Agree, files_of_form, files_of_type, found, refused, StandsWithin, WrittenTypesAreOne}
use Rattle.vf_header_laws.proofs.c_names.Seeing.{same_number, sees_parts}

-- ---- what is seen from a file of a header is seen from the header
pub part_itself : (s : Scope) (header : ℕ) → is_part_of s header header ≡ true
part_itself s header = ap (λ b. b || is_among (slice_get s.headers header) header) (same_number header)

pub sees_higher : (s : Scope) (header from file : ℕ) → ConsistsOfHeaders s header → is_part_of s header from ≡ true → sees s from file ≡ true → sees s header file ≡ true
sees_higher s header from file c p v = sees_parts s header file (c.headers header (part_itself s header)) ∙ c.within from p file (sym (sees_parts s from file (c.headers from p)) ∙ v)

pub visible_higher : (s : Scope) (header from : ℕ) (files : List ℕ) → ConsistsOfHeaders s header → is_part_of s header from ≡ true → is_visible s from files ≡ true → is_visible s header files ≡ true
visible_higher s header from [] c p v = absurd (false≢true v)
visible_higher s header from (file ∷ files) c p v = by_test (sees s from file) refl v (visible_higher s header from files c p)
  where
    behind : (a b : Bool) → b ≡ true → (a || b) ≡ true
    behind true b e = refl
    behind false b e = e

    by_test : (b : Bool) → sees s from file ≡ b → (b || is_visible s from files) ≡ true → (is_visible s from files ≡ true → is_visible s header files ≡ true) → (sees s header file || is_visible s header files) ≡ true
    by_test true e v f = ap (λ b. b || is_visible s header files) (sees_higher s header from file c p e)
    by_test false e v f = behind (sees s header file) (is_visible s header files) (f v)

-- a choice that gives something gives it where the test holds
pub given : {A : Type 0} (a b : A) (t : Bool) → (if t then Some a else None) ≡ Some b → t ≡ true
given a b true e = refl
given a b false e = absurd cc

module _ (s : Scope) (header from : ℕ) (c : ConsistsOfHeaders s header) (p : is_part_of s header from ≡ true) where
  declared_higher : (m : Meaning) (o : Option Declaration) → declared_in s from o ≡ Some m → declared_in s header o ≡ Some m
  declared_higher m None e = absurd cc
  declared_higher m (Some d) e =
      let v = given d.meaning m (is_visible s from d.files) e in
      ap (λ b. if b then Some d.meaning else None) (visible_higher s header from d.files c p v ∙ sym v) ∙ e

  pub name_higher : (name : List ℕ) (m : Meaning) → declaration_of s name from ≡ Some m → declaration_of s name header ≡ Some m
  name_higher name m e = declared_higher m (at_name s.names s.declarations name) e

  number_higher : (k n : ℕ) (o : Option Structure) → visible_number s from k o ≡ Some n → visible_number s header k o ≡ Some n
  number_higher k n None e = absurd cc
  number_higher k n (Some x) e =
      let v = given k n (is_visible s from x.files) e in
      ap (λ b. if b then Some k else None) (visible_higher s header from x.files c p v ∙ sym v) ∙ e

  tagged_higher : (n : ℕ) (o : Option ℕ) → visible_tag s from o ≡ Some n → visible_tag s header o ≡ Some n
  tagged_higher n None e = absurd cc
  tagged_higher n (Some k) e = number_higher k n (slice_get s.structures k) e

  pub tag_higher : (tag : List ℕ) (n : ℕ) → tag_of s tag from ≡ Some n → tag_of s tag header ≡ Some n
  tag_higher tag n e = tagged_higher n (number_of s.tags tag) e

-- ---- what types need of what two units show
-- two meanings are of one kind
pub data AreOneKind : Meaning → Meaning → Type 0 where
  functions : {n m : ℕ} → AreOneKind (meanings.Function n) (meanings.Function m)
  function_types : {n m : ℕ} → AreOneKind (meanings.FunctionType n) (meanings.FunctionType m)
  ghosts : {n m : ℕ} → AreOneKind (meanings.Ghost n) (meanings.Ghost m)

-- in each file of a header a name means things of one kind in both units, and a tag is there in both or in neither
pub record NameTheSame (header : ℕ) (s t : Scope) : Type 0 where
  pub files : (file : ℕ) → is_part_of s header file ≡ true → slice_get s.headers file ≡ slice_get t.headers file
  pub names : (file : ℕ) (name : List ℕ) → is_part_of s header file ≡ true → Both AreOneKind (declaration_of s name file) (declaration_of t name file)
  pub tags : (file : ℕ) (tag : List ℕ) → is_part_of s header file ≡ true → Both (λ (n m : ℕ). Unit {0}) (tag_of s tag file) (tag_of t tag file)

pub both_map : {A B : Type 0} {R Q : A → B → Type 0} {o : Option A} {q : Option B} → ((a : A) (b : B) → R a b → Q a b) → Both R o q → Both Q o q
both_map f neither = neither
both_map f (both r) = both (f _ _ r)

kind_of : {header : ℕ} {s t : Scope} (x y : Meaning) → MeanTheSame header s t x y → AreOneKind x y
kind_of x y (same.functions e h k) = functions
kind_of x y (same.function_types e h k) = function_types
kind_of x y same.ghosts = ghosts

pub named_same : {header : ℕ} {s t : Scope} → ShowTheSame header s t → NameTheSame header s t
named_same h = record {
  files = h.files;
  names = λ file name p. both_map kind_of (h.names file name p);
  tags = λ file tag p. both_map (λ n m r. tt) (h.tags file tag p);
}

-- ---- types as they are written
pub part_alike : {header : ℕ} {s t : Scope} (file : ℕ) → NameTheSame header s t → is_part_of s header file ≡ is_part_of t header file
part_alike {header} {s} file h = ap (λ o. nat_eq header file || is_among o file) (h.files header (part_itself s header))

no_types : {header : ℕ} {s t : Scope} (p : Place) (l k : Option Local) → Agree (AreOneType header s t) (no_function_type l p) (no_function_type k p)
no_types p None None = refused
no_types p None (Some (locals.Real u)) = refused
no_types p None (Some (locals.Ghost g)) = refused
no_types p (Some (locals.Real u)) None = refused
no_types p (Some (locals.Real u)) (Some (locals.Real v)) = refused
no_types p (Some (locals.Real u)) (Some (locals.Ghost g)) = refused
no_types p (Some (locals.Ghost g)) None = refused
no_types p (Some (locals.Ghost g)) (Some (locals.Real v)) = refused
no_types p (Some (locals.Ghost g)) (Some (locals.Ghost f)) = refused

module _ (header : ℕ) (s t : Scope) (c : ConsistsOfHeaders s header) (d : ConsistsOfHeaders t header) (h : NameTheSame header s t) where
  pointers_agree : (p : Place) (x : List ℕ) → is_part_of s header p.file ≡ true → (o q : Option Meaning) → declaration_of s x p.file ≡ o → declaration_of t x p.file ≡ q → Both AreOneKind o q → Agree (AreOneType header s t) (pointer_to s p x o) (pointer_to t p x q)
  pointers_agree p x w o q e k neither = no_types p (local_of s x) (local_of t x)
  pointers_agree p x w o q e k (both functions) = no_types p (local_of s x) (local_of t x)
  pointers_agree p x w o q e k (both function_types) = found (function_pointer (record {
    name = x;
    first = name_higher s header p.file c w x _ e;
    second = name_higher t header p.file d (sym (part_alike p.file h) ∙ w) x _ k;
  }))
  pointers_agree p x w o q e k (both ghosts) = refused

  structs_agree : (p : Place) (file : ℕ) (x : List ℕ) → is_part_of s header file ≡ true → (o q : Option ℕ) → tag_of s x file ≡ o → tag_of t x file ≡ q → Both (λ (n m : ℕ). Unit {0}) o q → Agree (AreOneType header s t) (struct_pointer p o) (struct_pointer p q)
  structs_agree p file x w o q e k neither = refused
  structs_agree p file x w o q e k (both u) = found (same.struct_pointer (record {
    tag = x;
    first = tag_higher s header file c w x _ e;
    second = tag_higher t header file d (sym (part_alike file h) ∙ w) x _ k;
  }))

  forms_agree : (p : Place) (f : TypeForm) → is_part_of s header p.file ≡ true → StandsWithin s header (files_of_form f) → Agree (AreOneType header s t) (form_type s p f) (form_type t p f)
  forms_agree p (forms.Integer w) i j = found integer
  forms_agree p forms.Bool i j = found integer
  forms_agree p forms.VoidPointer i j = found void_pointer
  forms_agree p forms.IntPointer i j = found int_pointer
  forms_agree p (forms.StructPointer n) i j =
      let k = (and_parts (is_part_of s header n.place.file) true j).0 in
      structs_agree n.place n.place.file n.text k _ _ refl refl (h.tags n.place.file n.text k)
  forms_agree p (forms.NamedPointer x) i j = pointers_agree p x i _ _ refl refl (h.names p.file x i)

  pub types_agree : (w : WrittenType) → StandsWithin s header (files_of_type w) → Agree (AreOneType header s t) (written_type s w) (written_type t w)
  types_agree w i =
      let k = and_parts (is_part_of s header w.place.file) (list_all (is_part_of s header) (files_of_form w.form)) i in
      forms_agree w.place w.form k.0 k.1

pub written_types_are_one : WrittenTypesAreOne
written_types_are_one header s t w c d h i = types_agree header s t c d (named_same h) w i
