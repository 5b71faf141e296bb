-- Structs that are declared in a header show the same in two units.
use Rattle.std.proofs.Common.{◌≡◌, ℕ, Bool, true, false, if◌then◌else◌, nat_eq, List, Option, Some, None, slice_get, refl, sym, ap, subst, ◌∙◌}
use Rattle.std.proofs.lemmas.Bool.{eq-eqb, eqb-true, false≢true}
use Rattle.vf_names.specs.Names.{number_of}
use Rattle.vf_declared.specs.declared.declaration.Fields.{Fields}
use Rattle.vf_declared.specs.declared.declaration.Structure.{Structure}
use Rattle.vf_declared.specs.declared.scope.Scope.{Scope}
use Rattle.vf_declared.specs.Scopes.{at_name, field_in, is_visible, sees, tag_of, visible_number, visible_tag}
use Rattle.vf_syntax.specs.declared.item.Typed.{Typed}
use Rattle.vf_syntax.specs.declared.written.Name.{Name}
use Rattle.vf_walk.specs.Items.{no_fields}
use Rattle.vf_header_laws.specs.c_names.Parts.{is_part_of}
use Rattle.vf_header_laws.specs.c_names.Same.{AreOneType, both, Both, ConsistsOfHeaders, done, HaveTheSameFields, neither, ShowTheSame}
use Rattle.vf_header_laws.specs.c_names.Types.{StandsWithin}
use Rattle.vf_header_laws.specs.c_names.Items.{files_of_typed}
use Rattle.vf_header_laws.proofs.c_names.Alike.{each_named, fields_alike, FieldsAlike}
use Rattle.vf_header_laws.proofs.c_names.Effects.{also_field}
use Rattle.vf_header_laws.proofs.c_names.Elsewhere.{consists_same}
use Rattle.vf_header_laws.proofs.c_names.Files.{also, part_same}
use Rattle.vf_header_laws.proofs.c_names.Growing.{both_at, Fielded, fields_grow, Grows, meaning_grows, Names, or_first, part_both, type_grows}
use Rattle.vf_header_laws.proofs.c_names.Inside.{also_both, both_given, both_or, files_same, first_alone, second_alone, sees_both, within_same}
use Rattle.vf_header_laws.proofs.c_names.Lists.{none_some, same_numbered, some_same}
use Rattle.vf_header_laws.proofs.c_names.Structs.{again, DeclaresFields, DeclaresStruct, DeclaresWhole, IsStruct, KeepsNames, new}
use Rattle.vf_header_laws.proofs.c_names.Types.{both_map, given, named_same}

keeps_grows : {header : ℕ} {s t : Scope} → KeepsNames s t → Names header s t → Grows header s t
keeps_grows h k = record {
  named = k;
  functions = λ n f e. ap (λ fs. slice_get fs n) h.functions ∙ e;
  function_types = λ n f e. ap (λ fs. slice_get fs n) h.function_types ∙ e;
}

struct_names : {header : ℕ} {n : Name} {opaque : Bool} {s t : Scope} → DeclaresStruct n opaque s t → Names header s t
struct_names {header} {n} {s = s} d = record {
  names = λ name m e. d.keeps.names name header ∙ e;
  tags = λ tag k e. or_first (tag_of s tag header) (also s header n.place.file tag n.text d.number) _ (d.tags tag header) e;
}

struct_fielded : {header : ℕ} {n : Name} {opaque : Bool} {s t : Scope} → DeclaresStruct n opaque s t → Fielded header s t
struct_fielded d = record { unit = d.keeps.unit; fields = λ from k name p. d.fields k name from }

part_too : {header : ℕ} {s t : Scope} → ShowTheSame header s t → (from : ℕ) → is_part_of s header from ≡ true → is_part_of t header from ≡ true
part_too h from p = sym (part_both from h) ∙ p

-- ---- a struct
module _ {s t u v : Scope} (header : ℕ) (n : Name) (opaque : Bool) (c : ConsistsOfHeaders s header) (d : ConsistsOfHeaders t header) (h : ShowTheSame header s t) (w : is_part_of s header n.place.file ≡ true) where
  structs_alike : (i : DeclaresStruct n opaque s u) (j : DeclaresStruct n opaque t v) → IsStruct s n.text n.place.file i.number → IsStruct t n.text n.place.file j.number → HaveTheSameFields header u v i.number j.number
  structs_alike i j (again e) (again k) = fields_grow (part_too h) (struct_fielded i) (struct_fielded j) (struct_names i) (struct_names j) (both_given _ _ e k (h.tags n.place.file n.text w))
  structs_alike i j (again e) (new k f) = first_alone _ _ e k (h.tags n.place.file n.text w)
  structs_alike i j (new k f) (again e) = second_alone _ _ k e (h.tags n.place.file n.text w)
  structs_alike i j (new e f) (new k g) = record { fields = λ from name p. both_at (i.fields i.number name from ∙ f name from) (j.fields j.number name from ∙ g name from) neither }

  pub structs_show : DeclaresStruct n opaque s u → DeclaresStruct n opaque t v → ShowTheSame header u v
  structs_show i j =
      let back : (from : ℕ) → is_part_of u header from ≡ true → is_part_of s header from ≡ true = λ from p. sym (part_same header from i.keeps.unit) ∙ p in
      record {
        files = files_same i.keeps.unit j.keeps.unit (named_same h);
        names = λ from y p. both_at (i.keeps.names y from) (j.keeps.names y from) (both_map (λ a b z. meaning_grows (keeps_grows i.keeps (struct_names i)) (keeps_grows j.keeps (struct_names j)) z) (h.names from y (back from p)));
        tags = λ from y p. both_at (i.tags y from) (j.tags y from)
            (both_or _ _ (λ a b z. fields_grow (part_too h) (struct_fielded i) (struct_fielded j) (struct_names i) (struct_names j) z) (h.tags from y (back from p))
            (also_both _ _ from n.place.file y n.text c d (named_same h) (back from p) (structs_alike i j i.how j.how)));
      }

-- ---- fields
-- of two lookups that are alike, with what they give
both_with : {A B : Type 0} {R Q : A → B → Type 0} (o : Option A) (q : Option B) → Both R o q → ((a : A) (b : B) → o ≡ Some a → q ≡ Some b → R a b → Q a b) → Both Q o q
both_with o q neither f = neither
both_with o q (both r) f = both (f _ _ refl refl r)

-- the number of a tag that is seen
tag_number : (s : Scope) (tag : List ℕ) (from n : ℕ) → tag_of s tag from ≡ Some n → number_of s.tags tag ≡ Some n
tag_number s tag from n e = by_number (number_of s.tags tag) e
  where
    by_struct : (k : ℕ) (o : Option Structure) → visible_number s from k o ≡ Some n → k ≡ n
    by_struct k None e = none_some e
    by_struct k (Some x) e = let v = given k n (is_visible s from x.files) e in some_same (sym (ap (λ b. if b then Some k else None) v) ∙ e)

    by_number : (o : Option ℕ) → visible_tag s from o ≡ Some n → o ≡ Some n
    by_number None e = none_some e
    by_number (Some k) e = ap Some (by_struct k (slice_get s.structures k) e)

-- two numbers of one tag are those of another tag in both units, or in neither
numbers_alike : (xs ys : List (List ℕ)) (x z : List ℕ) (n m k l : ℕ) → number_of xs z ≡ Some n → number_of ys z ≡ Some m → number_of xs x ≡ Some k → number_of ys x ≡ Some l → nat_eq n k ≡ nat_eq m l
numbers_alike xs ys x z n m k l e h i j = by_tests (nat_eq n k) (nat_eq m l) refl refl
  where
    by_tests : (b c : Bool) → nat_eq n k ≡ b → nat_eq m l ≡ c → b ≡ c
    by_tests true true o p = refl
    by_tests false false o p = refl
    by_tests true false o p =
        let is : z ≡ x = same_numbered xs z x k (e ∙ ap Some (eqb-true n k o)) i in
        absurd (false≢true (sym p ∙ eq-eqb m l (some_same (sym h ∙ ap (number_of ys) is ∙ j))))
    by_tests false true o p =
        let is : z ≡ x = same_numbered ys z x l (h ∙ ap Some (eqb-true m l p)) j in
        absurd (false≢true (sym o ∙ eq-eqb n k (some_same (sym e ∙ ap (number_of xs) is ∙ i))))

module _ {s t u v : Scope} (header : ℕ) (x : List ℕ) (k l : ℕ) (fs gs : Fields) (c : ConsistsOfHeaders s header) (d : ConsistsOfHeaders t header) (h : ShowTheSame header s t) (first : number_of s.tags x ≡ Some k) (second : number_of t.tags x ≡ Some l) (r : FieldsAlike header s t fs gs) (i : DeclaresFields k fs s u) (j : DeclaresFields l gs t v) where
  names_first : Names header s u
  names_first = record { names = λ name m e. i.keeps.names name header ∙ e; tags = λ tag n e. i.tags tag header ∙ e }

  names_second : Names header t v
  names_second = record { names = λ name m e. j.keeps.names name header ∙ e; tags = λ tag n e. j.tags tag header ∙ e }

  back : (from : ℕ) → is_part_of u header from ≡ true → is_part_of s header from ≡ true
  back from p = sym (part_same header from i.keeps.unit) ∙ p

  found_both : (from : ℕ) (name : List ℕ) → is_part_of s header from ≡ true → Both (AreOneType header u v) (field_in s from name (Some fs)) (field_in t from name (Some gs))
  found_both from name p = by_test (sees t from gs.file)
    where
      same_sight : sees s from fs.file ≡ sees t from gs.file
      same_sight = sees_both from fs.file c d (named_same h) p ∙ ap (sees t from) (sym r.file)

      by_name : (names : List (List ℕ)) → gs.names ≡ names → names ≡ fs.names → Both (AreOneType header u v) (at_name fs.names fs.types name) (at_name gs.names gs.types name)
      by_name names e z = both_at refl (ap (λ ns. at_name ns gs.types name) (e ∙ z)) (both_map (λ a b q. type_grows names_first names_second q) (each_named fs.names fs.types gs.types name r.types))

      by_sight : (b : Bool) → Both (AreOneType header u v) (if b then at_name fs.names fs.types name else None) (if b then at_name gs.names gs.types name else None)
      by_sight true = by_name fs.names r.names refl
      by_sight false = neither

      by_test : (b : Bool) → Both (AreOneType header u v) (field_in s from name (Some fs)) (field_in t from name (Some gs))
      by_test b = subst (λ o. Both (AreOneType header u v) (if o then at_name fs.names fs.types name else None) (field_in t from name (Some gs))) (sym same_sight) (by_sight (sees t from gs.file))

  fielded_both : (n m : ℕ) (from : ℕ) (name : List ℕ) → is_part_of s header from ≡ true → nat_eq n k ≡ nat_eq m l → Both (AreOneType header u v) (also_field s from n k fs name) (also_field t from m l gs name)
  fielded_both n m from name p e = subst (λ b. Both (AreOneType header u v) (if b then field_in s from name (Some fs) else None) (also_field t from m l gs name)) (sym e) (by_test (nat_eq m l))
    where
      by_test : (b : Bool) → Both (AreOneType header u v) (if b then field_in s from name (Some fs) else None) (if b then field_in t from name (Some gs) else None)
      by_test true = found_both from name p
      by_test false = neither

  pub fields_show : ShowTheSame header u v
  fields_show = record {
    files = files_same i.keeps.unit j.keeps.unit (named_same h);
    names = λ from y p. both_at (i.keeps.names y from) (j.keeps.names y from) (both_map (λ a b z. meaning_grows (keeps_grows i.keeps names_first) (keeps_grows j.keeps names_second) z) (h.names from y (back from p)));
    tags = λ from y p. both_at (i.tags y from) (j.tags y from) (both_with _ _ (h.tags from y (back from p)) (λ n m e q z. record {
      fields = λ inner name o. both_at (i.fields n name inner) (j.fields m name inner)
          (both_or _ _ (λ a b f. type_grows names_first names_second f) (z.fields inner name (back inner o))
          (fielded_both n m inner name (back inner o) (numbers_alike s.tags t.tags x y n m k l (tag_number s y from n e) (tag_number t y from m q) first second)));
    }));
  }

-- ---- a struct with its fields
pub wholes_show : {s t u v : Scope} (header : ℕ) (n : Name) (xs : List Typed) → ConsistsOfHeaders s header → ConsistsOfHeaders t header → is_part_of s header n.place.file ≡ true → StandsWithin s header (files_of_typed xs) → DeclaresWhole n xs s u → DeclaresWhole n xs t v → ShowTheSame header s t → ShowTheSame header u v
wholes_show header n xs c d w p i j h =
    let c₁ = consists_same i.struct_first.keeps.unit c in
    let d₁ = consists_same j.struct_first.keeps.unit d in
    let first = structs_show header n false c d h w i.struct_first j.struct_first in
    let alike = fields_alike header i.at j.at c₁ d₁ (named_same first) xs (no_fields n.place.file) (no_fields n.place.file) (within_same header (files_of_typed xs) i.struct_first.keeps.unit p) i.walked j.walked (record { file = refl; names = refl; types = done }) in
    fields_show header n.text i.struct_first.number j.struct_first.number i.found j.found c₁ d₁ first i.struct_first.numbered j.struct_first.numbered alike i.then_fields j.then_fields
