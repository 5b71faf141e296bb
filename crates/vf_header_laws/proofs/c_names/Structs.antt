-- What a struct that is declared changes.
use Rattle.std.proofs.Common.{◌≡◌, ℕ, Bool, true, false, not, ◌&&◌, if◌then◌else◌, List, [], ◌∷◌, ◌++◌, length, is_some, Option, Some, None, Ok, slice_get, refl, sym, ap, ◌+◌, subst, ◌∙◌, length-append}
use Rattle.std.specs.Option.{option_map, option_or}
use Rattle.std.specs.Str.{bytes_eq}
use Rattle.std.specs.Cmp.Lexicographic.{bytes_decides}
use Rattle.std.proofs.lemmas.Bool.{and_parts, false≢true}
use Rattle.vf_base.specs.declared.rule.Rule.TheVariants as rules
use Rattle.vf_names.specs.Names.{number_of}
use Rattle.vf_declared.specs.declared.declaration.Fields.{Fields}
use Rattle.vf_declared.specs.declared.declaration.Structure.{Structure}
use Rattle.vf_declared.specs.declared.scope.Scope.{Scope}
use Rattle.vf_declared.specs.Scopes.{declaration_of, field_in, field_of, fields_in, has, is_visible, tag_of, visible_number, visible_tag}
use Rattle.vf_declared.specs.Writing.{with_fields, with_struct, with_struct_again}
use Rattle.vf_syntax.specs.declared.item.Typed.{Typed}
use Rattle.vf_syntax.specs.declared.written.Name.{Name}
use Rattle.vf_typing.specs.Refusals.{refused}
use Rattle.vf_walk.specs.Items.{fields_behind, fields_walked, no_fields, struct_, struct_found, struct_number, struct_walked, with_found}
use Rattle.vf_walk.specs.Names.{is_of_prelude, is_stated, may_be_stated}
use Rattle.vf_header_laws.specs.c_names.Items.{IsBetweenItems}
use Rattle.vf_header_laws.proofs.c_names.Effects.{also_field, field_again, field_fielded, field_struct, new_struct, tag_again, tag_behind, tag_fielded}
use Rattle.vf_header_laws.proofs.c_names.Files.{also, name_unit, OfOneUnit}
use Rattle.vf_header_laws.proofs.c_names.Lists.{get_changed, get_end, length_changed, number_behind}
use Rattle.vf_header_laws.proofs.c_names.Steps.{ok_same, refused_unless, through}

-- ---- what stays where structs are declared
-- names, functions and function types are as before
pub record KeepsNames (s t : Scope) : Type 0 where
  pub unit : OfOneUnit s t
  pub names : (name : List ℕ) (from : ℕ) → declaration_of t name from ≡ declaration_of s name from
  pub functions : t.functions ≡ s.functions
  pub function_types : t.function_types ≡ s.function_types

-- a struct with a number, which is declared before or is new
pub data IsStruct (s : Scope) (x : List ℕ) (file number : ℕ) : Type 0 where
  again : tag_of s x file ≡ Some number → IsStruct s x file number
  new : tag_of s x file ≡ None → ((name : List ℕ) (from : ℕ) → field_of s number name from ≡ None) → IsStruct s x file number

-- a struct with a number whose fields are not declared
pub record IsUnfielded (s : Scope) (number : ℕ) : Type 0 where
  pub structure : Structure
  pub at : slice_get s.structures number ≡ Some structure
  pub unfielded : structure.fields ≡ None

-- a struct is declared in a file
pub record DeclaresStruct (n : Name) (opaque : Bool) (s t : Scope) : Type 0 where
  pub number : ℕ
  pub keeps : KeepsNames s t
  pub tags : (y : List ℕ) (from : ℕ) → tag_of t y from ≡ option_or (tag_of s y from) (also s from n.place.file y n.text number)
  pub fields : (k : ℕ) (name : List ℕ) (from : ℕ) → field_of t k name from ≡ field_of s k name from
  pub how : IsStruct s n.text n.place.file number
  pub found : number ≡ struct_number s (number_of s.tags n.text)
  pub numbered : number_of t.tags n.text ≡ Some number
  pub unfielded : opaque ≡ false → IsUnfielded t number
  pub between : IsBetweenItems t

-- a tag that is not there is not seen
no_tag : (s : Scope) (x : List ℕ) (from : ℕ) → number_of s.tags x ≡ None → tag_of s x from ≡ None
no_tag s x from e = ap (visible_tag s from) e

at_end : {A : Type 0} (xs : List A) → slice_get xs (length xs) ≡ None
at_end [] = refl
at_end (x ∷ xs) = at_end xs

itself : (x : List ℕ) → bytes_eq x x ≡ true
itself x = (bytes_decides x x).1 refl

-- the number of a name behind which it stands
own_number : (xs : List (List ℕ)) (x : List ℕ) → number_of xs x ≡ None → number_of (xs ++ x ∷ []) x ≡ Some (length xs)
own_number xs x e = number_behind xs x x ∙ ap (λ o. option_or o (if bytes_eq x x then Some (length xs) else None)) e ∙ ap (λ b. if b then Some (length xs) else None) (itself x)

pub one_longer : {A B : Type 0} (xs : List A) (x : A) (ys : List B) (y : B) → length xs ≡ length ys → length (xs ++ x ∷ []) ≡ length (ys ++ y ∷ [])
one_longer xs x ys y e = length-append xs (x ∷ []) ∙ ap (λ n. n + 1) e ∙ sym (length-append ys (y ∷ []))

new_declares : (n : Name) (opaque : Bool) (s : Scope) → IsBetweenItems s → number_of s.tags n.text ≡ None → DeclaresStruct n opaque s (with_struct s n.text n.place.file opaque)
new_declares n opaque s b e = record {
  number = length s.tags;
  keeps = record { unit = record { file = refl; headers = refl }; names = λ name from. name_unit s (with_struct s n.text n.place.file opaque) name from (record { file = refl; headers = refl }) refl refl; functions = refl; function_types = refl };
  tags = λ y from. tag_behind s n.text n.place.file opaque y from b.tags e;
  fields = λ k name from. field_struct s n.text n.place.file opaque k name from;
  how = new (no_tag s n.text n.place.file e) (λ name from. ap (λ k. field_in s from name (fields_in (slice_get s.structures k))) b.tags ∙ ap (λ o. field_in s from name (fields_in o)) (at_end s.structures));
  found = b.tags ∙ sym (ap (struct_number s) e);
  numbered = own_number s.tags n.text e;
  unfielded = λ o. record { structure = new_struct n.place.file opaque; at = ap (slice_get (s.structures ++ new_struct n.place.file opaque ∷ [])) b.tags ∙ get_end s.structures (new_struct n.place.file opaque); unfielded = refl };
  between = record { names = b.names; tags = one_longer s.tags n.text s.structures (new_struct n.place.file opaque) b.tags; cleared = b.cleared };
}

-- a struct that may be declared again is seen, and is not so declared yet
record MayBeStated (s : Scope) (file : ℕ) (opaque : Bool) (o : Option Structure) : Type 0 where
  structure : Structure
  at : o ≡ Some structure
  visible : is_visible s file structure.files ≡ true
  unstated : not (is_stated opaque structure) ≡ true

stated_parts : (s : Scope) (file : ℕ) (opaque : Bool) (o : Option Structure) → may_be_stated s file opaque o ≡ true → MayBeStated s file opaque o
stated_parts s file opaque None h = absurd (false≢true h)
stated_parts s file opaque (Some x) h =
    let k = and_parts (is_visible s file x.files) (not (is_stated opaque x) && not (is_of_prelude s x.files && not (has s.preludes file))) h in
    record { structure = x; at = refl; visible = k.0; unstated = (and_parts (not (is_stated opaque x)) (not (is_of_prelude s x.files && not (has s.preludes file))) k.1).0 }

no_fields_yet : (o : Option Fields) → not (is_some o) ≡ true → o ≡ None
no_fields_yet None h = refl
no_fields_yet (Some fs) h = absurd (false≢true h)

again_declares : (n : Name) (opaque : Bool) (s : Scope) (k : ℕ) → IsBetweenItems s → number_of s.tags n.text ≡ Some k → may_be_stated s n.place.file opaque (slice_get s.structures k) ≡ true → DeclaresStruct n opaque s (with_struct_again s k n.place.file opaque)
again_declares n opaque s k b e h =
    let m = stated_parts s n.place.file opaque (slice_get s.structures k) h in
    record {
      number = k;
      keeps = record { unit = record { file = refl; headers = refl }; names = λ name from. name_unit s (with_struct_again s k n.place.file opaque) name from (record { file = refl; headers = refl }) refl refl; functions = refl; function_types = refl };
      tags = λ y from. tag_again s n.text k m.structure n.place.file opaque y from e m.at;
      fields = λ j name from. field_again s k n.place.file opaque j name from;
      how = again (ap (visible_tag s n.place.file) e ∙ ap (visible_number s n.place.file k) m.at ∙ ap (λ v. if v then Some k else None) m.visible);
      found = sym (ap (struct_number s) e);
      numbered = e;
      unfielded = λ o. record {
        structure = _;
        at = get_changed _ s.structures k ∙ ap (option_map _) m.at;
        unfielded = no_fields_yet m.structure.fields (sym (ap (λ v. not (is_stated v m.structure)) o) ∙ m.unstated);
      };
      between = record { names = b.names; tags = b.tags ∙ sym (length_changed _ s.structures k); cleared = b.cleared };
    }

pub struct_declares : {t : Scope} (n : Name) (opaque : Bool) (s : Scope) → IsBetweenItems s → struct_ n opaque s ≡ Ok t → DeclaresStruct n opaque s t
struct_declares {t} n opaque s b h = by_number (number_of s.tags n.text) refl h
  where
    by_number : (o : Option ℕ) → number_of s.tags n.text ≡ o → struct_found n opaque o s ≡ Ok t → DeclaresStruct n opaque s t
    by_number None e h = subst (DeclaresStruct n opaque s) (ok_same h) (new_declares n opaque s b e)
    by_number (Some k) e h =
        let test = refused_unless (with_struct_again s k n.place.file opaque) (refused rules.Name n.place) (may_be_stated s n.place.file opaque (slice_get s.structures k)) h in
        subst (DeclaresStruct n opaque s) (sym test.is) (again_declares n opaque s k b e test.holds)

-- ---- fields
-- the struct with a number gets fields that stand in a file
pub record DeclaresFields (number : ℕ) (fs : Fields) (s t : Scope) : Type 0 where
  pub keeps : KeepsNames s t
  pub tags : (y : List ℕ) (from : ℕ) → tag_of t y from ≡ tag_of s y from
  pub fields : (k : ℕ) (name : List ℕ) (from : ℕ) → field_of t k name from ≡ option_or (field_of s k name from) (also_field s from k number fs name)
  pub between : IsBetweenItems t

fields_declare : (s : Scope) (number : ℕ) (fs : Fields) → IsBetweenItems s → IsUnfielded s number → DeclaresFields number fs s (with_fields s number fs)
fields_declare s number fs b u = record {
  keeps = record { unit = record { file = refl; headers = refl }; names = λ name from. name_unit s (with_fields s number fs) name from (record { file = refl; headers = refl }) refl refl; functions = refl; function_types = refl };
  tags = λ y from. tag_fielded s number fs y from;
  fields = λ k name from. field_fielded s number u.structure fs k name from u.at u.unfielded;
  between = record { names = b.names; tags = b.tags ∙ sym (length_changed _ s.structures number); cleared = b.cleared };
}

-- a struct with its fields
pub record DeclaresWhole (n : Name) (xs : List Typed) (s t : Scope) : Type 0 where
  pub at : Scope
  pub struct_first : DeclaresStruct n false s at
  pub found : Fields
  pub walked : fields_behind at xs (no_fields n.place.file) ≡ Ok found
  pub then_fields : DeclaresFields struct_first.number found at t

pub whole_declares : {t : Scope} (n : Name) (xs : List Typed) (s : Scope) → IsBetweenItems s → struct_walked n xs s ≡ Ok t → DeclaresWhole n xs s t
whole_declares {t} n xs s b h =
    let number = struct_number s (number_of s.tags n.text) in
    let k = through (fields_walked n xs number) (struct_ n false s) h in
    let d = struct_declares n false s b k.first in
    let j = through (with_found number k.at) (fields_behind k.at xs (no_fields n.place.file)) k.next in
    record {
      at = k.at;
      struct_first = d;
      found = j.at;
      walked = j.first;
      then_fields = subst (DeclaresFields d.number j.at k.at) (ap (λ m. with_fields k.at m j.at) d.found ∙ ok_same j.next) (fields_declare k.at d.number j.at d.between (d.unfielded refl));
    }
