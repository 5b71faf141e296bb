-- What lookups give behind a declaration: what they gave in front of it, or what is declared where that file is seen.
use Rattle.std.proofs.Common.{◌≡◌, ℕ, Bool, true, false, ◌&&◌, ◌||◌, if◌then◌else◌, nat_eq, List, [], ◌∷◌, ◌++◌, length, Option, Some, None, slice_get, refl, sym, ap, ◌∙◌}
use Rattle.std.specs.Option.{option_map, option_or}
use Rattle.std.specs.Str.{bytes_eq}
use Rattle.std.proofs.lemmas.Bool.{eq-eqb, eqb-true, false≢true}
use Rattle.vf_names.specs.Names.{number_of}
use Rattle.vf_declared.specs.declared.ctype.CType.{CType}
use Rattle.vf_declared.specs.declared.declaration.Declaration.{Declaration}
use Rattle.vf_declared.specs.declared.declaration.Fields.{Fields}
use Rattle.vf_declared.specs.declared.declaration.Meaning.{Meaning}
use Rattle.vf_declared.specs.declared.declaration.Structure.{Structure}
use Rattle.vf_declared.specs.declared.scope.Scope.{Scope}
use Rattle.vf_declared.specs.Scopes.{at_index, at_name, declaration_of, declared_in, field_in, field_of, fields_in, is_visible, sees, tag_of, visible_number, visible_tag}
use Rattle.vf_declared.specs.Writing.{changed, with_fields, with_file, with_name, with_name_again, with_struct, with_struct_again}
use Rattle.vf_header_laws.proofs.c_names.Files.{also, declared_alike, field_alike, number_alike, of_one, OfOneUnit, visible_one, visible_with}
use Rattle.vf_header_laws.proofs.c_names.Lists.{as_before, at_behind, at_changed, changed_where_is, get_changed, get_other, is_name, is_new, none_some, number_behind, one_more, OneMore, some_same}

-- ---- choices
or_nothing : {A : Type 0} (o : Option A) → option_or o None ≡ o
or_nothing None = refl
or_nothing (Some a) = refl

-- something that is there where one of two tests holds
either : {A : Type 0} (a : A) (b c : Bool) → (if b || c then Some a else None) ≡ option_or (if b then Some a else None) (if c then Some a else None)
either a true c = refl
either a false c = refl

-- ---- a name of file level
-- a declaration in one file
abbrev one_in : Meaning → ℕ → Declaration
one_in m file = record { meaning = m; files = file ∷ [] }

pub name_behind : (s : Scope) (x : List ℕ) (m : Meaning) (file : ℕ) (y : List ℕ) (from : ℕ) → length s.names ≡ length s.declarations → at_name s.names s.declarations x ≡ None → declaration_of (with_name s x m file) y from ≡ option_or (declaration_of s y from) (also s from file y x m)
name_behind s x m file y from e n =
    declared_alike {s = s} {t = with_name s x m file} from (at_name (s.names ++ x ∷ []) (s.declarations ++ one_in m file ∷ []) y) (record { file = refl; headers = refl })
    ∙ ap (declared_in s from) (at_behind s.names s.declarations x (one_in m file) y e)
    ∙ by_test (bytes_eq y x) refl (at_name s.names s.declarations y) refl
  where
    by_test : (b : Bool) → bytes_eq y x ≡ b → (o : Option Declaration) → at_name s.names s.declarations y ≡ o → declared_in s from (option_or o (if b then Some (one_in m file) else None)) ≡ option_or (declared_in s from o) (if b && sees s from file then Some m else None)
    by_test true h None k = ap (λ b. if b then Some m else None) (visible_one s from file)
    by_test true h (Some c) k = none_some (sym n ∙ ap (at_name s.names s.declarations) (sym (is_name y x h)) ∙ k)
    by_test false h o k = ap (declared_in s from) (or_nothing o) ∙ sym (or_nothing (declared_in s from o))

-- one more file of a declaration
abbrev also_in : ℕ → Declaration → Declaration
also_in file d = record d { files = with_file d.files file }

pub name_again : (s : Scope) (x : List ℕ) (k : ℕ) (d : Declaration) (file : ℕ) (y : List ℕ) (from : ℕ) → number_of s.names x ≡ Some k → at_name s.names s.declarations x ≡ Some d → declaration_of (with_name_again s k file) y from ≡ option_or (declaration_of s y from) (also s from file y x d.meaning)
name_again s x k d file y from e n =
    declared_alike {s = s} {t = with_name_again s k file} from (at_name s.names (changed (also_in file) s.declarations k) y) (record { file = refl; headers = refl })
    ∙ ap (declared_in s from) (at_changed (also_in file) s.names s.declarations x k y e)
    ∙ by_test (bytes_eq y x) refl
  where
    there : (o : Option Declaration) → o ≡ Some d → declared_in s from (option_map (also_in file) o) ≡ option_or (declared_in s from o) (if sees s from file then Some d.meaning else None)
    there None h = none_some h
    there (Some c) h =
        ap (λ b. if b then Some c.meaning else None) (visible_with s from file c.files)
        ∙ either c.meaning (is_visible s from c.files) (sees s from file)
        ∙ ap (λ (a : Declaration). option_or (if is_visible s from c.files then Some c.meaning else None) (if sees s from file then Some a.meaning else None)) (some_same h)

    by_test : (b : Bool) → bytes_eq y x ≡ b → declared_in s from (changed_where_is (also_in file) b (at_name s.names s.declarations y)) ≡ option_or (declaration_of s y from) (if b && sees s from file then Some d.meaning else None)
    by_test true h = there (at_name s.names s.declarations y) (ap (at_name s.names s.declarations) (is_name y x h) ∙ n)
    by_test false h = sym (or_nothing (declaration_of s y from))

-- ---- a tag
-- a struct that is declared in one file, without fields
abbrev pub new_struct : ℕ → Bool → Structure
new_struct file opaque = record { files = file ∷ []; fields = None; is_opaque = opaque }

-- the number of a struct that is visible from a file
abbrev tag_found : Scope → ℕ → Option ℕ → Option Structure → Option ℕ
tag_found s from None x = None
tag_found s from (Some n) x = visible_number s from n x

found_tag : {s t : Scope} (from : ℕ) (o : Option ℕ) → OfOneUnit s t → visible_tag t from o ≡ tag_found s from o (at_index t.structures o)
found_tag from None h = refl
found_tag {s} {t} from (Some n) h = number_alike from n (slice_get t.structures n) h

pub tag_behind : (s : Scope) (x : List ℕ) (file : ℕ) (opaque : Bool) (y : List ℕ) (from : ℕ) → length s.tags ≡ length s.structures → number_of s.tags x ≡ None → tag_of (with_struct s x file opaque) y from ≡ option_or (tag_of s y from) (also s from file y x (length s.tags))
tag_behind s x file opaque y from e n =
    found_tag {s = s} {t = with_struct s x file opaque} from (number_of (s.tags ++ x ∷ []) y) (record { file = refl; headers = refl })
    ∙ (λ i. tag_found s from (number_behind s.tags x y i) (at_behind s.tags s.structures x (new_struct file opaque) y e i))
    ∙ by_test (bytes_eq y x) refl (number_of s.tags y) refl
    ∙ ap (λ o. option_or o (also s from file y x (length s.tags))) (sym (found_tag from (number_of s.tags y) (of_one s)))
  where
    by_test : (b : Bool) → bytes_eq y x ≡ b → (o : Option ℕ) → number_of s.tags y ≡ o → tag_found s from (option_or o (if b then Some (length s.tags) else None)) (option_or (at_index s.structures o) (if b then Some (new_struct file opaque) else None)) ≡ option_or (tag_found s from o (at_index s.structures o)) (if b && sees s from file then Some (length s.tags) else None)
    by_test true h None k = ap (λ b. if b then Some (length s.tags) else None) (visible_one s from file)
    by_test true h (Some m) k = none_some (sym n ∙ ap (number_of s.tags) (sym (is_name y x h)) ∙ k)
    by_test false h None k = refl
    by_test false h (Some m) k = ap (visible_number s from m) (or_nothing (slice_get s.structures m)) ∙ sym (or_nothing (visible_number s from m (slice_get s.structures m)))

-- one more file of a struct
abbrev struct_also_in : ℕ → Bool → Structure → Structure
struct_also_in file opaque x = record x { files = with_file x.files file; is_opaque = x.is_opaque || opaque }

pub tag_again : (s : Scope) (x : List ℕ) (k : ℕ) (a : Structure) (file : ℕ) (opaque : Bool) (y : List ℕ) (from : ℕ) → number_of s.tags x ≡ Some k → slice_get s.structures k ≡ Some a → tag_of (with_struct_again s k file opaque) y from ≡ option_or (tag_of s y from) (also s from file y x k)
tag_again s x k a file opaque y from e n =
    found_tag {s = s} {t = with_struct_again s k file opaque} from (number_of s.tags y) (record { file = refl; headers = refl })
    ∙ ap (tag_found s from (number_of s.tags y)) (at_changed (struct_also_in file opaque) s.tags s.structures x k y e)
    ∙ by_test (bytes_eq y x) refl
    ∙ ap (λ o. option_or o (also s from file y x k)) (sym (found_tag from (number_of s.tags y) (of_one s)))
  where
    there : (o : Option ℕ) → o ≡ Some k → tag_found s from o (option_map (struct_also_in file opaque) (at_index s.structures o)) ≡ option_or (tag_found s from o (at_index s.structures o)) (if sees s from file then Some k else None)
    there None h = none_some h
    there (Some m) h = by_struct (slice_get s.structures m) (ap (slice_get s.structures) (some_same h) ∙ n)
      where
        by_struct : (o : Option Structure) → o ≡ Some a → visible_number s from m (option_map (struct_also_in file opaque) o) ≡ option_or (visible_number s from m o) (if sees s from file then Some k else None)
        by_struct None h₁ = none_some h₁
        by_struct (Some z) h₁ =
            ap (λ b. if b then Some m else None) (visible_with s from file z.files)
            ∙ either m (is_visible s from z.files) (sees s from file)
            ∙ ap (λ j. option_or (if is_visible s from z.files then Some m else None) (if sees s from file then Some j else None)) (some_same h)

    by_test : (b : Bool) → bytes_eq y x ≡ b → tag_found s from (number_of s.tags y) (changed_where_is (struct_also_in file opaque) b (at_name s.tags s.structures y)) ≡ option_or (tag_found s from (number_of s.tags y) (at_name s.tags s.structures y)) (if b && sees s from file then Some k else None)
    by_test true h = there (number_of s.tags y) (ap (number_of s.tags) (is_name y x h) ∙ e)
    by_test false h = sym (or_nothing _)

-- a struct gets fields
abbrev fielded : Fields → Structure → Structure
fielded fs x = record x { fields = Some fs }

-- an item of a list in which one is changed
changed_at_number : {A B : Type 0} (f : Option A → B) (g : A → A) (xs : List A) (k n : ℕ) → ((o : Option A) → f (option_map g o) ≡ f o) → f (slice_get (changed g xs k) n) ≡ f (slice_get xs n)
changed_at_number {A} {B} f g xs k n h = by_test (nat_eq n k) refl
  where
    by_test : (b : Bool) → nat_eq n k ≡ b → f (slice_get (changed g xs k) n) ≡ f (slice_get xs n)
    by_test true e =
        let is = eqb-true n k e in
        ap (λ j. f (slice_get (changed g xs k) j)) is ∙ ap f (get_changed g xs k) ∙ h (slice_get xs k) ∙ ap (λ j. f (slice_get xs j)) (sym is)
    by_test false e = ap f (get_other g xs n k (λ is. false≢true (sym e ∙ eq-eqb n k is)))

pub tag_fielded : (s : Scope) (k : ℕ) (fs : Fields) (y : List ℕ) (from : ℕ) → tag_of (with_fields s k fs) y from ≡ tag_of s y from
tag_fielded s k fs y from = by_number (number_of s.tags y)
  where
    by_struct : (n : ℕ) (o : Option Structure) → visible_number s from n (option_map (fielded fs) o) ≡ visible_number s from n o
    by_struct n None = refl
    by_struct n (Some x) = refl

    by_number : (o : Option ℕ) → visible_tag (with_fields s k fs) from o ≡ visible_tag s from o
    by_number None = refl
    by_number (Some n) = number_alike {s = s} {t = with_fields s k fs} from n (slice_get (changed (fielded fs) s.structures k) n) (record { file = refl; headers = refl }) ∙ changed_at_number (visible_number s from n) (fielded fs) s.structures k n (by_struct n)

-- ---- fields
pub field_struct : (s : Scope) (x : List ℕ) (file : ℕ) (opaque : Bool) (n : ℕ) (y : List ℕ) (from : ℕ) → field_of (with_struct s x file opaque) n y from ≡ field_of s n y from
field_struct s x file opaque n y from =
    field_alike {s = s} {t = with_struct s x file opaque} from y (fields_in (slice_get (s.structures ++ new_struct file opaque ∷ []) n)) (record { file = refl; headers = refl }) ∙ by_one (one_more s.structures (new_struct file opaque) n)
  where
    by_one : OneMore s.structures (new_struct file opaque) n → field_in s from y (fields_in (slice_get (s.structures ++ new_struct file opaque ∷ []) n)) ≡ field_of s n y from
    by_one (as_before e) = ap (λ o. field_in s from y (fields_in o)) e
    by_one (is_new e h) = ap (λ o. field_in s from y (fields_in o)) h ∙ sym (ap (λ o. field_in s from y (fields_in o)) e)

pub field_again : (s : Scope) (k : ℕ) (file : ℕ) (opaque : Bool) (n : ℕ) (y : List ℕ) (from : ℕ) → field_of (with_struct_again s k file opaque) n y from ≡ field_of s n y from
field_again s k file opaque n y from =
    field_alike {s = s} {t = with_struct_again s k file opaque} from y (fields_in (slice_get (changed (struct_also_in file opaque) s.structures k) n)) (record { file = refl; headers = refl })
    ∙ changed_at_number (λ o. field_in s from y (fields_in o)) (struct_also_in file opaque) s.structures k n by_struct
  where
    by_struct : (o : Option Structure) → field_in s from y (fields_in (option_map (struct_also_in file opaque) o)) ≡ field_in s from y (fields_in o)
    by_struct None = refl
    by_struct (Some x) = refl

-- what fields give of the struct with a number
abbrev pub also_field : Scope → ℕ → ℕ → ℕ → Fields → List ℕ → Option CType
also_field s from n k fs y = if nat_eq n k then field_in s from y (Some fs) else None

pub field_fielded : (s : Scope) (k : ℕ) (a : Structure) (fs : Fields) (n : ℕ) (y : List ℕ) (from : ℕ) → slice_get s.structures k ≡ Some a → a.fields ≡ None → field_of (with_fields s k fs) n y from ≡ option_or (field_of s n y from) (also_field s from n k fs y)
field_fielded s k a fs n y from e h =
    field_alike {s = s} {t = with_fields s k fs} from y (fields_in (slice_get (changed (fielded fs) s.structures k) n)) (record { file = refl; headers = refl }) ∙ by_test (nat_eq n k) refl
  where
    none_yet : (o : Option Structure) → o ≡ Some a → field_in s from y (fields_in o) ≡ None
    none_yet None i = none_some i
    none_yet (Some z) i = ap (field_in s from y) (ap (λ (x : Structure). x.fields) (some_same i) ∙ h)

    by_test : (b : Bool) → nat_eq n k ≡ b → field_in s from y (fields_in (slice_get (changed (fielded fs) s.structures k) n)) ≡ option_or (field_of s n y from) (if b then field_in s from y (Some fs) else None)
    by_test true i =
        let is = eqb-true n k i in
        ap (λ j. field_in s from y (fields_in (slice_get (changed (fielded fs) s.structures k) j))) is
        ∙ ap (λ o. field_in s from y (fields_in o)) (get_changed (fielded fs) s.structures k ∙ ap (option_map (fielded fs)) e)
        ∙ sym (ap (λ o. option_or o (field_in s from y (Some fs))) (none_yet (slice_get s.structures n) (ap (slice_get s.structures) is ∙ e)))
    by_test false i = ap (λ o. field_in s from y (fields_in o)) (get_other (fielded fs) s.structures n k (λ is. false≢true (sym i ∙ eq-eqb n k is))) ∙ sym (or_nothing (field_of s n y from))
