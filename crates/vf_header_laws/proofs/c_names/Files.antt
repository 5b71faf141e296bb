-- What is visible from a file, in scopes of the same files and where one more file is added.
use Rattle.std.proofs.Common.{◌≡◌, ℕ, Bool, true, false, ◌&&◌, ◌||◌, if◌then◌else◌, nat_eq, List, [], ◌∷◌, ◌++◌, Option, Some, None, slice_get, refl, sym, ap, ◌∙◌}
use Rattle.std.specs.Option.{option_or}
use Rattle.std.specs.Str.{bytes_eq}
use Rattle.std.proofs.lemmas.Bool.{eqb-true, false≢true}
use Rattle.vf_names.specs.Names.{number_of}
use Rattle.vf_declared.specs.declared.declaration.Declaration.{Declaration}
use Rattle.vf_declared.specs.declared.declaration.Fields.{Fields}
use Rattle.vf_declared.specs.declared.declaration.Structure.{Structure}
use Rattle.vf_declared.specs.declared.scope.Scope.{Scope}
use Rattle.vf_declared.specs.Scopes.{at_name, declaration_of, declared_in, field_in, field_of, fields_in, has, is_among, is_visible, sees, tag_of, visible_number, visible_tag}
use Rattle.vf_declared.specs.Writing.{with_file}
use Rattle.vf_walk.specs.Items.{no_locals}
use Rattle.vf_header_laws.specs.c_names.Parts.{is_part_of}
use Rattle.vf_header_laws.specs.c_names.Same.{ConsistsOfHeaders}
use Rattle.vf_header_laws.proofs.c_names.Seeing.{sees_parts}

-- ---- scopes of the same files
-- two scopes are of one file and its headers
pub record OfOneUnit (s t : Scope) : Type 0 where
  pub file : t.file ≡ s.file
  pub headers : t.headers ≡ s.headers

pub of_one : (s : Scope) → OfOneUnit s s
of_one s = record { file = refl; headers = refl }

pub of_one_both : {s t u : Scope} → OfOneUnit s t → OfOneUnit t u → OfOneUnit s u
of_one_both h k = record { file = k.file ∙ h.file; headers = k.headers ∙ h.headers }

pub sees_alike : {s t : Scope} (from file : ℕ) → OfOneUnit s t → sees t from file ≡ sees s from file
sees_alike from file h = λ i. nat_eq from (h.file i) || (nat_eq from file || is_among (slice_get (h.headers i) from) file)

pub visible_alike : {s t : Scope} (from : ℕ) (files : List ℕ) → OfOneUnit s t → is_visible t from files ≡ is_visible s from files
visible_alike from [] h = refl
visible_alike from (file ∷ files) h = λ i. sees_alike from file h i || visible_alike from files h i

pub part_same : {s t : Scope} (header file : ℕ) → OfOneUnit s t → is_part_of t header file ≡ is_part_of s header file
part_same header file h = λ i. nat_eq header file || is_among (slice_get (h.headers i) header) file

pub declared_alike : {s t : Scope} (from : ℕ) (o : Option Declaration) → OfOneUnit s t → declared_in t from o ≡ declared_in s from o
declared_alike from None h = refl
declared_alike from (Some d) h = ap (λ b. if b then Some d.meaning else None) (visible_alike from d.files h)

pub number_alike : {s t : Scope} (from n : ℕ) (o : Option Structure) → OfOneUnit s t → visible_number t from n o ≡ visible_number s from n o
number_alike from n None h = refl
number_alike from n (Some x) h = ap (λ b. if b then Some n else None) (visible_alike from x.files h)

pub field_alike : {s t : Scope} (from : ℕ) (name : List ℕ) (o : Option Fields) → OfOneUnit s t → field_in t from name o ≡ field_in s from name o
field_alike from name None h = refl
field_alike from name (Some fields) h = ap (λ b. if b then at_name fields.names fields.types name else None) (sees_alike from fields.file h)

pub name_unit : (s t : Scope) (name : List ℕ) (from : ℕ) → OfOneUnit s t → t.names ≡ s.names → t.declarations ≡ s.declarations → declaration_of t name from ≡ declaration_of s name from
name_unit s t name from h e d = declared_alike from (at_name t.names t.declarations name) h ∙ (λ i. declared_in s from (at_name (e i) (d i) name))

pub tag_unit : (s t : Scope) (tag : List ℕ) (from : ℕ) → OfOneUnit s t → t.tags ≡ s.tags → t.structures ≡ s.structures → tag_of t tag from ≡ tag_of s tag from
tag_unit s t tag from h e d = by_number (number_of t.tags tag) ∙ ap (λ ts. visible_tag s from (number_of ts tag)) e
  where
    by_number : (o : Option ℕ) → visible_tag t from o ≡ visible_tag s from o
    by_number None = refl
    by_number (Some n) = number_alike from n (slice_get t.structures n) h ∙ ap (λ xs. visible_number s from n (slice_get xs n)) d

pub field_unit : (s t : Scope) (n : ℕ) (name : List ℕ) (from : ℕ) → OfOneUnit s t → t.structures ≡ s.structures → field_of t n name from ≡ field_of s n name from
field_unit s t n name from h d = field_alike from name (fields_in (slice_get t.structures n)) h ∙ ap (λ xs. field_in s from name (fields_in (slice_get xs n))) d

-- ---- scopes of which headers see the same
-- a scope without its locals, what functions are declared with so far, and what they give and take
abbrev pub shown : Scope → Scope
shown s = record s { locals = no_locals; sides = []; functions = []; function_types = [] }

pub unit_by : (s t : Scope) → shown t ≡ shown s → OfOneUnit s t
unit_by s t e = record { file = ap (λ (u : Scope). u.file) e; headers = ap (λ (u : Scope). u.headers) e }

pub name_by : (s t : Scope) (name : List ℕ) (from : ℕ) → shown t ≡ shown s → declaration_of t name from ≡ declaration_of s name from
name_by s t name from e = name_unit s t name from (unit_by s t e) (ap (λ (u : Scope). u.names) e) (ap (λ (u : Scope). u.declarations) e)

-- ---- one more file
or_none : (b : Bool) → (b || false) ≡ b
or_none true = refl
or_none false = refl

or_regrouped : (a b c : Bool) → (a || (b || c)) ≡ ((a || b) || c)
or_regrouped true b c = refl
or_regrouped false b c = refl

pub visible_one : (s : Scope) (from file : ℕ) → is_visible s from (file ∷ []) ≡ sees s from file
visible_one s from file = or_none (sees s from file)

visible_behind : (s : Scope) (from file : ℕ) (files : List ℕ) → is_visible s from (files ++ file ∷ []) ≡ (is_visible s from files || sees s from file)
visible_behind s from file [] = or_none (sees s from file)
visible_behind s from file (f ∷ files) = ap (λ b. sees s from f || b) (visible_behind s from file files) ∙ or_regrouped (sees s from f) (is_visible s from files) (sees s from file)

visible_among : (s : Scope) (from file : ℕ) (files : List ℕ) → has files file ≡ true → sees s from file ≡ true → is_visible s from files ≡ true
visible_among s from file [] h v = absurd (false≢true h)
visible_among s from file (f ∷ files) h v = by_test (nat_eq f file) refl h (λ k. visible_among s from file files k v)
  where
    behind : (a b : Bool) → b ≡ true → (a || b) ≡ true
    behind true b e = refl
    behind false b e = e

    by_test : (b : Bool) → nat_eq f file ≡ b → (b || has files file) ≡ true → (has files file ≡ true → is_visible s from files ≡ true) → (sees s from f || is_visible s from files) ≡ true
    by_test true e h k = ap (λ b. b || is_visible s from files) (ap (sees s from) (eqb-true f file e) ∙ v)
    by_test false e h k = behind (sees s from f) (is_visible s from files) (k h)

pub visible_with : (s : Scope) (from file : ℕ) (files : List ℕ) → is_visible s from (with_file files file) ≡ (is_visible s from files || sees s from file)
visible_with s from file files = by_test (has files file) refl
  where
    there : (b : Bool) → sees s from file ≡ b → has files file ≡ true → is_visible s from files ≡ (is_visible s from files || b)
    there true e h = visible_among s from file files h e ∙ sym (ap (λ b. b || true) (visible_among s from file files h e))
    there false e h = sym (or_none (is_visible s from files))

    by_test : (b : Bool) → has files file ≡ b → is_visible s from (if b then files else files ++ file ∷ []) ≡ (is_visible s from files || sees s from file)
    by_test true e = there (sees s from file) refl e
    by_test false e = visible_behind s from file files

-- what one more file gives: something by a name, where the name is looked up from a file that sees the file
abbrev pub also : {A : Type 0} → Scope → ℕ → ℕ → List ℕ → List ℕ → A → Option A
also s from file y x a = if bytes_eq y x && sees s from file then Some a else None

-- a file that is no part of a header is not seen from the header's files
pub unseen : (s : Scope) (header from file : ℕ) → ConsistsOfHeaders s header → is_part_of s header from ≡ true → is_part_of s header file ≡ false → sees s from file ≡ false
unseen s header from file c p o = sees_parts s from file (c.headers from p) ∙ by_test (is_part_of s from file) refl
  where
    by_test : (b : Bool) → is_part_of s from file ≡ b → b ≡ false
    by_test true e = absurd (false≢true (sym o ∙ c.within from p file e))
    by_test false e = refl

pub also_unseen : {A : Type 0} (s : Scope) (from file : ℕ) (y x : List ℕ) (a : A) (o : Option A) → sees s from file ≡ false → option_or o (also s from file y x a) ≡ o
also_unseen {A} s from file y x a o e = ap (λ b. option_or o (if bytes_eq y x && b then Some a else None)) e ∙ by_test (bytes_eq y x) ∙ by_option o
  where
    by_test : (b : Bool) → option_or o (if b && false then Some a else None) ≡ option_or o None
    by_test true = refl
    by_test false = refl

    by_option : (o : Option A) → option_or o None ≡ o
    by_option None = refl
    by_option (Some a) = refl
