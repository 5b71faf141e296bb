-- Types as they are written stay the same where more is declared.
use Rattle.std.proofs.Common.{◌≡◌, ℕ, Bool, true, false, ◌||◌, nat_eq, if◌then◌else◌, List, [], ◌∷◌, ◌++◌, length, Option, Some, None, Result, slice_get, refl, sym, ap, subst, ◌∙◌}
use Rattle.std.specs.Str.{bytes_eq}
use Rattle.vf_base.specs.declared.place.Place.{Place}
use Rattle.vf_base.specs.declared.refusal.Refusal.{Refusal}
use Rattle.vf_names.specs.Names.{number_of}
use Rattle.vf_declared.specs.declared.ctype.CType.{CType}
use Rattle.vf_declared.specs.declared.declaration.Declaration.{Declaration}
use Rattle.vf_declared.specs.declared.declaration.Meaning.{Meaning}
use Rattle.vf_declared.specs.declared.declaration.Meaning.TheVariants as meanings
use Rattle.vf_declared.specs.declared.declaration.Signature.{Signature}
use Rattle.vf_declared.specs.declared.declaration.Structure.{Structure}
use Rattle.vf_declared.specs.declared.locals.Local.{Local}
use Rattle.vf_declared.specs.declared.locals.Local.TheVariants as locals
use Rattle.vf_declared.specs.declared.scope.Scope.{Scope}
use Rattle.vf_declared.specs.Scopes.{at_name, declaration_of, declared_in, has, is_among, is_visible, sees, visible_number, visible_tag}
use Rattle.vf_declared.specs.Writing.{with_file, with_function}
use Rattle.vf_syntax.specs.declared.written.CType.{CType as WrittenType}
use Rattle.vf_syntax.specs.declared.written.TypeForm.{TypeForm}
use Rattle.vf_syntax.specs.declared.written.TypeForm.TheVariants as forms
use Rattle.vf_typing.specs.Names.{form_type, no_function_type, pointer_to, struct_pointer, written_type}
use Rattle.vf_walk.specs.Items.{again_in}
use Rattle.vf_erasure_laws.specs.seen.Seen.{is_of_c}
use Rattle.vf_erasure_laws.proofs.seen.Leading.{Leads, by_same, fails, leads}
use Rattle.vf_erasure_laws.proofs.seen.Lookups.{at_standing, standing}
use Rattle.vf_erasure_laws.proofs.erased.Growing.{or_else, standing_behind}
use Rattle.vf_erasure_laws.proofs.erased.WalkingLists.{changed_at_name, changed_if, changed_where}

-- what names and tags mean in the first scope, they mean in the second
pub record Keeps (s t : Scope) : Type 0 where
  pub file : t.file ≡ s.file
  pub headers : t.headers ≡ s.headers
  pub tags : t.tags ≡ s.tags
  pub structures : t.structures ≡ s.structures
  pub means : (x : List ℕ) (f : ℕ) (m : Meaning) → is_of_c m ≡ true → declaration_of s x f ≡ Some m → declaration_of t x f ≡ Some m

-- what is seen hangs on the files alone
visible_stays : (s t : Scope) → t.file ≡ s.file → t.headers ≡ s.headers → (from : ℕ) (files : List ℕ) → is_visible t from files ≡ is_visible s from files
visible_stays s t e h from [] = refl
visible_stays s t e h from (file ∷ files) = λ i. (nat_eq from (e i) || (nat_eq from file || is_among (slice_get (h i) from) file)) || visible_stays s t e h from files i

number_stays : (s t : Scope) → t.file ≡ s.file → t.headers ≡ s.headers → (from n : ℕ) (o : Option Structure) → visible_number t from n o ≡ visible_number s from n o
number_stays s t e h from n None = refl
number_stays s t e h from n (Some x) = ap (λ b. if b then Some n else None) (visible_stays s t e h from x.files)

tag_stays : (s t : Scope) (k : Keeps s t) (from : ℕ) (o : Option ℕ) → visible_tag t from o ≡ visible_tag s from o
tag_stays s t k from None = refl
tag_stays s t k from (Some n) = number_stays s t k.file k.headers from n (slice_get t.structures n) ∙ ap (λ xs. visible_number s from n (slice_get xs n)) k.structures

no_type_leads : (p : Place) {q : Result CType Refusal} (l : Option Local) → Leads (no_function_type l p) q
no_type_leads p None = fails
no_type_leads p (Some (locals.Real t)) = fails
no_type_leads p (Some (locals.Ghost g)) = fails

pointer_stays : (s t : Scope) (k : Keeps s t) (p : Place) (x : List ℕ) (o : Option Meaning) → declaration_of s x p.file ≡ o → Leads (pointer_to s p x o) (pointer_to t p x (declaration_of t x p.file))
pointer_stays s t k p x (Some (meanings.FunctionType n)) e = by_same (ap (pointer_to t p x) (k.means x p.file (meanings.FunctionType n) refl e))
pointer_stays s t k p x (Some (meanings.Ghost n)) e = fails
pointer_stays s t k p x (Some (meanings.Function n)) e = no_type_leads p _
pointer_stays s t k p x None e = no_type_leads p _

form_stays : (s t : Scope) → Keeps s t → (p : Place) (f : TypeForm) → Leads (form_type s p f) (form_type t p f)
form_stays s t k p (forms.Integer w) = leads
form_stays s t k p forms.Bool = leads
form_stays s t k p forms.VoidPointer = leads
form_stays s t k p forms.IntPointer = leads
form_stays s t k p (forms.StructPointer n) = by_same (ap (struct_pointer n.place) (tag_stays s t k n.place.file (number_of t.tags n.text) ∙ ap (λ xs. visible_tag s n.place.file (number_of xs n.text)) k.tags))
form_stays s t k p (forms.NamedPointer x) = pointer_stays s t k p x (declaration_of s x p.file) refl

-- a type as it is written stays the same
pub type_stays : (s t : Scope) → Keeps s t → (w : WrittenType) → Leads (written_type s w) (written_type t w)
type_stays s t k w = form_stays s t k w.place w.form

-- one after the other
pub keeps_then : {s t u : Scope} → Keeps s t → Keeps t u → Keeps s u
keeps_then h k = record {
  file = k.file ∙ h.file;
  headers = k.headers ∙ h.headers;
  tags = k.tags ∙ h.tags;
  structures = k.structures ∙ h.structures;
  means = λ x f m c e. k.means x f m c (h.means x f m c e);
}

-- a declaration means the same where the files are the same
declared_stays : (s t : Scope) → t.file ≡ s.file → t.headers ≡ s.headers → (f : ℕ) (o : Option Declaration) → declared_in t f o ≡ declared_in s f o
declared_stays s t e h f None = refl
declared_stays s t e h f (Some d) = ap (λ b. if b then Some d.meaning else None) (visible_stays s t e h f d.files)

-- where names and their declarations are the same
pub keeps_names : (s t : Scope) → t.file ≡ s.file → t.headers ≡ s.headers → t.tags ≡ s.tags → t.structures ≡ s.structures → t.names ≡ s.names → t.declarations ≡ s.declarations → Keeps s t
keeps_names s t e h g x n d = record {
  file = e;
  headers = h;
  tags = g;
  structures = x;
  means = λ y f m c k. declared_stays s t e h f (at_name t.names t.declarations y) ∙ (λ i. declared_in s f (at_name (n i) (d i) y)) ∙ k;
}

-- what stands in front of one more name
front_found : (s t : Scope) → t.file ≡ s.file → t.headers ≡ s.headers → (y : List ℕ) (d : Declaration) → length s.names ≡ length s.declarations → t.names ≡ s.names ++ y ∷ [] → t.declarations ≡ s.declarations ++ d ∷ []
    → (x : List ℕ) (f : ℕ) (m : Meaning) (o : Option Declaration) → at_name s.names s.declarations x ≡ o → declared_in s f o ≡ Some m → declaration_of t x f ≡ Some m
front_found s t e h y d a n ds x f m None k q = absurd cc
front_found s t e h y d a n ds x f m (Some c) k q =
    let there : at_name t.names t.declarations x ≡ Some c =
    (λ i. at_name (n i) (ds i) x) ∙ at_standing (s.names ++ y ∷ []) (s.declarations ++ d ∷ []) x ∙ standing_behind s.names (y ∷ []) s.declarations (d ∷ []) x a
    ∙ ap (λ p. or_else p (standing (y ∷ []) (d ∷ []) x)) (sym (at_standing s.names s.declarations x) ∙ k) in
    ap (declared_in t f) there ∙ declared_stays s t e h f (Some c) ∙ q

pub keeps_function : (s : Scope) (x : List ℕ) (file : ℕ) (g : Signature) → length s.names ≡ length s.declarations → Keeps s (with_function s x file g)
keeps_function s x file g a = record {
  file = refl;
  headers = refl;
  tags = refl;
  structures = refl;
  means = λ y f m c k. front_found s (with_function s x file g) refl refl x (record { meaning = meanings.Function (length s.functions); files = file ∷ [] }) a refl refl y f m (at_name s.names s.declarations y) refl k;
}

-- a declaration in one more file is seen where it was
visible_front : (s : Scope) (from : ℕ) (files more : List ℕ) → is_visible s from files ≡ true → is_visible s from (files ++ more) ≡ true
visible_front s from [] more h = absurd cc
visible_front s from (file ∷ files) more h = by_test (sees s from file) h (visible_front s from files more)
  where
    by_test : (b : Bool) → (b || is_visible s from files) ≡ true → (is_visible s from files ≡ true → is_visible s from (files ++ more) ≡ true) → (b || is_visible s from (files ++ more)) ≡ true
    by_test true h f = refl
    by_test false h f = f h

visible_with : (s : Scope) (from : ℕ) (files : List ℕ) (file : ℕ) → is_visible s from files ≡ true → is_visible s from (with_file files file) ≡ true
visible_with s from files file h = by_test (has files file)
  where
    by_test : (b : Bool) → is_visible s from (if b then files else files ++ file ∷ []) ≡ true
    by_test true = h
    by_test false = visible_front s from files (file ∷ []) h

also_declared : (s : Scope) (f file : ℕ) (d : Declaration) (m : Meaning) → declared_in s f (Some d) ≡ Some m → declared_in s f (Some (record d { files = with_file d.files file })) ≡ Some m
also_declared s f file d m h = by_test (is_visible s f d.files) refl h
  where
    by_test : (b : Bool) → is_visible s f d.files ≡ b → (if b then Some d.meaning else None) ≡ Some m → (if is_visible s f (with_file d.files file) then Some d.meaning else None) ≡ Some m
    by_test true e h = ap (λ b. if b then Some d.meaning else None) (visible_with s f d.files file e) ∙ h
    by_test false e h = absurd cc

-- a declaration where one is declared in one more file
changed_declared : (s : Scope) (f file : ℕ) (m : Meaning) (ys : List (List ℕ)) (ds : List Declaration) (x z : List ℕ) → declared_in s f (standing ys ds x) ≡ Some m → declared_in s f (standing ys (changed_where (λ (d : Declaration). record d { files = with_file d.files file }) ys ds z) x) ≡ Some m
changed_declared s f file m [] ds x z h = h
changed_declared s f file m (y ∷ ys) [] x z h = h
changed_declared s f file m (y ∷ ys) (d ∷ ds) x z h = by_test (bytes_eq z y) (bytes_eq x y) refl h (changed_declared s f file m ys ds x z)
  where
    by_test : (b c : Bool) → bytes_eq x y ≡ c → declared_in s f (if c then Some d else standing ys ds x) ≡ Some m → (declared_in s f (standing ys ds x) ≡ Some m → declared_in s f (standing ys (changed_where (λ (d : Declaration). record d { files = with_file d.files file }) ys ds z) x) ≡ Some m)
        → declared_in s f (standing (y ∷ ys) (if b then (record d { files = with_file d.files file }) ∷ ds else d ∷ changed_where (λ (d : Declaration). record d { files = with_file d.files file }) ys ds z) x) ≡ Some m
    by_test true true e h k = ap (λ c. declared_in s f (if c then Some (record d { files = with_file d.files file }) else standing ys ds x)) e ∙ also_declared s f file d m h
    by_test true false e h k = ap (λ c. declared_in s f (if c then Some (record d { files = with_file d.files file }) else standing ys ds x)) e ∙ h
    by_test false true e h k = ap (λ c. declared_in s f (if c then Some d else standing ys (changed_where (λ (d : Declaration). record d { files = with_file d.files file }) ys ds z) x)) e ∙ h
    by_test false false e h k = ap (λ c. declared_in s f (if c then Some d else standing ys (changed_where (λ (d : Declaration). record d { files = with_file d.files file }) ys ds z) x)) e ∙ k h

again_is : (s : Scope) (file : ℕ) (o : Option ℕ) → again_in file o s ≡ record s { declarations = changed_if (λ (d : Declaration). record d { files = with_file d.files file }) s.declarations o }
again_is s file None = refl
again_is s file (Some k) = refl

pub keeps_again : (s : Scope) (z : List ℕ) (file : ℕ) → Keeps s (again_in file (number_of s.names z) s)
keeps_again s z file = subst (Keeps s) (sym (again_is s file (number_of s.names z))) (record {
  file = refl;
  headers = refl;
  tags = refl;
  structures = refl;
  means = λ x f m c e.
      declared_stays s (record s { declarations = changed_if (λ (d : Declaration). record d { files = with_file d.files file }) s.declarations (number_of s.names z) }) refl refl f (at_name s.names (changed_if (λ (d : Declaration). record d { files = with_file d.files file }) s.declarations (number_of s.names z)) x)
      ∙ ap (declared_in s f) (ap (λ ds. at_name s.names ds x) (changed_at_name (λ (d : Declaration). record d { files = with_file d.files file }) s.names s.declarations z) ∙ at_standing s.names (changed_where (λ (d : Declaration). record d { files = with_file d.files file }) s.names s.declarations z) x)
      ∙ changed_declared s f file m s.names s.declarations x z (ap (declared_in s f) (sym (at_standing s.names s.declarations x)) ∙ e);
})
