-- Names, functions and function types that are declared in a header show the same in two units.
use Rattle.std.proofs.Common.{◌≡◌, ℕ, Bool, true, false, ◌&&◌, ◌||◌, if◌then◌else◌, nat_eq, List, [], ◌++◌, Option, Some, None, slice_get, refl, sym, ap, subst, ◌∙◌}
use Rattle.std.specs.List.{list_all}
use Rattle.std.specs.Option.{option_or}
use Rattle.std.specs.Str.{bytes_eq}
use Rattle.std.proofs.lemmas.Bool.{and_parts}
use Rattle.vf_declared.specs.declared.declaration.Meaning.{Meaning}
use Rattle.vf_declared.specs.declared.declaration.Meaning.TheVariants as meanings
use Rattle.vf_declared.specs.declared.scope.Scope.{Scope}
use Rattle.vf_declared.specs.Scopes.{declaration_of, is_among, sees}
use Rattle.vf_declared.specs.Writing.{with_name}
use Rattle.vf_syntax.specs.declared.item.Signature.{Signature as WrittenSignature}
use Rattle.vf_walk.specs.Items.{listed, no_locals, real_types}
use Rattle.vf_header_laws.specs.c_names.Parts.{is_part_of}
use Rattle.vf_header_laws.specs.c_names.Same.{AreOneSignature, AreOneType, both, Both, ConsistsOfHeaders, done, Each, HaveTheSameFields, MeanTheSame, neither, ShowTheSame}
use Rattle.vf_header_laws.specs.c_names.Same as same
use Rattle.vf_header_laws.specs.c_names.Types.{StandsWithin}
use Rattle.vf_header_laws.specs.c_names.Items.{files_of_result, files_of_signature, files_of_typed, IsBetweenItems}
use Rattle.vf_header_laws.proofs.c_names.Alike.{all_both, LocalsAlike, parameters_alike, plain_back, plain_names, results_alike}
use Rattle.vf_header_laws.proofs.c_names.Elsewhere.{consists_same}
use Rattle.vf_header_laws.proofs.c_names.Files.{also, OfOneUnit, part_same}
use Rattle.vf_header_laws.proofs.c_names.Functions.{again, DeclaresFunction, DeclaresName, DeclaresType, IsFunction, named, new}
use Rattle.vf_header_laws.proofs.c_names.Growing.{both_at, Fielded, fields_grow, Grows, meaning_grows, Names, or_first, part_both, type_grows, types_grow}
use Rattle.vf_header_laws.proofs.c_names.Lists.{none_some, some_same}
use Rattle.vf_header_laws.proofs.c_names.Plain.{parameters_plain}
use Rattle.vf_header_laws.proofs.c_names.Types.{AreOneKind, both_map, named_same, NameTheSame, part_alike, part_itself}
use Rattle.vf_header_laws.proofs.c_names.Types as kinds

-- ---- what both units give
-- of two lookups that are alike
pub both_given : {A B : Type 0} {R : A → B → Type 0} {a : A} {b : B} (o : Option A) (q : Option B) → o ≡ Some a → q ≡ Some b → Both R o q → R a b
both_given {R = R} {a} {b} o q e h neither = none_some e
both_given {R = R} {a} {b} o q e h (both {a = c} {b = d} r) = subst (λ z. R z b) (some_same e) (subst (R c) (some_same h) r)

pub first_alone : {A B C : Type 0} {R : A → B → Type 0} {a : A} (o : Option A) (q : Option B) → o ≡ Some a → q ≡ None → Both R o q → C
first_alone o q e h neither = none_some e
first_alone o q e h (both r) = absurd cc

pub second_alone : {A B C : Type 0} {R : A → B → Type 0} {b : B} (o : Option A) (q : Option B) → o ≡ None → q ≡ Some b → Both R o q → C
second_alone o q e h neither = none_some h
second_alone o q e h (both r) = absurd cc

-- or what comes in place of nothing
pub both_or : {A B : Type 0} {R Q : A → B → Type 0} {p : Option A} {r : Option B} (o : Option A) (q : Option B) → ((a : A) (b : B) → R a b → Q a b) → Both R o q → Both Q p r → Both Q (option_or o p) (option_or q r)
both_or o q f neither h = h
both_or o q f (both r) h = both (f _ _ r)

both_if : {A B : Type 0} {R : A → B → Type 0} (a : A) (b : B) (t : Bool) → R a b → Both R (if t then Some a else None) (if t then Some b else None)
both_if a b true r = both r
both_if a b false r = neither

-- a file of a header sees the same files in both units
pub sees_both : {header : ℕ} {s t : Scope} (from file : ℕ) → ConsistsOfHeaders s header → ConsistsOfHeaders t header → NameTheSame header s t → is_part_of s header from ≡ true → sees s from file ≡ sees t from file
sees_both {header} {s} {t} from file c d h p =
    ap (λ b. b || is_part_of s from file) (c.headers from p)
    ∙ ap (λ o. nat_eq from file || is_among o file) (h.files from p)
    ∙ sym (ap (λ b. b || is_part_of t from file) (d.headers from (sym (part_alike from h) ∙ p)))

pub also_both : {A B : Type 0} {R : A → B → Type 0} {header : ℕ} {s t : Scope} (a : A) (b : B) (from file : ℕ) (y x : List ℕ) → ConsistsOfHeaders s header → ConsistsOfHeaders t header → NameTheSame header s t → is_part_of s header from ≡ true → R a b → Both R (also s from file y x a) (also t from file y x b)
also_both {R = R} {s = s} {t} a b from file y x c d h p r =
    subst (λ v. Both R (if bytes_eq y x && v then Some a else None) (also t from file y x b)) (sym (sees_both from file c d h p)) (both_if a b (bytes_eq y x && sees t from file) r)

-- ---- names
name_names : {header : ℕ} {s t : Scope} {x : List ℕ} {m : Meaning} {file : ℕ} → DeclaresName x m file s t → Names header s t
name_names {header} {s} {x = x} {m} {file} d = record {
  names = λ name n e. or_first (declaration_of s name header) (also s header file name x m) _ (d.names name header) e;
  tags = λ tag n e. d.tags tag header ∙ e;
}

name_grows : {header : ℕ} {s t : Scope} {x : List ℕ} {m : Meaning} {file : ℕ} → DeclaresName x m file s t → Grows header s t
name_grows d = record { named = name_names d; functions = d.functions; function_types = d.function_types }

name_fielded : {header : ℕ} {s t : Scope} {x : List ℕ} {m : Meaning} {file : ℕ} → DeclaresName x m file s t → Fielded header s t
name_fielded d = record { unit = d.unit; fields = λ from n name p. d.fields n name from }

-- the files of a header in both units
pub files_same : {header : ℕ} {s t u v : Scope} → OfOneUnit s u → OfOneUnit t v → NameTheSame header s t → (file : ℕ) → is_part_of u header file ≡ true → slice_get u.headers file ≡ slice_get v.headers file
files_same {header} h k r file p = ap (λ hs. slice_get hs file) h.headers ∙ r.files file (sym (part_same header file h) ∙ p) ∙ sym (ap (λ hs. slice_get hs file) k.headers)

pub kinds_named : {header : ℕ} {s t u v : Scope} {x : List ℕ} {m k : Meaning} {file : ℕ} → ConsistsOfHeaders s header → ConsistsOfHeaders t header → DeclaresName x m file s u → DeclaresName x k file t v → AreOneKind m k → NameTheSame header s t → NameTheSame header u v
kinds_named {header} {s} {t} {u} {x = x} {file = file} c d i j r h =
    let back : (from : ℕ) → is_part_of u header from ≡ true → is_part_of s header from ≡ true = λ from p. sym (part_same header from i.unit) ∙ p in
    record {
      files = files_same i.unit j.unit h;
      names = λ from y p. both_at (i.names y from) (j.names y from) (both_or _ _ (λ a b z. z) (h.names from y (back from p)) (also_both _ _ from file y x c d h (back from p) r));
      tags = λ from tag p. both_at (i.tags tag from) (j.tags tag from) (h.tags from tag (back from p));
    }

shows_named : {header : ℕ} {s t u v : Scope} {x : List ℕ} {m k : Meaning} {file : ℕ} → ConsistsOfHeaders s header → ConsistsOfHeaders t header → DeclaresName x m file s u → DeclaresName x k file t v → MeanTheSame header u v m k → ShowTheSame header s t → ShowTheSame header u v
shows_named {header} {s} {t} {u} {v} {x} {file = file} c d i j r h =
    let back : (from : ℕ) → is_part_of u header from ≡ true → is_part_of s header from ≡ true = λ from p. sym (part_same header from i.unit) ∙ p in
    let part : (from : ℕ) → is_part_of s header from ≡ true → is_part_of t header from ≡ true = λ from p. sym (part_both from h) ∙ p in
    record {
      files = files_same i.unit j.unit (named_same h);
      names = λ from y p. both_at (i.names y from) (j.names y from) (both_or _ _ (λ a b z. meaning_grows (name_grows i) (name_grows j) z) (h.names from y (back from p)) (also_both _ _ from file y x c d (named_same h) (back from p) r));
      tags = λ from tag p. both_at (i.tags tag from) (j.tags tag from) (both_map (λ a b z. fields_grow part (name_fielded i) (name_fielded j) (name_names i) (name_names j) z) (h.tags from tag (back from p)));
    }

names_both : {header : ℕ} {s t u : Scope} → Names header s t → Names header t u → Names header s u
names_both h k = record { names = λ name m e. k.names name m (h.names name m e); tags = λ tag n e. k.tags tag n (h.tags tag n e) }

pub within_same : {s t : Scope} (header : ℕ) (files : List ℕ) → OfOneUnit s t → StandsWithin s header files → StandsWithin t header files
within_same header files h w = ap (λ f. list_all f files) (λ i x. part_same header x h i) ∙ w

-- ---- functions
-- the parts of a signature that stands in a header
pub record SignatureWithin (s : Scope) (header : ℕ) (g : WrittenSignature) : Type 0 where
  pub name : is_part_of s header g.name.place.file ≡ true
  pub gives : StandsWithin s header (files_of_result g.«result»)
  pub takes : StandsWithin s header (files_of_typed (listed g.parameters))

pub within_signature : (s : Scope) (header : ℕ) (g : WrittenSignature) → StandsWithin s header (files_of_signature g) → SignatureWithin s header g
within_signature s header g w =
    let k = and_parts (is_part_of s header g.name.place.file) (list_all (is_part_of s header) (files_of_result g.«result» ++ files_of_typed (listed g.parameters))) w in
    let j = all_both (is_part_of s header) (files_of_result g.«result») (files_of_typed (listed g.parameters)) k.1 in
    record { name = k.0; gives = j.0; takes = j.1 }

no_locals_alike : (header : ℕ) (s t : Scope) → s.locals ≡ no_locals → t.locals ≡ no_locals → LocalsAlike header s t
no_locals_alike header s t e h = subst (λ l. Each (AreOneType header s t) (real_types l.meanings) (real_types t.locals.meanings)) (sym e) (subst (λ l. Each (AreOneType header s t) [] (real_types l.meanings)) (sym h) done)

module _ {s t u v : Scope} (header : ℕ) (g : WrittenSignature) (c : ConsistsOfHeaders s header) (d : ConsistsOfHeaders t header) (a : IsBetweenItems s) (b : IsBetweenItems t) (h : ShowTheSame header s t) (w : SignatureWithin s header g) where
  functions_mean : (n m : ℕ) → DeclaresName g.name.text (meanings.Function n) g.name.place.file s u → DeclaresName g.name.text (meanings.Function m) g.name.place.file t v → IsFunction s g n u → IsFunction t g m v → MeanTheSame header u v (meanings.Function n) (meanings.Function m)
  functions_mean n m i j (again e) (again k) = meaning_grows (name_grows i) (name_grows j) (both_given _ _ e k (h.names g.name.place.file g.name.text w.name))
  functions_mean n m i j (again e) (new r x k y z o) = first_alone _ _ e k (h.names g.name.place.file g.name.text w.name)
  functions_mean n m i j (new r x k y z o) (again e) = second_alone _ _ k e (h.names g.name.place.file g.name.text w.name)
  functions_mean n m i j (new r x e y z o) (new r₁ x₁ e₁ y₁ z₁ o₁) = same.functions o o₁ (record {
    gives = type_grows (name_names i) (name_names j) (results_alike header s t c d (named_same h) g.«result» w.gives y y₁);
    takes = types_grow (names_both (plain_names (plain_back (parameters_plain (listed g.parameters) s z))) (name_names i)) (names_both (plain_names (plain_back (parameters_plain (listed g.parameters) t z₁))) (name_names j))
        (parameters_alike header s t c d (named_same h) (listed g.parameters) w.takes z z₁ (no_locals_alike header s t a.cleared b.cleared));
  })

  pub functions_show : DeclaresFunction g s u → DeclaresFunction g t v → ShowTheSame header u v
  functions_show i j = shows_named c d i.name j.name (functions_mean i.number j.number i.name j.name i.how j.how) h

  -- ---- function types
  pub types_show : DeclaresType g s u → DeclaresType g t v → ShowTheSame header u v
  types_show i j =
      let x = g.name.text in
      let file = g.name.place.file in
      let s₁ = with_name s x (meanings.FunctionType i.number) file in
      let t₁ = with_name t x (meanings.FunctionType j.number) file in
      let k : DeclaresName x (meanings.FunctionType i.number) file s s₁ = named s x (meanings.FunctionType i.number) file a i.undeclared refl (λ n f e. e) (λ n f e. e) a.cleared in
      let l : DeclaresName x (meanings.FunctionType j.number) file t t₁ = named t x (meanings.FunctionType j.number) file b j.undeclared refl (λ n f e. e) (λ n f e. e) b.cleared in
      let first : Names header s₁ u = record { names = λ name m e. i.name.names name header ∙ sym (k.names name header) ∙ e; tags = λ tag n e. i.name.tags tag header ∙ sym (k.tags tag header) ∙ e } in
      let second : Names header t₁ v = record { names = λ name m e. j.name.names name header ∙ sym (l.names name header) ∙ e; tags = λ tag n e. j.name.tags tag header ∙ sym (l.tags tag header) ∙ e } in
      let named₁ : NameTheSame header s₁ t₁ = kinds_named c d k l kinds.function_types (named_same h) in
      let takes = parameters_alike header s₁ t₁ (consists_same k.unit c) (consists_same l.unit d) named₁ (listed g.parameters) (within_same header (files_of_typed (listed g.parameters)) k.unit w.takes) i.takes j.takes (no_locals_alike header s₁ t₁ a.cleared b.cleared) in
      shows_named c d i.name j.name
      (same.function_types i.signed j.signed (record {
        gives = type_grows (name_names i.name) (name_names j.name) (results_alike header s t c d (named_same h) g.«result» w.gives i.gives j.gives);
        takes = types_grow (names_both (plain_names (plain_back (parameters_plain (listed g.parameters) s₁ i.takes))) first) (names_both (plain_names (plain_back (parameters_plain (listed g.parameters) t₁ j.takes))) second) takes;
      }))
      h
