-- Fields, parameters and results that are written in a header are alike in two units.
use Rattle.std.proofs.Common.{◌≡◌, ℕ, zero, suc, Bool, true, ◌&&◌, List, [], ◌∷◌, ◌++◌, is_some, Option, Some, None, Result, Ok, slice_get, refl, sym, ap, subst, ◌∙◌}
use Rattle.std.specs.List.{list_all}
use Rattle.std.proofs.lemmas.Bool.{and_parts}
use Rattle.vf_base.specs.declared.refusal.Refusal.{Refusal}
use Rattle.vf_names.specs.Names.{number_of}
use Rattle.vf_declared.specs.declared.ctype.CType.{CType}
use Rattle.vf_declared.specs.declared.declaration.Fields.{Fields}
use Rattle.vf_declared.specs.declared.locals.Local.{Local}
use Rattle.vf_declared.specs.declared.locals.Local.TheVariants as locals
use Rattle.vf_declared.specs.declared.scope.Scope.{Scope}
use Rattle.vf_declared.specs.Scopes.{at_index, at_name, tag_of}
use Rattle.vf_syntax.specs.declared.item.Typed.{Typed}
use Rattle.vf_syntax.specs.declared.written.ResultType.{ResultType}
use Rattle.vf_syntax.specs.declared.written.ResultType.TheVariants as results
use Rattle.vf_typing.specs.Names.{written_type}
use Rattle.vf_walk.specs.Items.{field_walked, fields_behind, parameters_walked, real_types, result_type, with_field}
use Rattle.vf_walk.specs.Statements.{variable, with_variable}
use Rattle.vf_header_laws.specs.c_names.Parts.{is_part_of}
use Rattle.vf_header_laws.specs.c_names.Same.{AreOneType, both, Both, ConsistsOfHeaders, done, Each, neither, next}
use Rattle.vf_header_laws.specs.c_names.Same as same
use Rattle.vf_header_laws.specs.c_names.Types.{Agree, files_of_type, found, refused, StandsWithin}
use Rattle.vf_header_laws.specs.c_names.Items.{files_of_result, files_of_typed}
use Rattle.vf_header_laws.proofs.c_names.Elsewhere.{consists_same}
use Rattle.vf_header_laws.proofs.c_names.Files.{name_by, OfOneUnit, part_same, shown, tag_unit, unit_by}
use Rattle.vf_header_laws.proofs.c_names.Growing.{both_at, Names, types_grow}
use Rattle.vf_header_laws.proofs.c_names.Plain.{IsPlain, one_plain, variable_is}
use Rattle.vf_header_laws.proofs.c_names.Steps.{apart, ok_same, refused_where, through}
use Rattle.vf_header_laws.proofs.c_names.Types.{NameTheSame, types_agree}

-- ---- lists
pub all_both : {A : Type 0} (t : A → Bool) (xs ys : List A) → list_all t (xs ++ ys) ≡ true → (list_all t xs ≡ true) × (list_all t ys ≡ true)
all_both t [] ys h = (refl, h)
all_both {A} t (x ∷ xs) ys h = let k = and_parts (t x) (list_all t (xs ++ ys)) h in join k.0 (all_both t xs ys k.1)
  where
    join : t x ≡ true → (list_all t xs ≡ true) × (list_all t ys ≡ true) → ((t x && list_all t xs) ≡ true) × (list_all t ys ≡ true)
    join e k = (ap (λ b. b && list_all t xs) e ∙ k.0, k.1)

each_behind : {A B : Type 0} {R : A → B → Type 0} {xs : List A} {ys : List B} {a : A} {b : B} → Each R xs ys → R a b → Each R (xs ++ a ∷ []) (ys ++ b ∷ [])
each_behind done r = next r done
each_behind (next q qs) r = next q (each_behind qs r)

each_get : {A B : Type 0} {R : A → B → Type 0} {xs : List A} {ys : List B} (n : ℕ) → Each R xs ys → Both R (slice_get xs n) (slice_get ys n)
each_get n done = neither
each_get zero (next r rs) = both r
each_get (suc n) (next r rs) = each_get n rs

pub each_named : {A B : Type 0} {R : A → B → Type 0} (names : List (List ℕ)) (xs : List A) (ys : List B) (x : List ℕ) → Each R xs ys → Both R (at_name names xs x) (at_name names ys x)
each_named {A} {B} {R} names xs ys x h = by_number (number_of names x)
  where
    by_number : (o : Option ℕ) → Both R (at_index xs o) (at_index ys o)
    by_number None = neither
    by_number (Some n) = each_get n h

-- ---- types that are found
pub agreed : {A B : Type 0} {R : A → B → Type 0} {a : A} {b : B} (q : Result A Refusal) (r : Result B Refusal) → q ≡ Ok a → r ≡ Ok b → Agree R q r → R a b
agreed {R = R} {a} {b} q r e h (found {a = c} {b = d} k) = subst (λ z. R z b) (ok_same e) (subst (R c) (ok_same h) k)
agreed q r e h refused = absurd (apart e)

-- ---- fields
-- fields of the same names in one file, with types that are the same
pub record FieldsAlike (header : ℕ) (s t : Scope) (fs gs : Fields) : Type 0 where
  pub file : gs.file ≡ fs.file
  pub names : gs.names ≡ fs.names
  pub types : Each (AreOneType header s t) fs.types gs.types

module _ (header : ℕ) (s t : Scope) (c : ConsistsOfHeaders s header) (d : ConsistsOfHeaders t header) (h : NameTheSame header s t) where
  pub fields_alike : {fs gs : Fields} (xs : List Typed) (ps qs : Fields) → StandsWithin s header (files_of_typed xs) → fields_behind s xs ps ≡ Ok fs → fields_behind t xs qs ≡ Ok gs → FieldsAlike header s t ps qs → FieldsAlike header s t fs gs
  fields_alike {fs} {gs} [] ps qs w e i k = subst (λ z. FieldsAlike header s t z gs) (ok_same e) (subst (FieldsAlike header s t ps) (ok_same i) k)
  fields_alike (x ∷ xs) ps qs w e i k =
      let parts = all_both (is_part_of s header) (files_of_type x.written) (files_of_typed xs) w in
      let a = through (fields_behind s xs) (field_walked s x ps) e in
      let b = through (fields_behind t xs) (field_walked t x qs) i in
      let y = through (λ u. with_field x u ps) (written_type s x.written) a.first in
      let z = through (λ u. with_field x u qs) (written_type t x.written) b.first in
      let one = agreed (written_type s x.written) (written_type t x.written) y.first z.first (types_agree header s t c d h x.written parts.0) in
      let first : a.at ≡ record ps { names = ps.names ++ x.name.text ∷ []; types = ps.types ++ y.at ∷ [] } = (refused_where _ _ (is_some (number_of ps.names x.name.text)) y.next).is in
      let second : b.at ≡ record qs { names = qs.names ++ x.name.text ∷ []; types = qs.types ++ z.at ∷ [] } = (refused_where _ _ (is_some (number_of qs.names x.name.text)) z.next).is in
      fields_alike xs a.at b.at parts.1 a.next b.next
      (subst (λ u. FieldsAlike header s t u b.at) (sym first) (subst (FieldsAlike header s t _) (sym second) (record {
        file = k.file;
        names = ap (λ ns. ns ++ x.name.text ∷ []) k.names;
        types = each_behind k.types one;
      })))

  -- ---- what functions give
  pub results_alike : {a b : CType} (r : ResultType) → StandsWithin s header (files_of_result r) → result_type s r ≡ Ok a → result_type t r ≡ Ok b → AreOneType header s t a b
  results_alike {a} {b} (results.Void p) w e i = subst (λ z. AreOneType header s t z b) (ok_same e) (subst (AreOneType header s t _) (ok_same i) same.void)
  results_alike (results.Value x) w e i = agreed (written_type s x) (written_type t x) e i (types_agree header s t c d h x w)

-- ---- parameters
pub plain_shown : {s t : Scope} → IsPlain s t → shown t ≡ shown s
plain_shown h = ap shown h.is

pub plain_back : {s t : Scope} → IsPlain s t → IsPlain t s
plain_back h = record { is = sym h.is }

plain_tag : (s t : Scope) (tag : List ℕ) (from : ℕ) → IsPlain s t → tag_of t tag from ≡ tag_of s tag from
plain_tag s t tag from h = tag_unit s t tag from (unit_by s t (plain_shown h)) (ap (λ (u : Scope). u.tags) h.is) (ap (λ (u : Scope). u.structures) h.is)

pub plain_names : {header : ℕ} {s t : Scope} → IsPlain s t → Names header s t
plain_names {header} {s} {t} h = record {
  names = λ name m e. name_by s t name header (plain_shown h) ∙ e;
  tags = λ tag n e. plain_tag s t tag header h ∙ e;
}

pub plain_named : {header : ℕ} {s t u v : Scope} → IsPlain s u → IsPlain t v → NameTheSame header s t → NameTheSame header u v
plain_named {header} {s} {t} {u} {v} h k r =
    let back : (from : ℕ) → is_part_of u header from ≡ true → is_part_of s header from ≡ true = λ from p. sym (part_same header from (unit_by s u (plain_shown h))) ∙ p in
    record {
      files = λ file p. ap (λ (w : Scope). slice_get w.headers file) h.is ∙ r.files file (back file p) ∙ sym (ap (λ (w : Scope). slice_get w.headers file) k.is);
      names = λ from name p. both_at (name_by s u name from (plain_shown h)) (name_by t v name from (plain_shown k)) (r.names from name (back from p));
      tags = λ from tag p. both_at (plain_tag s u tag from h) (plain_tag t v tag from k) (r.tags from tag (back from p));
    }

types_behind : (ls : List Local) (c : CType) → real_types (ls ++ locals.Real c ∷ []) ≡ real_types ls ++ c ∷ []
types_behind [] c = refl
types_behind (locals.Real u ∷ ls) c = ap (λ ts. u ∷ ts) (types_behind ls c)
types_behind (locals.Ghost g ∷ ls) c = types_behind ls c

-- the types of the locals of C are the same
abbrev pub LocalsAlike : ℕ → Scope → Scope → Type 0
LocalsAlike header s t = Each (AreOneType header s t) (real_types s.locals.meanings) (real_types t.locals.meanings)

pub parameters_alike : {u v : Scope} (header : ℕ) (s t : Scope) → ConsistsOfHeaders s header → ConsistsOfHeaders t header → NameTheSame header s t → (ps : List Typed) → StandsWithin s header (files_of_typed ps) → parameters_walked ps s ≡ Ok u → parameters_walked ps t ≡ Ok v → LocalsAlike header s t → LocalsAlike header u v
parameters_alike {u} {v} header s t c d h [] w e i k = subst (λ z. LocalsAlike header z v) (ok_same e) (subst (LocalsAlike header s) (ok_same i) k)
parameters_alike header s t c d h (p ∷ ps) w e i k =
    let parts = all_both (is_part_of s header) (files_of_type p.written) (files_of_typed ps) w in
    let a = through (parameters_walked ps) (variable p.name p.written s) e in
    let b = through (parameters_walked ps) (variable p.name p.written t) i in
    let y = through (λ x. with_variable p.name x s) (written_type s p.written) a.first in
    let z = through (λ x. with_variable p.name x t) (written_type t p.written) b.first in
    let one = agreed (written_type s p.written) (written_type t p.written) y.first z.first (types_agree header s t c d h p.written parts.0) in
    let first : IsPlain s a.at = one_plain p.name p.written a.first in
    let second : IsPlain t b.at = one_plain p.name p.written b.first in
    let unit : OfOneUnit s a.at = unit_by s a.at (plain_shown first) in
    let there : real_types a.at.locals.meanings ≡ real_types s.locals.meanings ++ y.at ∷ [] = ap (λ (x : Scope). real_types x.locals.meanings) (variable_is s p.name y.at y.next) ∙ types_behind s.locals.meanings y.at in
    let here : real_types b.at.locals.meanings ≡ real_types t.locals.meanings ++ z.at ∷ [] = ap (λ (x : Scope). real_types x.locals.meanings) (variable_is t p.name z.at z.next) ∙ types_behind t.locals.meanings z.at in
    parameters_alike header a.at b.at (consists_same unit c) (consists_same (unit_by t b.at (plain_shown second)) d) (plain_named first second h) ps
    (ap (λ f. list_all f (files_of_typed ps)) (λ j x. part_same header x unit j) ∙ parts.1)
    a.next b.next
    (types_grow (plain_names first) (plain_names second) (subst (λ xs. Each (AreOneType header s t) xs (real_types b.at.locals.meanings)) (sym there) (subst (Each (AreOneType header s t) _) (sym here) (each_behind k one))))
