-- Two units in which a header consists of the same files.
use Rattle.std.proofs.Common.{◌≡◌, sym, ap, subst, ◌∙◌, ℕ, Bool, true, false, ◌&&◌, ◌||◌, if◌then◌else◌, nat_eq, List, Option, Some, None, slice_get}
use Rattle.std.specs.List.{list_all}
use Rattle.std.specs.Str.{bytes_eq}
use Rattle.vf_declared.specs.declared.scope.Scope.{Scope}
use Rattle.vf_declared.specs.Scopes.{is_among, sees}
use Rattle.vf_asserting.specs.Cases.{ghost_number}
use Rattle.vf_header_laws.specs.c_names.Parts.{is_part_of}
use Rattle.vf_header_laws.specs.c_names.Same.{both, Both, ConsistsOfHeaders, neither}
use Rattle.vf_header_laws.proofs.c_names.Elsewhere.{consists_same}
use Rattle.vf_header_laws.proofs.c_names.Files.{also, OfOneUnit, part_same}
use Rattle.vf_header_laws.proofs.c_names.Growing.{both_at}
use Rattle.vf_header_laws.proofs.c_names.Inside.{both_or}
use Rattle.vf_header_laws.proofs.c_names.Types.{part_itself}
use Rattle.vf_header_laws.specs.ghost_names.Meaning.{ghost_at}
use Rattle.vf_header_laws.proofs.ghost_names.Declaring.{Adds}
use Rattle.vf_header_laws.proofs.ghost_names.Rest.{IsRest, rest_name, rest_unit}

-- a header consists of headers in two units, and of the same files in both
pub record AreTwo (header : ℕ) (s t : Scope) : Type 0 where
  pub first : ConsistsOfHeaders s header
  pub second : ConsistsOfHeaders t header
  pub files : (file : ℕ) → is_part_of s header file ≡ true → slice_get s.headers file ≡ slice_get t.headers file

pub part_both : {header : ℕ} {s t : Scope} → AreTwo header s t → (file : ℕ) → is_part_of s header file ≡ is_part_of t header file
part_both {header} {s} h file = ap (λ o. nat_eq header file || is_among o file) (h.files header (part_itself s header))

pub two_grow : {header : ℕ} {s t u v : Scope} → OfOneUnit s u → OfOneUnit t v → AreTwo header s t → AreTwo header u v
two_grow {header} h k r = record {
  first = consists_same h r.first;
  second = consists_same k r.second;
  files = λ file p. ap (λ hs. slice_get hs file) h.headers ∙ r.files file (sym (part_same header file h) ∙ p) ∙ sym (ap (λ hs. slice_get hs file) k.headers);
}

pub within_grows : {s t : Scope} (header : ℕ) (files : List ℕ) → OfOneUnit s t → list_all (is_part_of s header) files ≡ true → list_all (is_part_of t header) files ≡ true
within_grows header files h w = ap (λ f. list_all f files) (λ i x. part_same header x h i) ∙ w

-- a file of a header sees the same files in both units
pub sees_both : {header : ℕ} {s t : Scope} (from file : ℕ) → AreTwo header s t → is_part_of s header from ≡ true → sees s from file ≡ sees t from file
sees_both {header} {s} {t} from file h p =
    ap (λ b. b || is_part_of s from file) (h.first.headers from p)
    ∙ ap (λ o. nat_eq from file || is_among o file) (h.files from p)
    ∙ sym (ap (λ b. b || is_part_of t from file) (h.second.headers from (sym (part_both h from) ∙ p)))

-- ---- names
-- from each file of a header, each name means nothing of annotations in both units, or numbers for which a relation holds
abbrev pub NamesAgree : (ℕ → ℕ → Type 0) → ℕ → Scope → Scope → Type 0
NamesAgree R header s t = (file : ℕ) (name : List ℕ) → is_part_of s header file ≡ true → Both R (ghost_at s name file) (ghost_at t name file)

both_if : {R : ℕ → ℕ → Type 0} (n m : ℕ) (b : Bool) → R n m → Both R (if b then Some n else None) (if b then Some m else None)
both_if n m true r = both r
both_if n m false r = neither

-- one more name of a file, with such numbers
pub names_agree : {R : ℕ → ℕ → Type 0} {header file n m : ℕ} {x : List ℕ} {s t u v : Scope} → AreTwo header s t → R n m → Adds x n file s u → Adds x m file t v → NamesAgree R header s t → NamesAgree R header u v
names_agree {R} {header} {file} {n} {m} {x} {s} {t} {u} {v} h r a b k from y p =
    let q : is_part_of s header from ≡ true = sym (part_same header from a.grows.unit) ∙ p in
    both_at (a.names y from) (b.names y from)
    (both_or _ _ (λ i j z. z) (k from y q)
    (subst (λ w. Both R (if bytes_eq y x && w then Some n else None) (also t from file y x m)) (sym (sees_both from file h q)) (both_if n m (bytes_eq y x && sees t from file) r)))

pub names_map : {R Q : ℕ → ℕ → Type 0} (header : ℕ) (s t : Scope) → ((n m : ℕ) → R n m → Q n m) → NamesAgree R header s t → NamesAgree Q header s t
names_map {R} {Q} header s t f k from y p = by_both (k from y p)
  where
    by_both : {o q : Option ℕ} → Both R o q → Both Q o q
    by_both neither = neither
    by_both (both r) = both (f _ _ r)

-- names behind what changes no names
pub rest_agree : {R : ℕ → ℕ → Type 0} {s t u v : Scope} (header : ℕ) → IsRest s u → IsRest t v → NamesAgree R header s t → NamesAgree R header u v
rest_agree {R} {s} {t} {u} {v} header h k r from name p = both_at (ap ghost_number (rest_name name from h)) (ap ghost_number (rest_name name from k)) (r from name (sym (part_same header from (rest_unit h)) ∙ p))
