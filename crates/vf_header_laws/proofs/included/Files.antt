-- Files that are complete, each with the files of which it consists.
use Rattle.std.proofs.Common.{◌≡◌, ◌⊎◌, inl, inr, ⊎_elim, ℕ, zero, suc, Bool, true, false, ◌||◌, if◌then◌else◌, nat_eq, List, [], ◌∷◌, ◌++◌, length, fold, slice_get, slice_set, Option, Some, None, refl, sym, ap, subst, ◌∙◌}
use Rattle.std.proofs.lemmas.Bool.{eq-eqb, eqb-true, false≢true}
use Rattle.vf_preproc.specs.UnitText.{Header, is_among, with_file}

-- ---- files among files
or_none : (b : Bool) → (b || false) ≡ b
or_none true = refl
or_none false = refl

or_regrouped : (a b c : Bool) → (a || (b || c)) ≡ ((a || b) || c)
or_regrouped true b c = refl
or_regrouped false b c = refl

pub or_true : (a b : Bool) → (a || b) ≡ true → (a ≡ true) ⊎ (b ≡ true)
or_true true b h = inl refl
or_true false b h = inr h

pub or_first : (a b : Bool) → a ≡ true → (a || b) ≡ true
or_first true b h = refl
or_first false b h = absurd (false≢true h)

pub or_second : (a b : Bool) → b ≡ true → (a || b) ≡ true
or_second true b h = refl
or_second false b h = h

among_behind : (files : List ℕ) (file other : ℕ) → is_among (files ++ file ∷ []) other ≡ (is_among files other || nat_eq other file)
among_behind [] file other = or_none (nat_eq other file)
among_behind (f ∷ files) file other = ap (λ b. nat_eq other f || b) (among_behind files file other) ∙ or_regrouped (nat_eq other f) (is_among files other) (nat_eq other file)

among_with : (files : List ℕ) (file other : ℕ) → is_among (with_file files file) other ≡ (is_among files other || nat_eq other file)
among_with files file other = by_test (is_among files file) refl
  where
    there : (b : Bool) → nat_eq other file ≡ b → is_among files file ≡ true → is_among files other ≡ (is_among files other || b)
    there true e h =
        let is : is_among files other ≡ true = ap (is_among files) (eqb-true other file e) ∙ h in
        is ∙ sym (ap (λ b. b || true) is)
    there false e h = sym (or_none (is_among files other))

    by_test : (b : Bool) → is_among files file ≡ b → is_among (if b then files else files ++ file ∷ []) other ≡ (is_among files other || nat_eq other file)
    by_test true e = there (nat_eq other file) refl e
    by_test false e = among_behind files file other

pub among_both : (files others : List ℕ) (file : ℕ) → is_among (fold with_file files others) file ≡ (is_among files file || is_among others file)
among_both files [] file = sym (or_none (is_among files file))
among_both files (o ∷ others) file = among_both (with_file files o) others file ∙ ap (λ b. b || is_among others file) (among_with files o file) ∙ sym (or_regrouped (is_among files file) (nat_eq file o) (is_among others file))

pub among_one : (file other : ℕ) → is_among (file ∷ []) other ≡ true → other ≡ file
among_one file other h = eqb-true other file (sym (or_none (nat_eq other file)) ∙ h)

-- ---- complete headers
pub some_same : {A : Type 0} {a b : A} → ◌≡◌ {A = Option A} (Some a) (Some b) → a ≡ b
some_same h = cc

pub none_some : {A B : Type 0} {a : A} → ◌≡◌ {A = Option A} None (Some a) → B
none_some h = absurd cc

-- a file is complete, and consists of some files alone
pub record Done (complete : List (Option Header)) (files : List ℕ) (file : ℕ) : Type 0 where
  pub header : Header
  pub at : slice_get complete file ≡ Some (Some header)
  pub inside : (other : ℕ) → is_among header.files other ≡ true → is_among files other ≡ true

-- each header that is complete consists of such files
abbrev pub IsClosed : List (Option Header) → Type 0
IsClosed complete = (n : ℕ) (header : Header) → slice_get complete n ≡ Some (Some header) → (file : ℕ) → is_among header.files file ≡ true → Done complete header.files file

-- what is complete stays so, and what was begun and is not complete stays so too
abbrev pub Kept : List (Option Header) → List (Option Header) → Type 0
Kept old new = (n : ℕ) (o : Option Header) → slice_get old n ≡ Some o → slice_get new n ≡ Some o

pub done_more : {old new : List (Option Header)} {files more : List ℕ} {file : ℕ} → ((n : ℕ) (header : Header) → slice_get old n ≡ Some (Some header) → slice_get new n ≡ Some (Some header)) → ((other : ℕ) → is_among files other ≡ true → is_among more other ≡ true) → Done old files file → Done new more file
done_more {file = file} k f d = record { header = d.header; at = k file d.header d.at; inside = λ other h. f other (d.inside other h) }

-- a file that is being expanded consists of itself and of such files
abbrev pub IsWithin : List (Option Header) → ℕ → List ℕ → Type 0
IsWithin complete n files = (file : ℕ) → is_among files file ≡ true → (file ≡ n) ⊎ Done complete files file

-- ---- lists
pub get_before : {A : Type 0} (xs zs : List A) (n : ℕ) (y : A) → slice_get xs n ≡ Some y → slice_get (xs ++ zs) n ≡ Some y
get_before [] zs n y e = none_some e
get_before (x ∷ xs) zs zero y e = e
get_before (x ∷ xs) zs (suc n) y e = get_before xs zs n y e

pub get_end : {A : Type 0} (xs : List A) (x : A) → slice_get (xs ++ x ∷ []) (length xs) ≡ Some x
get_end [] x = refl
get_end (y ∷ xs) x = get_end xs x

pub at_end : {A : Type 0} (xs : List A) → slice_get xs (length xs) ≡ None
at_end [] = refl
at_end (x ∷ xs) = at_end xs

-- behind headers stands one that is not complete
pub not_last : (xs : List (Option Header)) (n : ℕ) (header : Header) → slice_get (xs ++ None ∷ []) n ≡ Some (Some header) → slice_get xs n ≡ Some (Some header)
not_last [] zero header e = absurd cc
not_last [] (suc n) header e = none_some e
not_last (x ∷ xs) zero header e = e
not_last (x ∷ xs) (suc n) header e = not_last xs n header e

pub set_same : {A : Type 0} (xs : List A) (n : ℕ) (a b : A) → slice_get xs n ≡ Some a → slice_get (slice_set xs n b) n ≡ Some b
set_same [] n a b e = none_some e
set_same (x ∷ xs) zero a b e = refl
set_same (x ∷ xs) (suc n) a b e = set_same xs n a b e

pub set_other : {A : Type 0} (xs : List A) (n m : ℕ) (b : A) → (m ≡ n → ⊥) → slice_get (slice_set xs n b) m ≡ slice_get xs m
set_other [] n m b d = refl
set_other (x ∷ xs) zero zero b d = absurd (d refl)
set_other (x ∷ xs) zero (suc m) b d = refl
set_other (x ∷ xs) (suc n) zero b d = refl
set_other (x ∷ xs) (suc n) (suc m) b d = set_other xs n m b (λ e. d (ap suc e))

pub length_set : {A : Type 0} (xs : List A) (n : ℕ) (b : A) → length (slice_set xs n b) ≡ length xs
length_set [] n b = refl
length_set (x ∷ xs) zero b = refl
length_set (x ∷ xs) (suc n) b = ap suc (length_set xs n b)

-- ---- a header that becomes complete
module _ (complete : List (Option Header)) (n : ℕ) (header : Header) (closed : IsClosed complete) (begun : slice_get complete n ≡ Some None) (within : IsWithin complete n header.files) where
  other_number : (m : ℕ) (h : Header) → slice_get complete m ≡ Some (Some h) → m ≡ n → ⊥
  other_number m h e is = absurd (apart (some_same (sym begun ∙ sym (ap (slice_get complete) is) ∙ e)))
    where
      apart : ◌≡◌ {A = Option Header} None (Some h) → ⊥
      apart k = cc

  still_complete : (m : ℕ) (h : Header) → slice_get complete m ≡ Some (Some h) → slice_get (slice_set complete n (Some header)) m ≡ Some (Some h)
  still_complete m h e = set_other complete n m (Some header) (other_number m h e) ∙ e

  pub now_within : (file : ℕ) → is_among header.files file ≡ true → Done (slice_set complete n (Some header)) header.files file
  now_within file h = ⊎_elim
      (λ is. record { header = header; at = ap (slice_get (slice_set complete n (Some header))) is ∙ set_same complete n None (Some header) begun; inside = λ other k. k })
      (λ d. done_more still_complete (λ other k. k) d)
      (within file h)

  pub now_closed : IsClosed (slice_set complete n (Some header))
  now_closed m h e file k = by_test (nat_eq m n) refl
    where
      by_test : (b : Bool) → nat_eq m n ≡ b → Done (slice_set complete n (Some header)) h.files file
      by_test true i =
          let is : header ≡ h = header_same (sym (ap (slice_get (slice_set complete n (Some header))) (eqb-true m n i) ∙ set_same complete n None (Some header) begun) ∙ e) in
          subst (λ (x : Header). Done (slice_set complete n (Some header)) x.files file) is (now_within file (ap (λ (x : Header). is_among x.files file) is ∙ k))
        where
          header_same : ◌≡◌ {A = Option (Option Header)} (Some (Some header)) (Some (Some h)) → header ≡ h
          header_same j = some_same (some_same j)
      by_test false i =
          let there = sym (set_other complete n m (Some header) (λ is. false≢true (sym i ∙ eq-eqb m n is))) ∙ e in
          done_more still_complete (λ other j. j) (closed m h there file k)
