-- The table of headers of a unit that was expanded.
use Rattle.std.proofs.Common.{◌≡◌, ◌⊎◌, inl, inr, ⊎_elim, ℕ, zero, suc, ◌+◌, Bool, true, false, ◌||◌, if◌then◌else◌, nat_eq, List, [], ◌∷◌, Some, None, slice_get, refl, sym, ap, subst, ◌∙◌, arith}
use Rattle.std.proofs.lemmas.Bool.{eq-eqb, eqb-true, false≢true}
use Rattle.vf_declared.specs.declared.scope.Scope.{Scope}
use Rattle.vf_declared.specs.Scopes.{has, is_among}
use Rattle.vf_preproc.specs.UnitText as texts
use Rattle.vf_expand.specs.Wholes.{text_of}
use Rattle.vf_header_laws.specs.included.Closed.{AreApart, AreClosed}
use Rattle.vf_header_laws.proofs.included.Units.{files_have_their_own_numbers, headers_are_closed}
use Rattle.vf_resolve.specs.Beginning.{beginning}
use Rattle.vf_resolve.specs.UnitFiles.{by_numbers, consists_of, files_in, files_of}
use Rattle.vf_header_laws.specs.c_names.Parts.{is_part_of}
use Rattle.vf_header_laws.specs.c_names.Same.{ConsistsOfHeaders}
use Rattle.vf_header_laws.specs.expanded.Expanded.{ExpandedHeadersConsistOfHeaders}

-- ---- numbers among numbers
equal_both : (n m : ℕ) → nat_eq n m ≡ nat_eq m n
equal_both n m = by_tests (nat_eq n m) (nat_eq m n) refl refl
  where
    by_tests : (b c : Bool) → nat_eq n m ≡ b → nat_eq m n ≡ c → b ≡ c
    by_tests true true e h = refl
    by_tests false false e h = refl
    by_tests true false e h = absurd (false≢true (sym h ∙ eq-eqb m n (sym (eqb-true n m e))))
    by_tests false true e h = absurd (false≢true (sym e ∙ eq-eqb n m (sym (eqb-true m n h))))

has_among : (xs : List ℕ) (n : ℕ) → has xs n ≡ texts.is_among xs n
has_among [] n = refl
has_among (x ∷ xs) n = λ i. equal_both x n i || has_among xs n i

has_at : (xs : List ℕ) (i n : ℕ) → slice_get xs i ≡ Some n → has xs n ≡ true
has_at [] i n e = absurd cc
has_at (x ∷ xs) zero n e = ap (λ b. b || has xs n) (eq-eqb x n (some_same e))
  where
    some_same : Some x ≡ Some n → x ≡ n
    some_same h = cc
has_at (x ∷ xs) (suc i) n e = behind (nat_eq x n) (has xs n) (has_at xs i n e)
  where
    behind : (a b : Bool) → b ≡ true → (a || b) ≡ true
    behind true b h = refl
    behind false b h = h

-- a number that is not among some is none of them
differs : (xs : List ℕ) (i n m : ℕ) → has xs m ≡ false → slice_get xs i ≡ Some n → nat_eq n m ≡ false
differs xs i n m h e = by_test (nat_eq n m) refl
  where
    by_test : (b : Bool) → nat_eq n m ≡ b → b ≡ false
    by_test true k = absurd (false≢true (sym h ∙ ap (has xs) (sym (eqb-true n m k)) ∙ has_at xs i n e))
    by_test false k = refl

-- where a number stands
record StandsAt (xs : List ℕ) (n : ℕ) : Type 0 where
  index : ℕ
  at : slice_get xs index ≡ Some n

stands_at : (xs : List ℕ) (n : ℕ) → has xs n ≡ true → StandsAt xs n
stands_at [] n h = absurd (false≢true h)
stands_at (x ∷ xs) n h = by_test (nat_eq x n) refl h (stands_at xs n)
  where
    by_test : (b : Bool) → nat_eq x n ≡ b → (b || has xs n) ≡ true → (has xs n ≡ true → StandsAt xs n) → StandsAt (x ∷ xs) n
    by_test true e h k = record { index = 0; at = ap Some (eqb-true x n e) }
    by_test false e h k = let r = k h in record { index = suc r.index; at = r.at }

-- no number stands twice among some
abbrev Differ : List ℕ → Type 0
Differ [] = Unit {0}
Differ (n ∷ ns) = (has ns n ≡ false) × Differ ns

all_differ : (ns : List ℕ) → AreApart ns → Differ ns
all_differ [] a = tt
all_differ (n ∷ ns) a = (by_test (has ns n) refl, all_differ ns (λ i j m e h. less i j (a (suc i) (suc j) m e h)))
  where
    less : (i j : ℕ) → suc i ≡ suc j → i ≡ j
    less i j e = grind (arith, e)

    no : (i : ℕ) → suc i ≡ 0 → ⊥
    no i e = grind (arith, e)

    by_test : (b : Bool) → has ns n ≡ b → b ≡ false
    by_test true e = let r = stands_at ns n e in absurd (no r.index (a (suc r.index) 0 n r.at refl))
    by_test false e = refl

-- ---- of which files a file consists
-- where the files stand of which it consists
record Beside (fs : List ℕ) (gss : List (List ℕ)) (n : ℕ) : Type 0 where
  index : ℕ
  number : slice_get fs index ≡ Some n
  files : slice_get gss index ≡ Some (consists_of fs gss n)

beside_of : (fs : List ℕ) (gss : List (List ℕ)) (n file : ℕ) → has (consists_of fs gss n) file ≡ true → Beside fs gss n
beside_of [] gss n file h = absurd (false≢true h)
beside_of (f ∷ fs) [] n file h = absurd (false≢true h)
beside_of (f ∷ fs) (gs ∷ gss) n file h = by_test (nat_eq n f) refl h (beside_of fs gss n file)
  where
    by_test : (b : Bool) → nat_eq n f ≡ b → has (if b then gs else consists_of fs gss n) file ≡ true → (has (consists_of fs gss n) file ≡ true → Beside fs gss n) → Beside (f ∷ fs) (gs ∷ gss) n
    by_test true e h k = record { index = 0; number = ap Some (sym (eqb-true n f e)); files = ap (λ b. Some (if b then gs else consists_of fs gss n)) (sym e) }
    by_test false e h k = let r = k h in record { index = suc r.index; number = r.number; files = r.files ∙ ap (λ b. Some (if b then gs else consists_of fs gss n)) (sym e) }

consists_at : (fs : List ℕ) (gss : List (List ℕ)) (i n : ℕ) (own : List ℕ) → Differ fs → slice_get fs i ≡ Some n → slice_get gss i ≡ Some own → consists_of fs gss n ≡ own
consists_at [] gss i n own a e h = absurd cc
consists_at (f ∷ fs) [] i n own a e h = absurd cc
consists_at (f ∷ fs) (gs ∷ gss) zero n own a e h = ap (λ b. if b then gs else consists_of fs gss n) (eq-eqb n f (number e)) ∙ list h
  where
    number : Some f ≡ Some n → n ≡ f
    number k = cc

    list : Some gs ≡ Some own → gs ≡ own
    list k = cc
consists_at (f ∷ fs) (gs ∷ gss) (suc i) n own a e h = ap (λ b. if b then gs else consists_of fs gss n) (differs fs i n f a.0 e) ∙ consists_at fs gss i n own a.1 e h

-- ---- the headers of a unit
-- a file of which a header consists is not the unit's own, and consists of no others
record Inner (own : ℕ) (files : ℕ → List ℕ) (header file : ℕ) : Type 0 where
  other : nat_eq file own ≡ false
  inside : (k : ℕ) → has (files file) k ≡ true → has (files header) k ≡ true

inner : (own : ℕ) (headers gs : List ℕ) (others : List (List ℕ)) (header file : ℕ) → Differ (own ∷ headers) → AreClosed headers others → nat_eq header own ≡ false → has (consists_of (own ∷ headers) (gs ∷ others) header) file ≡ true → Inner own (consists_of (own ∷ headers) (gs ∷ others)) header file
inner own headers gs others header file a c d h =
    let there : has (consists_of headers others header) file ≡ true = ap (λ fs. has fs file) (sym (ap (λ b. if b then gs else consists_of headers others header) d)) ∙ h in
    let b = beside_of headers others header file there in
    let r = c b.index (consists_of headers others header) b.files file (sym (has_among (consists_of headers others header) file) ∙ there) in
    let apart = differs headers r.index file own a.0 r.number in
    let is : consists_of (own ∷ headers) (gs ∷ others) file ≡ r.own = ap (λ b. if b then gs else consists_of headers others file) apart ∙ consists_at headers others r.index file r.own a.1 r.number r.beside in
    record {
      other = apart;
      inside = λ k i.
          ap (λ fs. has fs k) (ap (λ b. if b then gs else consists_of headers others header) d)
          ∙ has_among (consists_of headers others header) k
          ∙ r.inside k (sym (has_among r.own k) ∙ ap (λ fs. has fs k) (sym is) ∙ i);
    }

-- ---- the table by the numbers of files
in_table : {A : Type 0} (f : ℕ → List ℕ) (xs : List A) (k n : ℕ) → (slice_get (by_numbers f k xs) n ≡ None) ⊎ (slice_get (by_numbers f k xs) n ≡ Some (f (k + n)))
in_table f [] k n = inl refl
in_table f (x ∷ xs) k zero = inr (ap (λ m. Some (f m)) (let e : k ≡ k + 0 = omega arith in e))
in_table f (x ∷ xs) k (suc n) = ⊎_elim (λ e. inl e) (λ e. inr (e ∙ ap (λ m. Some (f m)) (let h : suc k + n ≡ k + suc n = omega arith in h))) (in_table f xs (suc k) n)

module _ (s : Scope) (files : ℕ → List ℕ) (table : (n : ℕ) → (slice_get s.headers n ≡ None) ⊎ (slice_get s.headers n ≡ Some (files n))) where
  -- what is in the table
  listed : (n file : ℕ) → is_among (slice_get s.headers n) file ≡ true → (slice_get s.headers n ≡ Some (files n)) × (has (files n) file ≡ true)
  listed n file h = ⊎_elim (λ e. absurd (false≢true (ap (λ o. is_among o file) (sym e) ∙ h))) (λ e. (e, ap (λ o. is_among o file) (sym e) ∙ h)) (table n)

  either : (a b : Bool) → (a || b) ≡ true → (a ≡ true) ⊎ (b ≡ true)
  either true b h = inl refl
  either false b h = inr h

  behind : (a b : Bool) → b ≡ true → (a || b) ≡ true
  behind true b h = refl
  behind false b h = h

  consist : (header : ℕ) → nat_eq header s.file ≡ false → ((file : ℕ) → has (files header) file ≡ true → Inner s.file files header file) → ConsistsOfHeaders s header
  consist header d f = record {
    headers = λ file p. ⊎_elim
        (λ e. ap (λ n. nat_eq n s.file) (sym (eqb-true header file e)) ∙ d)
        (λ e. (f file (listed header file e).1).other)
        (either (nat_eq header file) (is_among (slice_get s.headers header) file) p);
    within = λ file p. ⊎_elim
        (λ e k q. subst (λ n. is_part_of s n k ≡ true) (sym (eqb-true header file e)) q)
        (λ e k q.
        let l = listed header file e in
        behind (nat_eq header k) (is_among (slice_get s.headers header) k) (⊎_elim
        (λ j. subst (λ n. is_among (slice_get s.headers header) n ≡ true) (eqb-true file k j) e)
        (λ j. ap (λ o. is_among o k) l.0 ∙ (f file l.1).inside k (listed file k j).1)
        (either (nat_eq file k) (is_among (slice_get s.headers file) k) q)))
        (either (nat_eq header file) (is_among (slice_get s.headers header) file) p);
  }

-- ---- a unit that was expanded
pub expanded_headers_consist_of_headers : ExpandedHeadersConsistOfHeaders
expanded_headers_consist_of_headers library path u held xs header apart h w =
    let a : Differ (files_in u) = all_differ (files_in u) (files_have_their_own_numbers library path (text_of u) apart h) in
    let b = stands_at u.headers header w in
    let own = u.«end».file in
    let table = λ (n : ℕ). subst (λ m. (slice_get (by_numbers (consists_of (files_in u) u.includes) 0 held) n ≡ None) ⊎ (slice_get (by_numbers (consists_of (files_in u) u.includes) 0 held) n ≡ Some (consists_of (files_in u) u.includes m))) (let e : 0 + n ≡ n = omega arith in e) (in_table (consists_of (files_in u) u.includes) held 0 n) in
    let d = differs u.headers b.index header own a.0 b.at in
    consist (beginning (files_of u held) xs) (consists_of (files_in u) u.includes) table header d (by_includes a u.includes refl d)
  where
    by_includes : Differ (files_in u) → (gss : List (List ℕ)) → u.includes ≡ gss → nat_eq header u.«end».file ≡ false → (file : ℕ) → has (consists_of (files_in u) u.includes header) file ≡ true → Inner u.«end».file (consists_of (files_in u) u.includes) header file
    by_includes a [] e d file i = absurd (false≢true (ap (λ gss. has (consists_of (files_in u) gss header) file) (sym e) ∙ i))
    by_includes a (gs ∷ others) e d file i =
        subst (λ gss. Inner u.«end».file (consists_of (files_in u) gss) header file) (sym e)
        (inner u.«end».file u.headers gs others header file a (headers_are_closed library path (text_of u) gs others h e) d (ap (λ gss. has (consists_of (files_in u) gss header) file) (sym e) ∙ i))
