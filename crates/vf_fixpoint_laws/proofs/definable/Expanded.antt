-- The files of a unit that was expanded see through each other.
use Rattle.std.proofs.Common.{◌≡◌, ◌⊎◌, inl, inr, ⊎_elim, ℕ, zero, suc, ◌+◌, Bool, true, false, ◌||◌, if◌then◌else◌, nat_eq, List, [], ◌∷◌, Some, None, slice_get, refl, sym, ap, subst, ◌∙◌, arith}
use Rattle.std.proofs.lemmas.Bool.{eq-eqb, eqb-true, false≢true}
use Rattle.vf_declared.specs.declared.scope.Scope.{Scope}
use Rattle.vf_declared.specs.Scopes.{has, is_among, sees}
use Rattle.vf_resolve.specs.Beginning.{beginning}
use Rattle.vf_resolve.specs.UnitFiles.{by_numbers, consists_of, files_in, files_of}
use Rattle.vf_header_laws.specs.c_names.Parts.{is_part_of}
use Rattle.vf_header_laws.specs.c_names.Same.{ConsistsOfHeaders}
use Rattle.vf_header_laws.proofs.expanded.Expanded.{expanded_headers_consist_of_headers}
use Rattle.vf_fixpoint_laws.specs.definable.Expanded.{ExpandedFilesSeeThrough}

-- ---- of which files a file consists
-- a file that consists of any is one of those that are listed
consists_listed : (fs : List ℕ) (gss : List (List ℕ)) (n file : ℕ) → has (consists_of fs gss n) file ≡ true → has fs n ≡ true
consists_listed [] gss n file h = absurd (false≢true h)
consists_listed (f ∷ fs) [] n file h = absurd (false≢true h)
consists_listed (f ∷ fs) (gs ∷ gss) n file h = by_test (nat_eq n f) refl h (consists_listed fs gss n file)
  where
    behind : (a b : Bool) → b ≡ true → (a || b) ≡ true
    behind true b h = refl
    behind false b h = h

    by_test : (b : Bool) → nat_eq n f ≡ b → has (if b then gs else consists_of fs gss n) file ≡ true → (has (consists_of fs gss n) file ≡ true → has fs n ≡ true) → (nat_eq f n || has fs n) ≡ true
    by_test true e h k = ap (λ b. b || has fs n) (eq-eqb f n (sym (eqb-true n f e)))
    by_test false e h k = behind (nat_eq f n) (has fs n) (k h)

in_table : {A : Type 0} (f : ℕ → List ℕ) (xs : List A) (k n : ℕ) → (slice_get (by_numbers f k xs) n ≡ None) ⊎ (slice_get (by_numbers f k xs) n ≡ Some (f (k + n)))
in_table f [] k n = inl refl
in_table f (x ∷ xs) k zero = inr (ap (λ m. Some (f m)) (let e : k ≡ k + 0 = omega arith in e))
in_table f (x ∷ xs) k (suc n) = ⊎_elim (λ e. inl e) (λ e. inr (e ∙ ap (λ m. Some (f m)) (let h : suc k + n ≡ k + suc n = omega arith in h))) (in_table f xs (suc k) n)

among_listed : {A : Type 0} (fs : List ℕ) (gss : List (List ℕ)) (xs : List A) (n file : ℕ) → is_among (slice_get (by_numbers (consists_of fs gss) 0 xs) n) file ≡ true → has fs n ≡ true
among_listed fs gss xs n file h =
    ⊎_elim (λ e. absurd (false≢true (ap (λ o. is_among o file) (sym e) ∙ h)))
    (λ e. consists_listed fs gss n file (subst (λ m. has (consists_of fs gss m) file ≡ true) (let k : 0 + n ≡ n = omega arith in k) (ap (λ o. is_among o file) (sym e) ∙ h)))
    (in_table (consists_of fs gss) xs 0 n)

-- ---- files that see each other
either : (a b : Bool) → (a || b) ≡ true → (a ≡ true) ⊎ (b ≡ true)
either true b h = inl refl
either false b h = inr h

neither : {a b : Bool} → a ≡ false → b ≡ false → (a || b) ≡ true → ⊥
neither {b = b} e f h = false≢true (sym (ap (λ a. a || b) e ∙ f) ∙ h)

-- what a file sees that is not the unit's own is a part of it
part_seen : (s : Scope) (from file : ℕ) → nat_eq from s.file ≡ false → sees s from file ≡ true → is_part_of s from file ≡ true
part_seen s from file e h = sym (ap (λ b. b || is_part_of s from file) e) ∙ h

through_header : (s : Scope) (from through file : ℕ) → ConsistsOfHeaders s from → nat_eq from s.file ≡ false → sees s from through ≡ true → sees s through file ≡ true → sees s from file ≡ true
through_header s from through file c d e h =
    let p = part_seen s from through d e in
    let q = part_seen s through file (c.headers through p) h in
    ap (λ b. b || is_part_of s from file) d ∙ c.within through p file q

pub expanded_files_see_through : ExpandedFilesSeeThrough
expanded_files_see_through library path u held xs apart h from through file e f =
    by_own (nat_eq from u.«end».file) refl
  where
    by_itself : nat_eq from u.«end».file ≡ false → has u.headers from ≡ false → (nat_eq from through ≡ true) ⊎ (is_among (slice_get (by_numbers (consists_of (files_in u) u.includes) 0 held) from) through ≡ true) → sees (beginning (files_of u held) xs) from file ≡ true
    by_itself d n (inl i) = subst (λ k. sees (beginning (files_of u held) xs) k file ≡ true) (sym (eqb-true from through i)) f
    by_itself d n (inr i) = absurd (neither (other d) n (among_listed (files_in u) u.includes held from through i))
      where
        other : nat_eq from u.«end».file ≡ false → nat_eq u.«end».file from ≡ false
        other d = by_test (nat_eq u.«end».file from) refl
          where
            by_test : (b : Bool) → nat_eq u.«end».file from ≡ b → b ≡ false
            by_test true j = absurd (false≢true (sym d ∙ eq-eqb from u.«end».file (sym (eqb-true u.«end».file from j))))
            by_test false j = refl

    by_header : nat_eq from u.«end».file ≡ false → (b : Bool) → has u.headers from ≡ b → sees (beginning (files_of u held) xs) from file ≡ true
    by_header d true w = through_header (beginning (files_of u held) xs) from through file (expanded_headers_consist_of_headers library path u held xs from apart h w) d e f
    by_header d false w = by_itself d w (either (nat_eq from through) _ (part_seen (beginning (files_of u held) xs) from through d e))

    by_own : (b : Bool) → nat_eq from u.«end».file ≡ b → sees (beginning (files_of u held) xs) from file ≡ true
    by_own true d = ap (λ b. b || is_part_of (beginning (files_of u held) xs) from file) d
    by_own false d = by_header d (has u.headers from) refl
