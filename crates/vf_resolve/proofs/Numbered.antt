-- A table by the numbers of files, of which entries are written one after the other.
use Rattle.std.proofs.Common.{◌≡◌, ℕ, zero, suc, ◌+◌, ◌-◌, ◌<◌, ◌≤◌, cond, List, [], ◌∷◌, ◌++◌, length, drop, slice_get, slice_set, Option, Some, None, refl, sym, ap, ◌∙◌, arith}
use Rattle.std.proofs.lemmas.Bool.{eq-eqb, ne_eqb}
use Rattle.vf_snapshot.specs.declared.held.Held.{Held}
use Rattle.vf_snapshot.specs.Holdings.{Holdings}
use Rattle.vf_resolve.specs.UnitFiles.{by_numbers, consists_of, headers_of, with_optional}

-- ---- lists

-- what is left at an item begins with it
left_at : {A : Type 0} (xs : List A) (i : ℕ) (x : A) → slice_get xs i ≡ Some x → drop i xs ≡ x ∷ drop (i + 1) xs
left_at [] i x h = absurd cc
left_at (y ∷ xs) zero x h = let e : y ≡ x = cc in rw e refl
left_at (y ∷ xs) (suc i) x h = let step : suc i + 1 ≡ suc (i + 1) = omega arith in rw step (left_at xs i x h)

-- nothing is left where no item stands
left_none : {A : Type 0} (xs : List A) (i : ℕ) → slice_get xs i ≡ None → drop i xs ≡ []
left_none [] zero h = refl
left_none [] (suc i) h = refl
left_none (x ∷ xs) zero h = absurd cc
left_none (x ∷ xs) (suc i) h = left_none xs i h

-- nothing is left behind the end
left_end : {A : Type 0} (xs : List A) (i : ℕ) → length xs ≤ i → drop i xs ≡ []
left_end [] zero h = refl
left_end [] (suc i) h = refl
left_end (x ∷ xs) zero h = absurd (omega arith)
left_end (x ∷ xs) (suc i) h = left_end xs i (omega arith)

-- no item stands behind one that is not there
none_behind : {A : Type 0} (xs : List A) (i : ℕ) → slice_get xs i ≡ None → drop (i + 1) xs ≡ []
none_behind [] i h = left_end [] (i + 1) (omega arith)
none_behind (x ∷ xs) zero h = absurd cc
none_behind (x ∷ xs) (suc i) h = let step : suc i + 1 ≡ suc (i + 1) = omega arith in rw step (none_behind xs i h)

-- nothing is dropped
drop_none : {A : Type 0} (xs : List A) → drop 0 xs ≡ xs
drop_none [] = refl
drop_none (x ∷ xs) = refl

nothing_behind : {A : Type 0} (xs : List A) → xs ++ [] ≡ xs
nothing_behind [] = refl
nothing_behind (x ∷ xs) = ap (λ ys. x ∷ ys) (nothing_behind xs)

one_by_one : {A : Type 0} (xs : List A) (y : A) (zs : List A) → (xs ++ y ∷ []) ++ zs ≡ xs ++ y ∷ zs
one_by_one [] y zs = refl
one_by_one (x ∷ xs) y zs = ap (λ ys. x ∷ ys) (one_by_one xs y zs)

-- nothing is written past the end
pub set_past : {A : Type 0} (xs : List A) (i : ℕ) (x : A) → length xs ≤ i → slice_set xs i x ≡ xs
set_past [] i x h = refl
set_past (y ∷ xs) zero x h = absurd (omega arith)
set_past (y ∷ xs) (suc i) x h = ap (λ ys. y ∷ ys) (set_past xs i x (omega arith))

-- ---- items by numbers

same_from : {A B : Type 0} (f g : ℕ → B) (s : ℕ) (xs : List A) → ((n : ℕ) → s ≤ n → f n ≡ g n) → by_numbers f s xs ≡ by_numbers g s xs
same_from f g s [] h = refl
same_from f g s (x ∷ xs) h =
    let head : f s ≡ g s = h s (omega arith) in
    let rest : by_numbers f (suc s) xs ≡ by_numbers g (suc s) xs = same_from f g (suc s) xs (λ n l. h n (omega (arith, l))) in
    ap (λ y. y ∷ by_numbers f (suc s) xs) head ∙ ap (λ ys. g s ∷ ys) rest

-- an item that is written is another at its number alone
set_by : {A B : Type 0} (f g : ℕ → B) (s k : ℕ) (y : B) (xs : List A) → g (s + k) ≡ y → ((n : ℕ) → (n ≡ s + k → ⊥) → f n ≡ g n) → slice_set (by_numbers f s xs) k y ≡ by_numbers g s xs
set_by f g s k y [] here there = refl
set_by f g s zero y (x ∷ xs) here there =
    let at : s + 0 ≡ s = omega arith in
    let head : y ≡ g s = sym here ∙ ap g at in
    let rest : by_numbers f (suc s) xs ≡ by_numbers g (suc s) xs = same_from f g (suc s) xs (λ n l. there n (λ e. omega (arith, l, e))) in
    ap (λ z. z ∷ by_numbers f (suc s) xs) head ∙ ap (λ ys. g s ∷ ys) rest
set_by f g s (suc k) y (x ∷ xs) here there =
    let at : suc s + k ≡ s + suc k = omega arith in
    let head : f s ≡ g s = there s (λ e. omega (arith, e)) in
    let rest : slice_set (by_numbers f (suc s) xs) k y ≡ by_numbers g (suc s) xs = set_by f g (suc s) k y xs (ap g at ∙ here) (λ n no. there n (λ e. no (e ∙ sym at))) in
    ap (λ z. z ∷ slice_set (by_numbers f (suc s) xs) k y) head ∙ ap (λ ys. g s ∷ ys) rest

-- ---- the files of which files consist

zero_plus : (n : ℕ) → 0 + n ≡ n
zero_plus n = omega arith

-- an entry more in front
noted : (held : Holdings) (fs : List ℕ) (gss : List (List ℕ)) (n : ℕ) (hs : List ℕ) → slice_set (headers_of fs gss held) n hs ≡ headers_of (n ∷ fs) (hs ∷ gss) held
noted held fs gss n hs = set_by (consists_of fs gss) (consists_of (n ∷ fs) (hs ∷ gss)) 0 n hs held here there
  where
    here : consists_of (n ∷ fs) (hs ∷ gss) (0 + n) ≡ hs
    here = ap (λ b. cond b hs (consists_of fs gss (0 + n))) (eq-eqb (0 + n) n (zero_plus n))

    there : (m : ℕ) → (m ≡ 0 + n → ⊥) → consists_of fs gss m ≡ consists_of (n ∷ fs) (hs ∷ gss) m
    there m apart = sym (ap (λ b. cond b hs (consists_of fs gss m)) (ne_eqb m n (λ e. apart (e ∙ sym (zero_plus n)))))

-- a file beside which nothing stands consists of nothing
nothing_beside : (fs : List ℕ) (n : ℕ) → consists_of fs [] n ≡ []
nothing_beside [] n = refl
nothing_beside (f ∷ fs) n = refl

-- ---- the loop: the last files come first

-- in front of it
pub begun : (old : List (List ℕ)) (held : Holdings) (fs : List ℕ) (gss : List (List ℕ)) → old ≡ headers_of [] [] held → old ≡ headers_of (drop (length fs - 0) fs) (drop (length fs - 0) gss) held
begun old held fs gss e =
    let none : drop (length fs - 0) fs ≡ [] = left_end fs (length fs - 0) (omega arith) in
    e ∙ sym (ap (λ l. headers_of l (drop (length fs - 0) gss) held) none)

-- one entry more, where it is there
entered : (held : Holdings) (fs : List ℕ) (gss : List (List ℕ)) (at : ℕ) (o : Option ℕ) (p : Option (List ℕ)) → slice_get fs at ≡ o → slice_get gss at ≡ p → with_optional (headers_of (drop (at + 1) fs) (drop (at + 1) gss) held) o p ≡ headers_of (drop at fs) (drop at gss) held
entered held fs gss at (Some n) (Some hs) file consists =
    noted held (drop (at + 1) fs) (drop (at + 1) gss) n hs
    ∙ sym (ap (λ l. headers_of l (hs ∷ drop (at + 1) gss) held) (left_at fs at n file))
    ∙ sym (ap (λ l. headers_of (drop at fs) l held) (left_at gss at hs consists))
entered held fs gss at (Some n) None file none =
    ap (λ l. headers_of (drop (at + 1) fs) l held) (none_behind gss at none)
    ∙ same_from (consists_of (drop (at + 1) fs) []) (consists_of (drop at fs) []) 0 held (λ n l. nothing_beside (drop (at + 1) fs) n ∙ sym (nothing_beside (drop at fs) n))
    ∙ sym (ap (λ l. headers_of (drop at fs) l held) (left_none gss at none))
entered held fs gss at None p none consists =
    ap (λ l. headers_of l (drop (at + 1) gss) held) (none_behind fs at none)
    ∙ same_from (consists_of [] (drop (at + 1) gss)) (consists_of [] (drop at gss)) 0 held (λ n l. refl)
    ∙ sym (ap (λ l. headers_of l (drop at gss) held) (left_none fs at none))

-- one file more
pub more : (held : Holdings) (fs : List ℕ) (gss old new : List (List ℕ)) (count done at : ℕ) (o : Option ℕ) (p : Option (List ℕ)) → count ≡ length fs → done < count → at ≡ count - 1 - done → o ≡ slice_get fs at → p ≡ slice_get gss at → old ≡ headers_of (drop (length fs - done) fs) (drop (length fs - done) gss) held → new ≡ with_optional old o p → new ≡ headers_of (drop (length fs - (done + 1)) fs) (drop (length fs - (done + 1)) gss) held
more held fs gss old new count done at o p many less is file consists before after =
    let behind : length fs - done ≡ at + 1 = omega (arith, many, less, is) in
    let here : length fs - (done + 1) ≡ at = omega (arith, many, less, is) in
    after
    ∙ ap (λ t. with_optional t o p) (before ∙ ap (λ k. headers_of (drop k fs) (drop k gss) held) behind)
    ∙ entered held fs gss at o p (sym file) (sym consists)
    ∙ sym (ap (λ k. headers_of (drop k fs) (drop k gss) held) here)

-- behind it
pub ended : (old : List (List ℕ)) (held : Holdings) (fs : List ℕ) (gss : List (List ℕ)) (done : ℕ) → length fs ≤ done → old ≡ headers_of (drop (length fs - done) fs) (drop (length fs - done) gss) held → old ≡ headers_of fs gss held
ended old held fs gss done all e =
    let none : length fs - done ≡ 0 = omega (arith, all) in
    e ∙ ap (λ k. headers_of (drop k fs) (drop k gss) held) none ∙ ap (λ l. headers_of l (drop 0 gss) held) (drop_none fs) ∙ ap (λ l. headers_of fs l held) (drop_none gss)

-- ---- no files for each of some

left_within : {A : Type 0} (xs : List A) (i : ℕ) → i < length xs → (x : A) × (drop i xs ≡ x ∷ drop (i + 1) xs)
left_within {A = A} [] i l = absurd (omega (arith, l))
left_within {A = A} (x ∷ xs) zero l = (x, refl)
left_within {A = A} (x ∷ xs) (suc i) l = again (left_within xs i (omega (arith, l)))
  where
    again : (y : A) × (drop i xs ≡ y ∷ drop (i + 1) xs) → (y : A) × (drop (suc i) (x ∷ xs) ≡ y ∷ drop (suc i + 1) (x ∷ xs))
    again (y, e) = let step : suc i + 1 ≡ suc (i + 1) = omega arith in (y, rw step e)

shifted : (s : ℕ) (xs : Holdings) → by_numbers (consists_of [] []) s xs ≡ by_numbers (consists_of [] []) 0 xs
shifted s xs = moved s 0 xs
  where
    moved : (s t : ℕ) (xs : Holdings) → by_numbers (consists_of [] []) s xs ≡ by_numbers (consists_of [] []) t xs
    moved s t [] = refl
    moved s t (x ∷ xs) = ap (λ ys. [] ∷ ys) (moved (suc s) (suc t) xs)

pub empty_more : (old new whole : List (List ℕ)) (held : Holdings) (i : ℕ) → i < length held → new ≡ old ++ [] ∷ [] → old ++ headers_of [] [] (drop i held) ≡ whole → new ++ headers_of [] [] (drop (i + 1) held) ≡ whole
empty_more old new whole held i l after before = from (left_within held i l)
  where
    from : (x : List ℕ × Held) × (drop i held ≡ x ∷ drop (i + 1) held) → new ++ headers_of [] [] (drop (i + 1) held) ≡ whole
    from (x, e) =
        ap (λ l. l ++ headers_of [] [] (drop (i + 1) held)) after
        ∙ one_by_one old [] (headers_of [] [] (drop (i + 1) held))
        ∙ ap (λ l. old ++ [] ∷ l) (sym (shifted 1 (drop (i + 1) held)))
        ∙ sym (ap (λ l. old ++ headers_of [] [] l) e) ∙ before

pub empty_end : (all whole : List (List ℕ)) (held : Holdings) (i : ℕ) → length held ≤ i → all ++ headers_of [] [] (drop i held) ≡ whole → all ≡ whole
empty_end all whole held i l e = sym (nothing_behind all) ∙ sym (ap (λ xs. all ++ headers_of [] [] xs) (left_end held i l)) ∙ e
