-- Names by numbers, of which those of the last declarations come first.
use Rattle.std.proofs.Common.{◌≡◌, ℕ, zero, suc, ◌+◌, ◌-◌, ◌<◌, ◌≤◌, cond, List, [], ◌∷◌, ◌++◌, length, drop, slice_get, slice_set, Some, None, refl, sym, ap, ◌∙◌, arith}
use Rattle.std.proofs.lemmas.Bool.{eq-eqb, ne_eqb}
use Rattle.vf_declared.specs.declared.declaration.Declaration.{Declaration}
use Rattle.vf_declared.specs.declared.scope.Scope.{Scope}
use Rattle.vf_promises.specs.declared.type_names.Named.{Named}
use Rattle.vf_promises.specs.declared.type_names.Named.TheVariants as kinds
use Rattle.vf_promises.specs.TypeNames.{is_number, name_with, named_number, names_behind, values_from}

-- ---- lists

-- what is left at an item begins with it
pub left_at : {A : Type 0} (xs : List A) (i : ℕ) (x : A) → slice_get xs i ≡ Some x → drop i xs ≡ x ∷ drop (i + 1) xs
left_at [] i x h = absurd cc
left_at (y ∷ xs) zero x h = let e : y ≡ x = cc in rw e refl
left_at (y ∷ xs) (suc i) x h = let step : suc i + 1 ≡ suc (i + 1) = omega arith in rw step (left_at xs i x h)

-- nothing is left where no item stands
pub left_none : {A : Type 0} (xs : List A) (i : ℕ) → slice_get xs i ≡ None → drop i xs ≡ []
left_none [] zero h = refl
left_none [] (suc i) h = refl
left_none (x ∷ xs) zero h = absurd cc
left_none (x ∷ xs) (suc i) h = left_none xs i h

-- nothing is left behind the end
pub left_end : {A : Type 0} (xs : List A) (i : ℕ) → length xs ≤ i → drop i xs ≡ []
left_end [] zero h = refl
left_end [] (suc i) h = refl
left_end (x ∷ xs) zero h = absurd (omega arith)
left_end (x ∷ xs) (suc i) h = left_end xs i (omega arith)

-- no item stands behind one that is not there
pub none_behind : {A : Type 0} (xs : List A) (i : ℕ) → slice_get xs i ≡ None → drop (i + 1) xs ≡ []
none_behind [] i h = left_end [] (i + 1) (omega arith)
none_behind (x ∷ xs) zero h = absurd cc
none_behind (x ∷ xs) (suc i) h = let step : suc i + 1 ≡ suc (i + 1) = omega arith in rw step (none_behind xs i h)

-- nothing is written past the end
set_past : {A : Type 0} (xs : List A) (i : ℕ) (x : A) → length xs ≤ i → slice_set xs i x ≡ xs
set_past [] i x h = refl
set_past (y ∷ xs) zero x h = absurd (omega arith)
set_past (y ∷ xs) (suc i) x h = ap (λ ys. y ∷ ys) (set_past xs i x (omega arith))

-- ---- values of a function

same_from : {A : Type 0} (f g : ℕ → A) (s count : ℕ) → ((n : ℕ) → s ≤ n → f n ≡ g n) → values_from f s count ≡ values_from g s count
same_from f g s zero h = refl
same_from f g s (suc count) h =
    let head : f s ≡ g s = h s (omega arith) in
    let rest : values_from f (suc s) count ≡ values_from g (suc s) count = same_from f g (suc s) count (λ n l. h n (omega (arith, l))) in
    ap (λ y. y ∷ values_from f (suc s) count) head ∙ ap (λ ys. g s ∷ ys) rest

-- a value that is written is another at its number alone
set_by : {A : Type 0} (f g : ℕ → A) (s k : ℕ) (y : A) (count : ℕ) → g (s + k) ≡ y → ((n : ℕ) → (n ≡ s + k → ⊥) → f n ≡ g n) → slice_set (values_from f s count) k y ≡ values_from g s count
set_by f g s k y zero here there = refl
set_by f g s zero y (suc count) here there =
    let at : s + 0 ≡ s = omega arith in
    let head : y ≡ g s = sym here ∙ ap g at in
    let rest : values_from f (suc s) count ≡ values_from g (suc s) count = same_from f g (suc s) count (λ n l. there n (λ e. omega (arith, l, e))) in
    ap (λ z. z ∷ values_from f (suc s) count) head ∙ ap (λ ys. g s ∷ ys) rest
set_by f g s (suc k) y (suc count) here there =
    let at : suc s + k ≡ s + suc k = omega arith in
    let head : f s ≡ g s = there s (λ e. omega (arith, e)) in
    let rest : slice_set (values_from f (suc s) count) k y ≡ values_from g (suc s) count = set_by f g (suc s) k y count (ap g at ∙ here) (λ n no. there n (λ e. no (e ∙ sym at))) in
    ap (λ z. z ∷ slice_set (values_from f (suc s) count) k y) head ∙ ap (λ ys. g s ∷ ys) rest

-- one value more at the end
values_more : {A : Type 0} (f : ℕ → A) (s count : ℕ) → values_from f s (count + 1) ≡ values_from f s count ++ f (s + count) ∷ []
values_more f s zero = let at : s + 0 ≡ s = omega arith in ap (λ n. f n ∷ []) (sym at)
values_more f s (suc count) =
    let step : suc count + 1 ≡ suc (count + 1) = omega arith in
    let at : suc s + count ≡ s + suc count = omega arith in
    rw step (ap (λ ys. f s ∷ ys) (values_more f (suc s) count ∙ ap (λ n. values_from f (suc s) count ++ f n ∷ []) at))

-- ---- names of what has a number

zero_plus : (n : ℕ) → 0 + n ≡ n
zero_plus n = omega arith

-- a name in front that means what has a number
put_found : (s : Scope) (k : Named) (xs : List (List ℕ)) (ds : List Declaration) (x : List ℕ) (d : Declaration) (n count : ℕ) → named_number s k d.meaning ≡ Some n → slice_set (names_behind s k xs ds count) n x ≡ names_behind s k (x ∷ xs) (d ∷ ds) count
put_found s k xs ds x d n count is = set_by (name_with s k xs ds) (name_with s k (x ∷ xs) (d ∷ ds)) 0 n x count here there
  where
    here : name_with s k (x ∷ xs) (d ∷ ds) (0 + n) ≡ x
    here = ap (λ o. cond (is_number o (0 + n)) x (name_with s k xs ds (0 + n))) is ∙ ap (λ b. cond b x (name_with s k xs ds (0 + n))) (eq-eqb (0 + n) n (zero_plus n))

    there : (m : ℕ) → (m ≡ 0 + n → ⊥) → name_with s k xs ds m ≡ name_with s k (x ∷ xs) (d ∷ ds) m
    there m apart = sym (ap (λ o. cond (is_number o m) x (name_with s k xs ds m)) is ∙ ap (λ b. cond b x (name_with s k xs ds m)) (ne_eqb m n (λ e. apart (e ∙ sym (zero_plus n)))))

-- a name in front that means nothing of the kind
put_other : (s : Scope) (k : Named) (xs : List (List ℕ)) (ds : List Declaration) (x : List ℕ) (d : Declaration) (count : ℕ) → named_number s k d.meaning ≡ None → names_behind s k xs ds count ≡ names_behind s k (x ∷ xs) (d ∷ ds) count
put_other s k xs ds x d count is = same_from (name_with s k xs ds) (name_with s k (x ∷ xs) (d ∷ ds)) 0 count (λ n l. sym (ap (λ o. cond (is_number o n) x (name_with s k xs ds n)) is))

-- names beside which nothing stands tell nothing
nothing_beside : (s : Scope) (k : Named) (xs : List (List ℕ)) (n : ℕ) → name_with s k xs [] n ≡ []
nothing_beside s k [] n = refl
nothing_beside s k (x ∷ xs) n = refl

-- where no name stands at an index
pub at_no_name : (s : Scope) (k : Named) (xs : List (List ℕ)) (ds : List Declaration) (at count : ℕ) → None ≡ slice_get xs at → names_behind s k (drop (at + 1) xs) (drop (at + 1) ds) count ≡ names_behind s k (drop at xs) (drop at ds) count
at_no_name s k xs ds at count none =
    ap (λ l. names_behind s k l (drop (at + 1) ds) count) (none_behind xs at (sym none))
    ∙ same_from (name_with s k [] (drop (at + 1) ds)) (name_with s k [] (drop at ds)) 0 count (λ n l. refl)
    ∙ sym (ap (λ l. names_behind s k l (drop at ds) count) (left_none xs at (sym none)))

-- where nothing is declared at an index
pub at_no_declaration : (s : Scope) (k : Named) (xs : List (List ℕ)) (ds : List Declaration) (at count : ℕ) → None ≡ slice_get ds at → names_behind s k (drop (at + 1) xs) (drop (at + 1) ds) count ≡ names_behind s k (drop at xs) (drop at ds) count
at_no_declaration s k xs ds at count none =
    ap (λ l. names_behind s k (drop (at + 1) xs) l count) (none_behind ds at (sym none))
    ∙ same_from (name_with s k (drop (at + 1) xs) []) (name_with s k (drop at xs) []) 0 count (λ n l. nothing_beside s k (drop (at + 1) xs) n ∙ sym (nothing_beside s k (drop at xs) n))
    ∙ sym (ap (λ l. names_behind s k (drop at xs) l count) (left_none ds at (sym none)))

-- a name and what it means in front
in_front : (s : Scope) (k : Named) (xs : List (List ℕ)) (ds : List Declaration) (at count : ℕ) (x : List ℕ) (d : Declaration) → slice_get xs at ≡ Some x → slice_get ds at ≡ Some d → names_behind s k (drop at xs) (drop at ds) count ≡ names_behind s k (x ∷ drop (at + 1) xs) (d ∷ drop (at + 1) ds) count
in_front s k xs ds at count x d name declaration =
    ap (λ l. names_behind s k l (drop at ds) count) (left_at xs at x name)
    ∙ ap (λ l. names_behind s k (x ∷ drop (at + 1) xs) l count) (left_at ds at d declaration)

-- the name at an index means nothing of the kind
pub at_other : (s : Scope) (k : Named) (xs : List (List ℕ)) (ds : List Declaration) (at count : ℕ) (x : List ℕ) (d : Declaration) → slice_get xs at ≡ Some x → slice_get ds at ≡ Some d → named_number s k d.meaning ≡ None → names_behind s k (drop (at + 1) xs) (drop (at + 1) ds) count ≡ names_behind s k (drop at xs) (drop at ds) count
at_other s k xs ds at count x d name declaration is = put_other s k (drop (at + 1) xs) (drop (at + 1) ds) x d count is ∙ sym (in_front s k xs ds at count x d name declaration)

-- the name at an index means what has a number, which is written
pub at_found : (s : Scope) (k : Named) (xs : List (List ℕ)) (ds : List Declaration) (at count n : ℕ) (x : List ℕ) (d : Declaration) (old : List (List ℕ)) → slice_get xs at ≡ Some x → slice_get ds at ≡ Some d → named_number s k d.meaning ≡ Some n → old ≡ names_behind s k (drop (at + 1) xs) (drop (at + 1) ds) count → slice_set old n x ≡ names_behind s k (drop at xs) (drop at ds) count
at_found s k xs ds at count n x d old name declaration is before =
    ap (λ l. slice_set l n x) before
    ∙ put_found s k (drop (at + 1) xs) (drop (at + 1) ds) x d n count is
    ∙ sym (in_front s k xs ds at count x d name declaration)

-- the same where there is no place for it
pub at_past : (s : Scope) (k : Named) (xs : List (List ℕ)) (ds : List Declaration) (at count n : ℕ) (x : List ℕ) (d : Declaration) (old : List (List ℕ)) → slice_get xs at ≡ Some x → slice_get ds at ≡ Some d → named_number s k d.meaning ≡ Some n → length old ≤ n → old ≡ names_behind s k (drop (at + 1) xs) (drop (at + 1) ds) count → old ≡ names_behind s k (drop at xs) (drop at ds) count
at_past s k xs ds at count n x d old name declaration is past before = sym (set_past old n x past) ∙ at_found s k xs ds at count n x d old name declaration is before

-- ---- the loops

-- one name more without bytes
pub empty_more : (s : Scope) (old : List (List ℕ)) (count : ℕ) → old ≡ names_behind s kinds.Datatype [] [] count → old ++ [] ∷ [] ≡ names_behind s kinds.Datatype [] [] (count + 1)
empty_more s old count e = ap (λ l. l ++ [] ∷ []) e ∙ sym (values_more (name_with s kinds.Datatype [] []) 0 count)

-- one name more
pub more : (s : Scope) (k : Named) (xs : List (List ℕ)) (ds : List Declaration) (size count done : ℕ) (old new : List (List ℕ)) → size ≡ length xs → done < size
    → ((c : ℕ) → old ≡ names_behind s k (drop (size - 1 - done + 1) xs) (drop (size - 1 - done + 1) ds) c → new ≡ names_behind s k (drop (size - 1 - done) xs) (drop (size - 1 - done) ds) c)
    → old ≡ names_behind s k (drop (length xs - done) xs) (drop (length xs - done) ds) count → new ≡ names_behind s k (drop (length xs - (done + 1)) xs) (drop (length xs - (done + 1)) ds) count
more s k xs ds size count done old new many less step before =
    let behind : length xs - done ≡ size - 1 - done + 1 = omega (arith, many, less) in
    let here : size - 1 - done ≡ length xs - (done + 1) = omega (arith, many, less) in
    step count (before ∙ ap (λ n. names_behind s k (drop n xs) (drop n ds) count) behind) ∙ ap (λ n. names_behind s k (drop n xs) (drop n ds) count) here
