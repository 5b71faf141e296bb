-- Identities by numbers, of which those of the last names come first.
use Rattle.std.proofs.Common.{◌≡◌, ℕ, zero, suc, ◌+◌, ◌-◌, ◌<◌, ◌≤◌, cond, List, [], ◌∷◌, ◌++◌, length, drop, slice_get, slice_set, Some, None, option_map, option_to_list, refl, sym, ap, ◌∙◌, append_assoc, arith}
use Rattle.std.proofs.lemmas.Bool.{eq-eqb, ne_eqb}
use Rattle.vf_tree.specs.Core.{Identity, StructTree}
use Rattle.vf_steps.specs.Core.{Identities}
use Rattle.vf_declared.specs.declared.declaration.Declaration.{Declaration}
use Rattle.vf_declared.specs.declared.declaration.Structure.{Structure}
use Rattle.vf_terms.specs.Named.{identity_of}
use Rattle.vf_plain.specs.declared.names.Named.{Named}
use Rattle.vf_plain.specs.declared.names.Named.TheVariants as kinds
use Rattle.vf_plain.specs.Units.{struct_tree, structs_from}
use Rattle.vf_plain.specs.Identities.{identities_behind, identity_with, is_number, named_number, tag_identities, values_from}

-- ---- lists

-- what is left at an item begins with it
pub left_at : {A : Type 0} (xs : List A) (i : ℕ) (x : A) → slice_get xs i ≡ Some x → drop i xs ≡ x ∷ drop (i + 1) xs
left_at [] i x h = absurd cc
left_at (y ∷ xs) zero x h = let e : y ≡ x = cc in rw e refl
left_at (y ∷ xs) (suc i) x h = let step : suc i + 1 ≡ suc (i + 1) = omega arith in rw step (left_at xs i x h)

-- nothing is left where no item stands
pub left_none : {A : Type 0} (xs : List A) (i : ℕ) → slice_get xs i ≡ None → drop i xs ≡ []
left_none [] zero h = refl
left_none [] (suc i) h = refl
left_none (x ∷ xs) zero h = absurd cc
left_none (x ∷ xs) (suc i) h = left_none xs i h

-- nothing is left behind the end
pub left_end : {A : Type 0} (xs : List A) (i : ℕ) → length xs ≤ i → drop i xs ≡ []
left_end [] zero h = refl
left_end [] (suc i) h = refl
left_end (x ∷ xs) zero h = absurd (omega arith)
left_end (x ∷ xs) (suc i) h = left_end xs i (omega arith)

-- no item stands behind one that is not there
pub none_behind : {A : Type 0} (xs : List A) (i : ℕ) → slice_get xs i ≡ None → drop (i + 1) xs ≡ []
none_behind [] i h = left_end [] (i + 1) (omega arith)
none_behind (x ∷ xs) zero h = absurd cc
none_behind (x ∷ xs) (suc i) h = let step : suc i + 1 ≡ suc (i + 1) = omega arith in rw step (none_behind xs i h)

-- nothing is written past the end
set_past : {A : Type 0} (xs : List A) (i : ℕ) (x : A) → length xs ≤ i → slice_set xs i x ≡ xs
set_past [] i x h = refl
set_past (y ∷ xs) zero x h = absurd (omega arith)
set_past (y ∷ xs) (suc i) x h = ap (λ ys. y ∷ ys) (set_past xs i x (omega arith))

-- ---- values of a function

same_from : {A : Type 0} (f g : ℕ → A) (s count : ℕ) → ((n : ℕ) → s ≤ n → f n ≡ g n) → values_from f s count ≡ values_from g s count
same_from f g s zero h = refl
same_from f g s (suc count) h =
    let head : f s ≡ g s = h s (omega arith) in
    let rest : values_from f (suc s) count ≡ values_from g (suc s) count = same_from f g (suc s) count (λ n l. h n (omega (arith, l))) in
    ap (λ y. y ∷ values_from f (suc s) count) head ∙ ap (λ ys. g s ∷ ys) rest

-- a value that is written is another at its number alone
set_by : {A : Type 0} (f g : ℕ → A) (s k : ℕ) (y : A) (count : ℕ) → g (s + k) ≡ y → ((n : ℕ) → (n ≡ s + k → ⊥) → f n ≡ g n) → slice_set (values_from f s count) k y ≡ values_from g s count
set_by f g s k y zero here there = refl
set_by f g s zero y (suc count) here there =
    let at : s + 0 ≡ s = omega arith in
    let head : y ≡ g s = sym here ∙ ap g at in
    let rest : values_from f (suc s) count ≡ values_from g (suc s) count = same_from f g (suc s) count (λ n l. there n (λ e. omega (arith, l, e))) in
    ap (λ z. z ∷ values_from f (suc s) count) head ∙ ap (λ ys. g s ∷ ys) rest
set_by f g s (suc k) y (suc count) here there =
    let at : suc s + k ≡ s + suc k = omega arith in
    let head : f s ≡ g s = there s (λ e. omega (arith, e)) in
    let rest : slice_set (values_from f (suc s) count) k y ≡ values_from g (suc s) count = set_by f g (suc s) k y count (ap g at ∙ here) (λ n no. there n (λ e. no (e ∙ sym at))) in
    ap (λ z. z ∷ slice_set (values_from f (suc s) count) k y) head ∙ ap (λ ys. g s ∷ ys) rest

-- as many values as a count says
length-values : {A : Type 0} (f : ℕ → A) (s count : ℕ) → length (values_from f s count) ≡ count
length-values f s zero = refl
length-values f s (suc count) = ap suc (length-values f (suc s) count)

-- one value more at the end
values_more : {A : Type 0} (f : ℕ → A) (s count : ℕ) → values_from f s (count + 1) ≡ values_from f s count ++ f (s + count) ∷ []
values_more f s zero = let at : s + 0 ≡ s = omega arith in ap (λ n. f n ∷ []) (sym at)
values_more f s (suc count) =
    let step : suc count + 1 ≡ suc (count + 1) = omega arith in
    let at : suc s + count ≡ s + suc count = omega arith in
    rw step (ap (λ ys. f s ∷ ys) (values_more f (suc s) count ∙ ap (λ n. values_from f (suc s) count ++ f n ∷ []) at))

-- ---- identities by declared names

zero_plus : (n : ℕ) → 0 + n ≡ n
zero_plus n = omega arith

-- a name in front that means what has a number
put_found : (k : Named) (paths xs : List (List ℕ)) (ds : List Declaration) (x : List ℕ) (d : Declaration) (n count : ℕ) → named_number k d.meaning ≡ Some n → slice_set (identities_behind k paths xs ds count) n (identity_of paths d.files x) ≡ identities_behind k paths (x ∷ xs) (d ∷ ds) count
put_found k paths xs ds x d n count is = set_by (identity_with k paths xs ds) (identity_with k paths (x ∷ xs) (d ∷ ds)) 0 n (identity_of paths d.files x) count here there
  where
    here : identity_with k paths (x ∷ xs) (d ∷ ds) (0 + n) ≡ identity_of paths d.files x
    here = ap (λ o. cond (is_number o (0 + n)) (identity_of paths d.files x) (identity_with k paths xs ds (0 + n))) is ∙ ap (λ b. cond b (identity_of paths d.files x) (identity_with k paths xs ds (0 + n))) (eq-eqb (0 + n) n (zero_plus n))

    there : (m : ℕ) → (m ≡ 0 + n → ⊥) → identity_with k paths xs ds m ≡ identity_with k paths (x ∷ xs) (d ∷ ds) m
    there m apart = sym (ap (λ o. cond (is_number o m) (identity_of paths d.files x) (identity_with k paths xs ds m)) is ∙ ap (λ b. cond b (identity_of paths d.files x) (identity_with k paths xs ds m)) (ne_eqb m n (λ e. apart (e ∙ sym (zero_plus n)))))

-- a name in front that means nothing of the kind
put_other : (k : Named) (paths xs : List (List ℕ)) (ds : List Declaration) (x : List ℕ) (d : Declaration) (count : ℕ) → named_number k d.meaning ≡ None → identities_behind k paths xs ds count ≡ identities_behind k paths (x ∷ xs) (d ∷ ds) count
put_other k paths xs ds x d count is = same_from (identity_with k paths xs ds) (identity_with k paths (x ∷ xs) (d ∷ ds)) 0 count (λ n l. sym (ap (λ o. cond (is_number o n) (identity_of paths d.files x) (identity_with k paths xs ds n)) is))

-- names beside which nothing stands tell nothing
nothing_beside : (k : Named) (paths xs : List (List ℕ)) (n : ℕ) → identity_with k paths xs [] n ≡ []
nothing_beside k paths [] n = refl
nothing_beside k paths (x ∷ xs) n = refl

-- where no name stands at an index
pub at_no_name : (k : Named) (paths xs : List (List ℕ)) (ds : List Declaration) (at count : ℕ) → None ≡ slice_get xs at → identities_behind k paths (drop (at + 1) xs) (drop (at + 1) ds) count ≡ identities_behind k paths (drop at xs) (drop at ds) count
at_no_name k paths xs ds at count none =
    ap (λ l. identities_behind k paths l (drop (at + 1) ds) count) (none_behind xs at (sym none))
    ∙ same_from (identity_with k paths [] (drop (at + 1) ds)) (identity_with k paths [] (drop at ds)) 0 count (λ n l. refl)
    ∙ sym (ap (λ l. identities_behind k paths l (drop at ds) count) (left_none xs at (sym none)))

-- where nothing is declared at an index
pub at_no_declaration : (k : Named) (paths xs : List (List ℕ)) (ds : List Declaration) (at count : ℕ) → None ≡ slice_get ds at → identities_behind k paths (drop (at + 1) xs) (drop (at + 1) ds) count ≡ identities_behind k paths (drop at xs) (drop at ds) count
at_no_declaration k paths xs ds at count none =
    ap (λ l. identities_behind k paths (drop (at + 1) xs) l count) (none_behind ds at (sym none))
    ∙ same_from (identity_with k paths (drop (at + 1) xs) []) (identity_with k paths (drop at xs) []) 0 count (λ n l. nothing_beside k paths (drop (at + 1) xs) n ∙ sym (nothing_beside k paths (drop at xs) n))
    ∙ sym (ap (λ l. identities_behind k paths (drop at xs) l count) (left_none ds at (sym none)))

-- a name and what it means in front
in_front : (k : Named) (paths xs : List (List ℕ)) (ds : List Declaration) (at count : ℕ) (x : List ℕ) (d : Declaration) → slice_get xs at ≡ Some x → slice_get ds at ≡ Some d → identities_behind k paths (drop at xs) (drop at ds) count ≡ identities_behind k paths (x ∷ drop (at + 1) xs) (d ∷ drop (at + 1) ds) count
in_front k paths xs ds at count x d name declaration =
    ap (λ l. identities_behind k paths l (drop at ds) count) (left_at xs at x name)
    ∙ ap (λ l. identities_behind k paths (x ∷ drop (at + 1) xs) l count) (left_at ds at d declaration)

-- the name at an index means nothing of the kind
pub at_other : (k : Named) (paths xs : List (List ℕ)) (ds : List Declaration) (at count : ℕ) (x : List ℕ) (d : Declaration) → slice_get xs at ≡ Some x → slice_get ds at ≡ Some d → named_number k d.meaning ≡ None → identities_behind k paths (drop (at + 1) xs) (drop (at + 1) ds) count ≡ identities_behind k paths (drop at xs) (drop at ds) count
at_other k paths xs ds at count x d name declaration is = put_other k paths (drop (at + 1) xs) (drop (at + 1) ds) x d count is ∙ sym (in_front k paths xs ds at count x d name declaration)

-- the name at an index means what has a number, whose identity is written
pub at_found : (k : Named) (paths xs : List (List ℕ)) (ds : List Declaration) (at count n : ℕ) (x : List ℕ) (d : Declaration) (old : List Identity) → slice_get xs at ≡ Some x → slice_get ds at ≡ Some d → named_number k d.meaning ≡ Some n → old ≡ identities_behind k paths (drop (at + 1) xs) (drop (at + 1) ds) count → slice_set old n (identity_of paths d.files x) ≡ identities_behind k paths (drop at xs) (drop at ds) count
at_found k paths xs ds at count n x d old name declaration is before =
    ap (λ l. slice_set l n (identity_of paths d.files x)) before
    ∙ put_found k paths (drop (at + 1) xs) (drop (at + 1) ds) x d n count is
    ∙ sym (in_front k paths xs ds at count x d name declaration)

-- the same where there is no place for it
pub at_past : (k : Named) (paths xs : List (List ℕ)) (ds : List Declaration) (at count n : ℕ) (x : List ℕ) (d : Declaration) (old : List Identity) → slice_get xs at ≡ Some x → slice_get ds at ≡ Some d → named_number k d.meaning ≡ Some n → length old ≤ n → old ≡ identities_behind k paths (drop (at + 1) xs) (drop (at + 1) ds) count → old ≡ identities_behind k paths (drop at xs) (drop at ds) count
at_past k paths xs ds at count n x d old name declaration is past before = sym (set_past old n (identity_of paths d.files x) past) ∙ at_found k paths xs ds at count n x d old name declaration is before

-- ---- the loops

-- one text more without bytes
pub empty_more : (old : List Identity) (count : ℕ) → old ≡ identities_behind kinds.Function [] [] [] count → old ++ [] ∷ [] ≡ identities_behind kinds.Function [] [] [] (count + 1)
empty_more old count e = ap (λ l. l ++ [] ∷ []) e ∙ sym (values_more (identity_with kinds.Function [] [] []) 0 count)

-- in front of the loop over names
pub begun : (k : Named) (paths xs : List (List ℕ)) (ds : List Declaration) (count : ℕ) (old : List Identity) → old ≡ identities_behind kinds.Function [] [] [] count → old ≡ identities_behind k paths (drop (length xs - 0) xs) (drop (length xs - 0) ds) count
begun k paths xs ds count old e =
    let none : drop (length xs - 0) xs ≡ [] = left_end xs (length xs - 0) (omega arith) in
    e ∙ same_from (identity_with kinds.Function [] [] []) (identity_with k paths [] (drop (length xs - 0) ds)) 0 count (λ n l. refl)
    ∙ sym (ap (λ l. identities_behind k paths l (drop (length xs - 0) ds) count) none)

drop_none : {A : Type 0} (xs : List A) → drop 0 xs ≡ xs
drop_none [] = refl
drop_none (x ∷ xs) = refl

-- one name more
pub more : (k : Named) (paths xs : List (List ℕ)) (ds : List Declaration) (size count done : ℕ) (old new : List Identity) → size ≡ length xs → done < size
    → ((c : ℕ) → old ≡ identities_behind k paths (drop (size - 1 - done + 1) xs) (drop (size - 1 - done + 1) ds) c → new ≡ identities_behind k paths (drop (size - 1 - done) xs) (drop (size - 1 - done) ds) c)
    → old ≡ identities_behind k paths (drop (length xs - done) xs) (drop (length xs - done) ds) count → new ≡ identities_behind k paths (drop (length xs - (done + 1)) xs) (drop (length xs - (done + 1)) ds) count
more k paths xs ds size count done old new many less step before =
    let behind : length xs - done ≡ size - 1 - done + 1 = omega (arith, many, less) in
    let here : size - 1 - done ≡ length xs - (done + 1) = omega (arith, many, less) in
    step count (before ∙ ap (λ n. identities_behind k paths (drop n xs) (drop n ds) count) behind) ∙ ap (λ n. identities_behind k paths (drop n xs) (drop n ds) count) here

-- behind the loop
pub ended : (k : Named) (paths xs : List (List ℕ)) (ds : List Declaration) (count done : ℕ) (old : List Identity) → length xs ≤ done → old ≡ identities_behind k paths (drop (length xs - done) xs) (drop (length xs - done) ds) count → old ≡ identities_behind k paths xs ds count
ended k paths xs ds count done old all e =
    let none : length xs - done ≡ 0 = omega (arith, all) in
    e ∙ ap (λ n. identities_behind k paths (drop n xs) (drop n ds) count) none ∙ ap (λ l. identities_behind k paths l (drop 0 ds) count) (drop_none xs) ∙ ap (λ l. identities_behind k paths xs l count) (drop_none ds)

-- ---- structs

nothing_more : {A : Type 0} (xs : List A) → xs ++ [] ≡ xs
nothing_more [] = refl
nothing_more (x ∷ xs) = ap (λ ys. x ∷ ys) (nothing_more xs)

one_by_one : {A : Type 0} (xs : List A) (y : A) (zs : List A) → (xs ++ y ∷ []) ++ zs ≡ xs ++ y ∷ zs
one_by_one [] y zs = refl
one_by_one (x ∷ xs) y zs = ap (λ ys. x ∷ ys) (one_by_one xs y zs)

-- tags beside which no struct stands have no identities
no_structs : (paths xs : List (List ℕ)) → tag_identities paths xs [] ≡ []
no_structs paths [] = refl
no_structs paths (x ∷ xs) = refl

-- one struct more
pub tag_more : (paths xs : List (List ℕ)) (ss : List Structure) (at : ℕ) (x : List ℕ) (s : Structure) (old whole : List Identity) → slice_get xs at ≡ Some x → slice_get ss at ≡ Some s → old ++ tag_identities paths (drop at xs) (drop at ss) ≡ whole → (old ++ identity_of paths s.files x ∷ []) ++ tag_identities paths (drop (at + 1) xs) (drop (at + 1) ss) ≡ whole
tag_more paths xs ss at x s old whole tag structure before =
    one_by_one old (identity_of paths s.files x) _
    ∙ sym (ap (λ l. old ++ tag_identities paths l (s ∷ drop (at + 1) ss)) (left_at xs at x tag))
    ∙ sym (ap (λ l. old ++ tag_identities paths (drop at xs) l) (left_at ss at s structure))
    ∙ before

-- no tag is left
pub tag_none : (paths xs : List (List ℕ)) (ss : List Structure) (at : ℕ) (old whole : List Identity) → None ≡ slice_get xs at → old ++ tag_identities paths (drop at xs) (drop at ss) ≡ whole → old ≡ whole
tag_none paths xs ss at old whole none before = sym (nothing_more old) ∙ sym (ap (λ l. old ++ tag_identities paths l (drop at ss)) (left_none xs at (sym none))) ∙ before

-- no struct is left
pub tag_end : (paths xs : List (List ℕ)) (ss : List Structure) (at : ℕ) (old whole : List Identity) → length ss ≤ at → old ++ tag_identities paths (drop at xs) (drop at ss) ≡ whole → old ≡ whole
tag_end paths xs ss at old whole all before = sym (nothing_more old) ∙ sym (ap (λ l. old ++ l) (no_structs paths (drop at xs))) ∙ sym (ap (λ l. old ++ tag_identities paths (drop at xs) l) (left_end ss at all)) ∙ before

-- no struct stands at an index
pub tag_nothing : (paths xs : List (List ℕ)) (ss : List Structure) (at : ℕ) (old whole : List Identity) → None ≡ slice_get ss at → old ++ tag_identities paths (drop at xs) (drop at ss) ≡ whole → old ≡ whole
tag_nothing paths xs ss at old whole none before = sym (nothing_more old) ∙ sym (ap (λ l. old ++ l) (no_structs paths (drop at xs))) ∙ sym (ap (λ l. old ++ tag_identities paths (drop at xs) l) (left_none ss at (sym none))) ∙ before

-- one struct more, with its fields if it has any
pub structs_more : (d : Identities) (ss : List Structure) (i : ℕ) (s : Structure) (made now whole : List StructTree) → slice_get ss i ≡ Some s → now ≡ made ++ option_to_list (option_map (struct_tree d i) s.fields) → made ++ structs_from d i (drop i ss) ≡ whole → now ++ structs_from d (i + 1) (drop (i + 1) ss) ≡ whole
structs_more d ss i s made now whole h step so =
    let one = option_to_list (option_map (struct_tree d i) s.fields) in
    let rest = structs_from d (i + 1) (drop (i + 1) ss) in
    ap (λ xs. xs ++ rest) step ∙ append_assoc made one rest ∙ ap (λ xs. made ++ structs_from d i xs) (sym (left_at ss i s h)) ∙ so
