-- Rows of int cells as parts: a row is its first cells beside those behind them.
use Rattle.std.proofs.Common.{◌≡◌, ℕ, zero, suc, ◌≤◌, ◌+◌, pos, negsuc, List, [], ◌∷◌, ◌++◌, length, map, Option, refl, sym, ap, subst, ◌∙◌, arith}
use Rattle.vf_model.specs.Values.{Dyadic, Value}
use Rattle.vf_model.specs.Values as values
use Rattle.vf_meaning.specs.Valuations.{further}
use Rattle.vf_meaning.specs.Parts.{IndexCell, CellOf, Part, nothing, single, ◌⊕◌, IsSum}
use Rattle.vf_meaning.specs.Chunks.{IsRow, IsRowAt}
use Rattle.vf_meaning.proofs.Parts.{sums_turn, sums_regroup, nothing_is_neutral, nothing-⊕}
use Rattle.vf_safety.proofs.Rows.{row_at, row_from}
use Rattle.vf_safety.proofs.IntBlocks.{further_none}

-- ---- lists
pub map_append : {A B : Type 0} (f : A → B) (xs ys : List A) → map f (xs ++ ys) ≡ map f xs ++ map f ys
map_append f [] ys = refl
map_append f (x ∷ xs) ys = ap (λ zs. f x ∷ zs) (map_append f xs ys)

pub map_long : {A B : Type 0} (f : A → B) (xs : List A) → length (map f xs) ≡ length xs
map_long f [] = refl
map_long f (x ∷ xs) = ap suc (map_long f xs)

pub both_long : {A : Type 0} (xs ys : List A) → length (xs ++ ys) ≡ length xs + length ys
both_long [] ys = from_zero (length ys)
  where
    from_zero : (n : ℕ) → n ≡ 0 + n
    from_zero n = omega arith
both_long (x ∷ xs) ys = ap suc (both_long xs ys) ∙ more (length xs) (length ys)
  where
    more : (m n : ℕ) → suc (m + n) ≡ suc m + n
    more m n = omega arith

-- a list is its first ones, so many, and those behind them
pub record SplitList (A : Type 0) (xs : List A) (i : ℕ) : Type 0 where
  pub first : List A
  pub second : List A
  pub is : xs ≡ first ++ second
  pub long : length first ≡ i

pub split_list : {A : Type 0} (xs : List A) (i : ℕ) → i ≤ length xs → SplitList A xs i
split_list xs zero l = record { first = []; second = xs; is = refl; long = refl }
split_list [] (suc i) l = absurd (no i l)
  where
    no : (i : ℕ) → suc i ≤ 0 → ⊥
    no i l = omega (arith, l)
split_list (x ∷ xs) (suc i) l =
    let s = split_list xs i (omega (arith, l)) in
    record { first = x ∷ s.first; second = s.second; is = ap (λ zs. x ∷ zs) s.is; long = ap suc s.long }

-- ---- rows
plus_zero : (k : ℕ) → k ≡ k + 0
plus_zero k = omega arith

plus_suc : (k j : ℕ) → suc k + j ≡ k + suc j
plus_suc k j = omega arith

-- the sum of nothing and a part is the part
pub alone : (p q r : Part) → p ≡ nothing → IsSum p q r → r ≡ q
alone p q r h s = s.adds ∙ ap (λ z. z ⊕ q) h ∙ nothing-⊕ q

record SplitRow (x : Dyadic) (b k : ℕ) (front back : List (Option Value)) (q : Part) : Type 0 where
  first : Part
  second : Part
  sums : IsSum first second q
  is_first : IsRow x b k front first
  is_second : IsRow x b (k + length front) back second

rows_split : (x : Dyadic) (b k : ℕ) (front back : List (Option Value)) (q : Part) → IsRow x b k (front ++ back) q → SplitRow x b k front back q
rows_split x b k [] back q h = record { first = nothing; second = q; sums = nothing_is_neutral q; is_first = refl; is_second = subst (λ i. IsRow x b i back q) (plus_zero k) h }
rows_split x b k (c ∷ front) back q (r, sums, rest) =
    let one = single (IndexCell b k) (CellOf c) x in
    let s = rows_split x b (suc k) front back r rest in
    let (u, inner, outer) = sums_regroup s.second s.first r one q (sums_turn s.first s.second r s.sums) (sums_turn one r q sums) in
    record {
      first = u;
      second = s.second;
      sums = sums_turn s.second u q outer;
      is_first = (s.first, sums_turn s.first one u inner, s.is_first);
      is_second = subst (λ i. IsRow x b i back s.second) (plus_suc k (length front)) s.is_second;
    }

rows_join : (x : Dyadic) (b k : ℕ) (front back : List (Option Value)) (q1 q2 q : Part) → IsRow x b k front q1 → IsRow x b (k + length front) back q2 → IsSum q1 q2 q → IsRow x b k (front ++ back) q
rows_join x b k [] back q1 q2 q h h2 sums = subst (λ i. IsRow x b i back q) (sym (plus_zero k)) (subst (λ z. IsRow x b (k + 0) back z) (sym (alone q1 q2 q h sums)) h2)
rows_join x b k (c ∷ front) back q1 q2 q (r, sums1, rest) h2 sums =
    let one = single (IndexCell b k) (CellOf c) x in
    let (u, inner, outer) = sums_regroup one r q1 q2 q sums1 sums in
    (u, outer, rows_join x b (suc k) front back r q2 u rest (subst (λ i. IsRow x b i back q2) (sym (plus_suc k (length front))) h2) inner)

-- ---- rows at a pointer
pub record SplitAt (x : Dyadic) (pointer : Value) (front back : List (Option Value)) (q : Part) : Type 0 where
  pub first : Part
  pub second : Part
  pub sums : IsSum first second q
  pub is_first : IsRowAt x pointer front first
  pub is_second : IsRowAt x (further pointer (pos (length front))) back second

pub split_at : (x : Dyadic) (pointer : Value) (front back : List (Option Value)) (q : Part) → IsRowAt x pointer (front ++ back) q → SplitAt x pointer front back q
split_at x pointer [] back q h = record { first = nothing; second = q; sums = nothing_is_neutral q; is_first = refl; is_second = subst (λ w. IsRowAt x w back q) (further_none pointer) h }
split_at x (values.Pointer b (pos o)) (c ∷ front) back q h =
    let s = rows_split x b o (c ∷ front) back q h in
    record { first = s.first; second = s.second; sums = s.sums; is_first = s.is_first; is_second = row_at x b (o + length (c ∷ front)) back s.second s.is_second }
split_at x (values.Pointer b (negsuc o)) (c ∷ front) back q h = absurd h
split_at x (values.Number z) (c ∷ front) back q h = absurd h
split_at x (values.Truth z) (c ∷ front) back q h = absurd h
split_at x values.Null (c ∷ front) back q h = absurd h
split_at x (values.Function g) (c ∷ front) back q h = absurd h
split_at x (values.Constructed d vs) (c ∷ front) back q h = absurd h
split_at x (values.Predicate p vs) (c ∷ front) back q h = absurd h
split_at x (values.Fraction d) (c ∷ front) back q h = absurd h

pub join_at : (x : Dyadic) (pointer : Value) (front back : List (Option Value)) (q1 q2 q : Part) → IsRowAt x pointer front q1 → IsRowAt x (further pointer (pos (length front))) back q2 → IsSum q1 q2 q → IsRowAt x pointer (front ++ back) q
join_at x pointer [] back q1 q2 q h h2 sums = subst (λ z. IsRowAt x pointer back z) (sym (alone q1 q2 q h sums)) (subst (λ w. IsRowAt x w back q2) (sym (further_none pointer)) h2)
join_at x (values.Pointer b (pos o)) (c ∷ front) back q1 q2 q h h2 sums = rows_join x b o (c ∷ front) back q1 q2 q h (row_from x b (o + length (c ∷ front)) back q2 h2) sums
join_at x (values.Pointer b (negsuc o)) (c ∷ front) back q1 q2 q h h2 sums = absurd h
join_at x (values.Number z) (c ∷ front) back q1 q2 q h h2 sums = absurd h
join_at x (values.Truth z) (c ∷ front) back q1 q2 q h h2 sums = absurd h
join_at x values.Null (c ∷ front) back q1 q2 q h h2 sums = absurd h
join_at x (values.Function g) (c ∷ front) back q1 q2 q h h2 sums = absurd h
join_at x (values.Constructed d vs) (c ∷ front) back q1 q2 q h h2 sums = absurd h
join_at x (values.Predicate p vs) (c ∷ front) back q1 q2 q h h2 sums = absurd h
join_at x (values.Fraction d) (c ∷ front) back q1 q2 q h h2 sums = absurd h
