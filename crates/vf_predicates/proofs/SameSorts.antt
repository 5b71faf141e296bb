-- Lists of sorts that are alike, place by place.
use Rattle.std.proofs.Common.{◌≡◌, ◌↔◌, IsTrue, Bool, true, false, ℕ, zero, suc, ◌+◌, ◌<◌, ◌≤◌, List, [], ◌∷◌, length, take, Some, slice_get, refl, sym, ap, ap₂, arith}
use Rattle.vf_sorts.specs.declared.sort.Head.{Head}
use Rattle.vf_sorts.specs.Sorts.{Sort, sort, no_sorts, and_sort, row, size_of, size_of_row}
use Rattle.vf_sorts.specs.Told.{AreAlike, untold, untold_head}
use Rattle.vf_predicates.specs.Earlier.{AreSame}

-- sorts with heads that are alike, over parts that are
pub heads_agree : (h g : Head) (xs ys : List Sort) → untold_head h ≡ untold_head g → AreSame xs ys → AreAlike (sort h (row xs)) (sort g (row ys))
heads_agree h g xs ys p q = ap₂ sort p q

-- sorts that are alike have such heads
pub heads_differ : (h g : Head) (xs ys : List Sort) → AreAlike (sort h (row xs)) (sort g (row ys)) → untold_head h ≡ untold_head g
heads_differ h g xs ys e = cc

-- and such parts
pub parts_agree : (h g : Head) (xs ys : List Sort) → AreAlike (sort h (row xs)) (sort g (row ys)) → AreSame xs ys
parts_agree h g xs ys e = cc

-- no sorts are alike
pub same_begin : (xs ys : List Sort) → AreSame (take 0 xs) (take 0 ys)
same_begin xs ys = refl

-- one more on both sides
pub same_more : (xs ys : List Sort) (i : ℕ) (x y : Sort) → slice_get xs i ≡ Some x → slice_get ys i ≡ Some y → AreSame (take i xs) (take i ys) → AreAlike x y → AreSame (take (i + 1) xs) (take (i + 1) ys)
same_more [] ys i x y g h p q = absurd cc
same_more (a ∷ xs) [] i x y g h p q = absurd cc
same_more (a ∷ xs) (b ∷ ys) zero x y g h p q = let e : a ≡ x = cc in let f : b ≡ y = cc in rw e (rw f (ap (λ s. and_sort s no_sorts) q))
same_more (a ∷ xs) (b ∷ ys) (suc i) x y g h p q =
    let step : suc i + 1 ≡ suc (i + 1) = omega arith in
    let front : untold a ≡ untold b = cc in
    let rest : AreSame (take i xs) (take i ys) = cc in
    rw step (ap₂ and_sort front (same_more xs ys i x y g h rest q))

-- all of them
pub same_end : (xs ys : List Sort) (i : ℕ) → length xs ≡ length ys → length xs ≤ i → AreSame (take i xs) (take i ys) → AreSame xs ys
same_end [] [] i l m p = refl
same_end [] (b ∷ ys) i l m p = absurd (omega (arith, l))
same_end (a ∷ xs) [] i l m p = absurd (omega (arith, l))
same_end (a ∷ xs) (b ∷ ys) zero l m p = absurd (omega (arith, m))
same_end (a ∷ xs) (b ∷ ys) (suc i) l m p =
    let front : untold a ≡ untold b = cc in
    let rest : AreSame (take i xs) (take i ys) = cc in
    ap₂ and_sort front (same_end xs ys i (omega (arith, l)) (omega (arith, m)) rest)

-- lists that are alike have as many sorts
pub same_count : (xs ys : List Sort) → AreSame xs ys → length xs ≡ length ys
same_count [] [] p = refl
same_count [] (b ∷ ys) p = absurd cc
same_count (a ∷ xs) [] p = absurd cc
same_count (a ∷ xs) (b ∷ ys) p = let rest : AreSame xs ys = cc in ap suc (same_count xs ys rest)

-- and at each place sorts that are alike
pub same_at : (xs ys : List Sort) (i : ℕ) (x y : Sort) → slice_get xs i ≡ Some x → slice_get ys i ≡ Some y → AreSame xs ys → AreAlike x y
same_at [] ys i x y g h p = absurd cc
same_at (a ∷ xs) [] i x y g h p = absurd cc
same_at (a ∷ xs) (b ∷ ys) zero x y g h p = let e : a ≡ x = cc in let f : b ≡ y = cc in let front : untold a ≡ untold b = cc in rw (sym e) (rw (sym f) front)
same_at (a ∷ xs) (b ∷ ys) (suc i) x y g h p = let rest : AreSame xs ys = cc in same_at xs ys i x y g h rest

-- each sort of a list is smaller than the list
pub smaller : (xs : List Sort) (i : ℕ) (x : Sort) → slice_get xs i ≡ Some x → size_of x < size_of_row (row xs)
smaller [] i x g = absurd cc
smaller (a ∷ xs) zero x g = let e : a ≡ x = cc in rw (sym e) (omega arith)
smaller (a ∷ xs) (suc i) x g = omega (arith, smaller xs i x g)

-- one more on both sides, where they were compared
pub same_next : (xs ys : List Sort) (i : ℕ) (x y : Sort) (b : Bool) → slice_get xs i ≡ Some x → slice_get ys i ≡ Some y → (IsTrue b ↔ AreAlike x y) → b ≡ true → AreSame (take i xs) (take i ys) → AreSame (take (i + 1) xs) (take (i + 1) ys)
same_next xs ys i x y b g h e t p = same_more xs ys i x y g h p (e.0 t)

-- lists with sorts at one place that are not alike are not alike
pub not_same : (xs ys : List Sort) (i : ℕ) (x y : Sort) (b : Bool) → slice_get xs i ≡ Some x → slice_get ys i ≡ Some y → (IsTrue b ↔ AreAlike x y) → b ≡ false → IsTrue false ↔ AreSame xs ys
not_same xs ys i x y b g h e f = ((λ t. absurd cc), (λ p. let u : b ≡ true = e.1 (same_at xs ys i x y g h p) in absurd cc))
