-- What is left to do falls.
use Rattle.std.proofs.Common.{◌≡◌, ◌≢◌, ℕ, zero, suc, ◌+◌, ◌*◌, ◌<◌, ◌≤◌, List, [], ◌∷◌, Option, Some, None, refl, sym, ◌∙◌, ap, subst, arith}
use Rattle.std.specs.Prelude.{slice_get, slice_set, map}
use Rattle.std.specs.Option.{option_map}
use Rattle.std.proofs.Math.Decide.{ℕ_discrete}
use Rattle.std.proofs.Math.Nat.{add-mul}
use Rattle.std.proofs.lemmas.Nat.{mul-le}
use Rattle.std.proofs.lemmas.List.Sums.{sum_by-cons}
use Rattle.vf_sorts.specs.declared.sort.Head.TheVariants as heads
use Rattle.vf_sorts.specs.declared.pair.Pair.{Pair}
use Rattle.vf_sorts.specs.Sorts.{Sort, Sorts, sort, no_sorts, and_sort, size_of, size_of_row}
use Rattle.vf_sorts.specs.Unknowns.{Filling, filled, filled_all, Known, known_or, by_known, only, with_known}
use Rattle.vf_sorts.specs.Pairs.{open_count, pair_size, load, left_to_do, weight}
use Rattle.vf_sorts.proofs.Filled.{filled_twice}
use Rattle.vf_sorts.proofs.Agreeing.{filled_by, only_same, only_other, learnt, kept}

-- less to do where the sorts are smaller
pub not_more : (n a b : ℕ) → a ≤ b → left_to_do n a ≤ left_to_do n b
unfolding left_to_do
not_more zero a b h = h
not_more (suc n) a b h = let r = not_more n (a * a) (b * b) (mul-le a a b b h h) in omega (arith, r)

pub less : (n a b : ℕ) → a < b → left_to_do n a < left_to_do n b
unfolding left_to_do
less zero a b h = h
less (suc n) a b h = let r = not_more n (a * a) (b * b) (mul-le a a b b (omega arith) (omega arith)) in omega (arith, r)

-- less to do where one sort more is known
pub one_known : (n a b : ℕ) → a ≤ b * b → left_to_do n a < left_to_do (suc n) b
unfolding left_to_do
one_known n a b h = let r = not_more n a (b * b) h in omega (arith, r)

-- one less is open where something comes to be known of one that was
open_still : (g : Sort → Sort) (known : Known) → open_count (map (option_map g) known) ≡ open_count known
open_still g [] = refl
open_still g (None ∷ known) = ap suc (open_still g known)
open_still g (Some s ∷ known) = open_still g known

pub one_less_open : (g : Sort → Sort) (known : Known) (u : ℕ) (s : Sort) → slice_get known u ≡ Some None → suc (open_count (slice_set (map (option_map g) known) u (Some s))) ≡ open_count known
one_less_open g [] u s h = absurd cc
one_less_open g (None ∷ known) zero s h = ap suc (open_still g known)
one_less_open g (Some t ∷ known) zero s h = absurd cc
one_less_open g (None ∷ known) (suc u) s h = ap suc (one_less_open g known u s h)
one_less_open g (Some t ∷ known) (suc u) s h = one_less_open g known u s h

-- every sort has a size
pub some_size : (s : Sort) → 0 < size_of s
some_size (sort h ts) = omega arith

only_size : (u : ℕ) (s : Sort) (v : ℕ) → size_of (only u s v) ≤ size_of s
only_size u s v = by (ℕ_discrete u v)
  where
    by : Dec (u ≡ v) → size_of (only u s v) ≤ size_of s
    by (yes p) = let q = ap size_of (only_same u v s p) in omega (arith, q)
    by (no n) = let q = ap size_of (only_other u v s n) in let r = some_size s in omega (arith, q, r)

one_more_head : (a b m : ℕ) → a ≤ b * m → 0 < m → a + 1 ≤ (b + 1) * m
one_more_head a b m h p = let e = add-mul b 1 m in omega (arith, e)

row_more : (a b c d m : ℕ) → a ≤ c * m → b ≤ d * m → 0 < m → a + b + 1 ≤ (c + d + 1) * m
row_more a b c d m h k p = let e = add-mul (c + d) 1 m in let q = add-mul c d m in omega (arith, e, q)

mutual
  -- a sort grows at most by the size of what is put into it
  grown : (f : Filling) (m : ℕ) → 0 < m → ((v : ℕ) → size_of (f v) ≤ m) → (t : Sort) → size_of (filled f t) ≤ size_of t * m
  grown f m p most (sort heads.Int ts) = one_more_head _ _ m (all_grown f m p most ts) p
  grown f m p most (sort heads.Bool ts) = one_more_head _ _ m (all_grown f m p most ts) p
  grown f m p most (sort (heads.Pointer w) ts) = one_more_head _ _ m (all_grown f m p most ts) p
  grown f m p most (sort heads.Real ts) = one_more_head _ _ m (all_grown f m p most ts) p
  grown f m p most (sort heads.Any ts) = one_more_head _ _ m (all_grown f m p most ts) p
  grown f m p most (sort (heads.Parameter i) ts) = one_more_head _ _ m (all_grown f m p most ts) p
  grown f m p most (sort (heads.Unknown v) ts) =
      let q = most v in
      let e = add-mul (size_of_row ts) 1 m in
      omega (arith, q, e)
  grown f m p most (sort (heads.Datatype d) ts) = one_more_head _ _ m (all_grown f m p most ts) p
  grown f m p most (sort heads.Predicate ts) = one_more_head _ _ m (all_grown f m p most ts) p

  all_grown : (f : Filling) (m : ℕ) → 0 < m → ((v : ℕ) → size_of (f v) ≤ m) → (ts : Sorts) → size_of_row (filled_all f ts) ≤ size_of_row ts * m
  all_grown f m p most no_sorts = omega arith
  all_grown f m p most (and_sort t ts) = row_more _ _ _ _ m (grown f m p most t) (all_grown f m p most ts) p

-- what is known then is what was known, with what was learnt put into it
known_then : (known : Known) (u : ℕ) (s : Sort) → slice_get known u ≡ Some None → (v : ℕ) → by_known (with_known known u s) v ≡ filled (only u s) (by_known known v)
known_then known u s h v = by (ℕ_discrete u v)
  where
    other : (o : Option (Option Sort)) → u ≢ v → known_or v (option_map (option_map (filled (only u s))) o) ≡ filled (only u s) (known_or v o)
    other (Some (Some t)) n = refl
    other (Some None) n = sym (only_other u v s n)
    other None n = sym (only_other u v s n)

    by : Dec (u ≡ v) → by_known (with_known known u s) v ≡ filled (only u s) (by_known known v)
    by (yes p) =
        let there : slice_get (with_known known u s) v ≡ Some (Some s) = subst (λ (w : ℕ). slice_get (with_known known u s) w ≡ Some (Some s)) p (learnt known (filled (only u s)) u s None h) in
        let was : slice_get known v ≡ Some None = subst (λ (w : ℕ). slice_get known w ≡ Some None) p h in
        ap (known_or v) there ∙ sym (only_same u v s p) ∙ sym (ap (λ o. filled (only u s) (known_or v o)) was)
    by (no n) = ap (known_or v) (kept known (filled (only u s)) u v s n) ∙ other (slice_get known v) n

put_in : (known : Known) (u : ℕ) (s : Sort) → slice_get known u ≡ Some None → (t : Sort) → size_of (filled (by_known (with_known known u s)) t) ≤ size_of (filled (by_known known) t) * size_of s
put_in known u s h t =
    let same = filled_by (by_known (with_known known u s)) (λ v. filled (only u s) (by_known known v)) (known_then known u s h) t ∙ sym (filled_twice (by_known known) (only u s) t) in
    let e = ap size_of same in
    let r = grown (only u s) (size_of s) (some_size s) (only_size u s) (filled (by_known known) t) in
    omega (arith, e, r)

pairs_put_in : (known : Known) (u : ℕ) (s : Sort) → slice_get known u ≡ Some None → (pairs : List Pair) → load (with_known known u s) pairs ≤ load known pairs * size_of s
pairs_put_in known u s h [] = omega arith
pairs_put_in known u s h (p ∷ pairs) =
    let a = put_in known u s h p.left in
    let b = put_in known u s h p.right in
    let r = pairs_put_in known u s h pairs in
    let c = sum_by-cons (pair_size (with_known known u s)) p pairs in
    let d = sum_by-cons (pair_size known) p pairs in
    let e = add-mul (pair_size known p) (load known pairs) (size_of s) in
    let q = add-mul (size_of (filled (by_known known) p.left)) (size_of (filled (by_known known) p.right)) (size_of s) in
    let g = ap (λ (n : ℕ). n * size_of s) d in
    omega (arith, a, b, r, c, d, e, q, g)

-- less is left to do where something was learnt
pub learnt_less : (known : Known) (u : ℕ) (s : Sort) → slice_get known u ≡ Some None → (pairs : List Pair) (more : ℕ) → 0 < more → weight (with_known known u s) pairs < left_to_do (open_count known) (more + size_of s + load known pairs)
learnt_less known u s h pairs more p =
    let e = one_less_open (filled (only u s)) known u s h in
    let a = pairs_put_in known u s h pairs in
    let b = mul-le (load known pairs) (size_of s) (more + size_of s + load known pairs) (more + size_of s + load known pairs) (omega arith) (omega arith) in
    subst (λ (n : ℕ). weight (with_known known u s) pairs < left_to_do n (more + size_of s + load known pairs)) e
    (one_known (open_count (with_known known u s)) (load (with_known known u s) pairs) (more + size_of s + load known pairs) (omega (arith, a, b)))

-- less is left to do where two sorts were one
pub dropped_less : (known : Known) (pairs : List Pair) (more size : ℕ) → 0 < more → weight known pairs < left_to_do (open_count known) (more + size + load known pairs)
dropped_less known pairs more size p = less (open_count known) (load known pairs) (more + size + load known pairs) (omega arith)
