-- A sort is larger than what stands inside of it.
use Rattle.std.proofs.Common.{◌≡◌, ◌≢◌, ℕ, ◌+◌, ◌<◌, ◌≤◌, Bool, true, false, refl, ap, arith}
use Rattle.std.specs.Prelude.{◌||◌}
use Rattle.std.proofs.lemmas.Bool.Decides.{nat_tests}
use Rattle.vf_sorts.specs.declared.sort.Head.TheVariants as heads
use Rattle.vf_sorts.specs.Sorts.{Sort, Sorts, sort, no_sorts, and_sort, size_of, size_of_row}
use Rattle.vf_sorts.specs.Unknowns.{Filling, filled, filled_all, is_in, is_in_some}
use Rattle.vf_sorts.specs.Told.{untold, untold_all, AreAlike}
use Rattle.vf_sorts.specs.Pairs.{head_of}

-- what follows from each of two follows where one of them is true
either : {A : Type 0} (a b : Bool) → (a || b) ≡ true → (a ≡ true → A) → (b ≡ true → A) → A
either true b e f g = f refl
either false b e f g = g e

mutual
  held : (f : Filling) (u : ℕ) (s : Sort) → is_in u s ≡ true → size_of (f u) ≤ size_of (filled f s)
  held f u (sort heads.Int ts) e = let r = held_of f u ts e in omega (arith, r)
  held f u (sort heads.Bool ts) e = let r = held_of f u ts e in omega (arith, r)
  held f u (sort (heads.Pointer w) ts) e = let r = held_of f u ts e in omega (arith, r)
  held f u (sort heads.Real ts) e = let r = held_of f u ts e in omega (arith, r)
  held f u (sort heads.Any ts) e = let r = held_of f u ts e in omega (arith, r)
  held f u (sort (heads.Parameter i) ts) e = let r = held_of f u ts e in omega (arith, r)
  held f u (sort (heads.Unknown v) ts) e =
      let p : u ≡ v = grind (arith, nat_tests) in
      let q : size_of (f u) ≡ size_of (f v) = ap (λ (w : ℕ). size_of (f w)) p in
      omega (arith, q)
  held f u (sort (heads.Datatype d) ts) e = let r = held_of f u ts e in omega (arith, r)
  held f u (sort heads.Predicate ts) e = let r = held_of f u ts e in omega (arith, r)

  held_of : (f : Filling) (u : ℕ) (ts : Sorts) → is_in_some u ts ≡ true → size_of (f u) < size_of_row (filled_all f ts)
  held_of f u no_sorts e = absurd cc
  held_of f u (and_sort t ts) e = either (is_in u t) (is_in_some u ts) e (λ h. let r = held f u t h in omega (arith, r)) (λ h. let r = held_of f u ts h in omega (arith, r))

larger : (f : Filling) (u : ℕ) (s : Sort) → head_of s ≢ heads.Unknown u → is_in u s ≡ true → size_of (f u) < size_of (filled f s)
larger f u (sort heads.Int ts) n e = let r = held_of f u ts e in omega (arith, r)
larger f u (sort heads.Bool ts) n e = let r = held_of f u ts e in omega (arith, r)
larger f u (sort (heads.Pointer w) ts) n e = let r = held_of f u ts e in omega (arith, r)
larger f u (sort heads.Real ts) n e = let r = held_of f u ts e in omega (arith, r)
larger f u (sort heads.Any ts) n e = let r = held_of f u ts e in omega (arith, r)
larger f u (sort (heads.Parameter i) ts) n e = let r = held_of f u ts e in omega (arith, r)
larger f u (sort (heads.Unknown v) ts) n e = let p : v ≡ u = grind (arith, nat_tests) in absurd (n (ap heads.Unknown p))
larger f u (sort (heads.Datatype d) ts) n e = let r = held_of f u ts e in omega (arith, r)
larger f u (sort heads.Predicate ts) n e = let r = held_of f u ts e in omega (arith, r)

mutual
  -- what pointers tell has no size
  untold_size : (s : Sort) → size_of (untold s) ≡ size_of s
  untold_size (sort h ts) = ap (λ (n : ℕ). n + 1) (untold_sizes ts)

  untold_sizes : (ts : Sorts) → size_of_row (untold_all ts) ≡ size_of_row ts
  untold_sizes no_sorts = refl
  untold_sizes (and_sort t ts) = let p = untold_size t in let q = untold_sizes ts in omega (arith, p, q)

-- nothing fills an unknown sort so that it is equal to a sort in which it stands
pub never_equal : (f : Filling) (u : ℕ) (s : Sort) → head_of s ≢ heads.Unknown u → is_in u s ≡ true → AreAlike (f u) (filled f s) → ⊥
never_equal f u s n e p =
    let r = larger f u s n e in
    let q = ap size_of p in
    let a = untold_size (f u) in
    let b = untold_size (filled f s) in
    omega (arith, r, q, a, b)
