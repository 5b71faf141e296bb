-- What stands for unknown sorts and type parameters does not matter in a sort that has none of them.
use Rattle.std.proofs.Common.{◌≡◌, ℕ, zero, suc, ◌<◌, List, [], ◌∷◌, ◌++◌, ◌⊎◌, inl, inr, None, refl, sym, subst, ap, ap₂, ⊎_elim, arith}
use Rattle.std.proofs.Math.Decide.{ℕ_discrete}
use Rattle.vf_sorts.specs.declared.sort.Head.TheVariants as heads
use Rattle.vf_sorts.specs.Sorts.{Sort, Sorts, sort, no_sorts, and_sort, row}
use Rattle.vf_sorts.specs.Told.{AreAlike, untold_all}
use Rattle.vf_sorts.specs.Unknowns.{EachUnknownOf, Filling, IsBelow, filled, filled_all, leaf}
use Rattle.vf_sorting.specs.Kinds.{datatype_sort, parameter_sorts}
use Rattle.vf_fixpoint_laws.specs.values.Instances.{Instance, placed, all_placed}
use Rattle.vf_fixpoint_laws.specs.bodies.Closed.{AreClosed, Each, IsClosed, PlacedAlike}

-- ---- no unknown sorts
mutual
  -- what fills unknown sorts does not matter
  pub filled_same : (f : Filling) (t : Sort) → IsBelow 0 t → filled f t ≡ t
  filled_same f (sort heads.Int ts) b = ap (sort heads.Int) (all_filled_same f ts b)
  filled_same f (sort heads.Bool ts) b = ap (sort heads.Bool) (all_filled_same f ts b)
  filled_same f (sort (heads.Pointer w) ts) b = ap (sort (heads.Pointer w)) (all_filled_same f ts b)
  filled_same f (sort heads.Real ts) b = ap (sort heads.Real) (all_filled_same f ts b)
  filled_same f (sort heads.Any ts) b = ap (sort heads.Any) (all_filled_same f ts b)
  filled_same f (sort (heads.Parameter i) ts) b = ap (sort (heads.Parameter i)) (all_filled_same f ts b)
  filled_same f (sort (heads.Unknown u) ts) b = absurd (let n : u < 0 = b in omega (arith, n))
  filled_same f (sort (heads.Datatype d) ts) b = ap (sort (heads.Datatype d)) (all_filled_same f ts b)
  filled_same f (sort heads.Predicate ts) b = ap (sort heads.Predicate) (all_filled_same f ts b)

  pub all_filled_same : (f : Filling) (ts : Sorts) → EachUnknownOf (λ u. u < 0) ts → filled_all f ts ≡ ts
  all_filled_same f no_sorts b = refl
  all_filled_same f (and_sort t ts) b = ap₂ and_sort (filled_same f t b.0) (all_filled_same f ts b.1)

mutual
  -- nor where sorts stand for type parameters
  pub placed_same : (g : Instance) (f h : Filling) (t : Sort) → IsBelow 0 t → placed g f t ≡ placed g h t
  placed_same g f h (sort heads.Int ts) b = ap (sort heads.Int) (all_placed_same g f h ts b)
  placed_same g f h (sort heads.Bool ts) b = ap (sort heads.Bool) (all_placed_same g f h ts b)
  placed_same g f h (sort (heads.Pointer w) ts) b = ap (sort (heads.Pointer w)) (all_placed_same g f h ts b)
  placed_same g f h (sort heads.Real ts) b = ap (sort heads.Real) (all_placed_same g f h ts b)
  placed_same g f h (sort heads.Any ts) b = ap (sort heads.Any) (all_placed_same g f h ts b)
  placed_same g f h (sort (heads.Parameter i) ts) b = refl
  placed_same g f h (sort (heads.Unknown u) ts) b = absurd (let n : u < 0 = b in omega (arith, n))
  placed_same g f h (sort (heads.Datatype d) ts) b = ap (sort (heads.Datatype d)) (all_placed_same g f h ts b)
  placed_same g f h (sort heads.Predicate ts) b = ap (sort heads.Predicate) (all_placed_same g f h ts b)

  pub all_placed_same : (g : Instance) (f h : Filling) (ts : Sorts) → EachUnknownOf (λ u. u < 0) ts → all_placed g f ts ≡ all_placed g h ts
  all_placed_same g f h no_sorts b = refl
  all_placed_same g f h (and_sort t ts) b = ap₂ and_sort (placed_same g f h t b.0) (all_placed_same g f h ts b.1)

-- each sort of a list whose row has no unknown sorts has none
pub each_below : (ts : List Sort) → EachUnknownOf (λ u. u < 0) (row ts) → Each (IsBelow 0) ts
each_below [] b = tt
each_below (t ∷ ts) b = (b.0, each_below ts b.1)

-- ---- type parameters
module _ (g k : Instance) (f h : Filling) (m : ℕ) (alike : (i : ℕ) → i < m → AreAlike (g i) (k i)) where
  mutual
    pub closed_alike : (t : Sort) → IsClosed m t → AreAlike (placed g f t) (placed k h t)
    closed_alike (sort heads.Int ts) c = ap (sort heads.Int) (all_closed_alike ts c)
    closed_alike (sort heads.Bool ts) c = ap (sort heads.Bool) (all_closed_alike ts c)
    closed_alike (sort (heads.Pointer w) ts) c = ap (sort (heads.Pointer None)) (all_closed_alike ts c)
    closed_alike (sort heads.Real ts) c = ap (sort heads.Real) (all_closed_alike ts c)
    closed_alike (sort heads.Any ts) c = ap (sort heads.Any) (all_closed_alike ts c)
    closed_alike (sort (heads.Parameter i) ts) c = alike i c
    closed_alike (sort (heads.Unknown u) ts) c = absurd c
    closed_alike (sort (heads.Datatype d) ts) c = ap (sort (heads.Datatype d)) (all_closed_alike ts c)
    closed_alike (sort heads.Predicate ts) c = ap (sort heads.Predicate) (all_closed_alike ts c)

    pub all_closed_alike : (ts : Sorts) → AreClosed m ts → untold_all (all_placed g f ts) ≡ untold_all (all_placed k h ts)
    all_closed_alike no_sorts c = refl
    all_closed_alike (and_sort t ts) c = ap₂ and_sort (closed_alike t c.0) (all_closed_alike ts c.1)

pub placed_alike : PlacedAlike
placed_alike g k f h m alike t c = closed_alike g k f h m alike t c

-- ---- a datatype over its own type parameters tells what stands for them
first_part : {t u : Sort} {ts us : Sorts} → and_sort t ts ≡ and_sort u us → t ≡ u
first_part e = cc

other_parts : {t u : Sort} {ts us : Sorts} → and_sort t ts ≡ and_sort u us → ts ≡ us
other_parts e = cc

parts_of_datatype : {m n : ℕ} {ts us : Sorts} → sort (heads.Datatype m) ts ≡ sort (heads.Datatype n) us → ts ≡ us
parts_of_datatype e = cc

module _ (g k : Instance) (f h : Filling) where
  -- rows whose last parts are alike
  split : (ss : List Sort) (t : Sort) → untold_all (all_placed g f (row (ss ++ t ∷ []))) ≡ untold_all (all_placed k h (row (ss ++ t ∷ [])))
      → (untold_all (all_placed g f (row ss)) ≡ untold_all (all_placed k h (row ss))) × AreAlike (placed g f t) (placed k h t)
  split [] t e = (refl, first_part e)
  split (s ∷ ss) t e = let r = split ss t (other_parts e) in (ap₂ and_sort (first_part e) r.0, r.1)

  below_or_last : (i m : ℕ) → i < suc m → (i < m) ⊎ (i ≡ m)
  below_or_last i m l = by (ℕ_discrete i m)
    where
      by : Dec (i ≡ m) → (i < m) ⊎ (i ≡ m)
      by (yes p) = inr p
      by (no n) = inl (omega (arith, l, n))

  pub parameters_alike : (m : ℕ) → untold_all (all_placed g f (row (parameter_sorts m))) ≡ untold_all (all_placed k h (row (parameter_sorts m))) → (i : ℕ) → i < m → AreAlike (g i) (k i)
  parameters_alike zero e i l = absurd (omega (arith, l))
  parameters_alike (suc m) e i l =
      let r = split (parameter_sorts m) (leaf (heads.Parameter m)) e in
      ⊎_elim (λ p. parameters_alike m r.0 i p) (λ p. subst (λ (n : ℕ). AreAlike (g n) (k n)) (sym p) r.1) (below_or_last i m l)

  pub datatypes_alike : (d m : ℕ) → AreAlike (placed g f (datatype_sort d m)) (placed k h (datatype_sort d m)) → (i : ℕ) → i < m → AreAlike (g i) (k i)
  datatypes_alike d m e = parameters_alike m (parts_of_datatype e)
