-- Instances of schemes as sorts in place of type parameters.
use Rattle.std.proofs.Common.{◌≡◌, ℕ, ◌+◌, ◌<◌, Bool, true, false, refl, sym, ap, ap₂, ◌∙◌, arith}
use Rattle.std.specs.Prelude.{nat_lt, if◌then◌else◌}
use Rattle.std.proofs.lemmas.Bool.Decides.{nat_tests}
use Rattle.vf_sorts.specs.declared.sort.Head.{Head}
use Rattle.vf_sorts.specs.declared.sort.Head.TheVariants as heads
use Rattle.vf_sorts.specs.Sorts.{Sort, Sorts, sort, no_sorts, and_sort}
use Rattle.vf_sorts.specs.Unknowns.{Filling, leaf, headed, filled, filled_all, instance_of, instance, instances}
use Rattle.vf_fixpoint_laws.specs.values.Instances.{Instance, headed_at, placed, all_placed}

module _ (g : Instance) (a f : Filling) where
  -- what stands for an unknown sort, once sorts stand for the type parameters in it
  abbrev pub unknown_at : Filling
  unknown_at u = placed g a (f u)

  -- what stands for a type parameter where so many unknown sorts, from a first on, stand for the first of them
  abbrev pub fresh_at : ℕ → ℕ → Instance
  fresh_at first n i = if nat_lt i n then unknown_at (first + i) else g i

  fresh_placed : (first i : ℕ) (b : Bool) → placed g a (filled f (leaf (if b then heads.Unknown (first + i) else heads.Parameter i))) ≡ (if b then unknown_at (first + i) else g i)
  fresh_placed first i true = refl
  fresh_placed first i false = refl

  head_used : (first n : ℕ) (h : Head) (ts us : Sorts) → all_placed g a (filled_all f ts) ≡ us → placed g a (filled f (instance_of first n h ts)) ≡ headed_at (fresh_at first n) unknown_at h us
  head_used first n heads.Int ts us e = ap (sort heads.Int) e
  head_used first n heads.Bool ts us e = ap (sort heads.Bool) e
  head_used first n (heads.Pointer w) ts us e = ap (sort (heads.Pointer w)) e
  head_used first n heads.Real ts us e = ap (sort heads.Real) e
  head_used first n heads.Any ts us e = ap (sort heads.Any) e
  head_used first n (heads.Parameter i) ts us e = fresh_placed first i (nat_lt i n)
  head_used first n (heads.Unknown u) ts us e = refl
  head_used first n (heads.Datatype d) ts us e = ap (sort (heads.Datatype d)) e
  head_used first n heads.Predicate ts us e = ap (sort heads.Predicate) e

  mutual
    -- an instance of a scheme's sort, in which sorts are placed
    pub instance_used : (first n : ℕ) (t : Sort) → placed g a (filled f (instance first n t)) ≡ placed (fresh_at first n) unknown_at t
    instance_used first n (sort h ts) = head_used first n h (instances first n ts) (all_placed (fresh_at first n) unknown_at ts) (instances_used first n ts)

    pub instances_used : (first n : ℕ) (ts : Sorts) → all_placed g a (filled_all f (instances first n ts)) ≡ all_placed (fresh_at first n) unknown_at ts
    instances_used first n no_sorts = refl
    instances_used first n (and_sort t ts) = ap₂ and_sort (instance_used first n t) (instances_used first n ts)

  -- ---- a sort that has no type parameters of its own
  head_plain : (h : Head) (ts us : Sorts) → all_placed g a ts ≡ us → placed g a (headed f h ts) ≡ headed_at g unknown_at h us
  head_plain heads.Int ts us e = ap (sort heads.Int) e
  head_plain heads.Bool ts us e = ap (sort heads.Bool) e
  head_plain (heads.Pointer w) ts us e = ap (sort (heads.Pointer w)) e
  head_plain heads.Real ts us e = ap (sort heads.Real) e
  head_plain heads.Any ts us e = ap (sort heads.Any) e
  head_plain (heads.Parameter i) ts us e = refl
  head_plain (heads.Unknown u) ts us e = refl
  head_plain (heads.Datatype d) ts us e = ap (sort (heads.Datatype d)) e
  head_plain heads.Predicate ts us e = ap (sort heads.Predicate) e

  mutual
    plain_used : (t : Sort) → placed g a (filled f t) ≡ placed g unknown_at t
    plain_used (sort h ts) = head_plain h (filled_all f ts) (all_placed g unknown_at ts) (all_plain_used ts)

    all_plain_used : (ts : Sorts) → all_placed g a (filled_all f ts) ≡ all_placed g unknown_at ts
    all_plain_used no_sorts = refl
    all_plain_used (and_sort t ts) = ap₂ and_sort (plain_used t) (all_plain_used ts)

  nothing_fresh : (first i : ℕ) (b : Bool) → nat_lt i 0 ≡ b → (if b then unknown_at (first + i) else g i) ≡ g i
  nothing_fresh first i true e = absurd (let lt : i < 0 = grind (arith, nat_tests) in omega (arith, lt))
  nothing_fresh first i false e = refl

  none_fresh : (first : ℕ) → fresh_at first 0 ≡ g
  none_fresh first j i = nothing_fresh first i (nat_lt i 0) refl j

  -- its instance is the sort itself
  pub none_used : (first : ℕ) (t : Sort) → placed g a (filled f t) ≡ placed g a (filled f (instance first 0 t))
  none_used first t = plain_used t ∙ ap (λ (k : Instance). placed k unknown_at t) (sym (none_fresh first)) ∙ sym (instance_used first 0 t)
