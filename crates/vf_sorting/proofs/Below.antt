-- Unknown sorts among those of which something or nothing is known.
use Rattle.std.proofs.Common.{◌≡◌, ℕ, ◌+◌, ◌<◌, ◌≤◌, [], ◌∷◌, ◌++◌, length, Bool, true, false, None, refl, ◌∙◌, ap, arith, append_assoc, replicate}
use Rattle.std.specs.Prelude.{nat_lt, if◌then◌else◌}
use Rattle.std.proofs.lemmas.Bool.Decides.{nat_tests}
use Rattle.std.proofs.lemmas.List.{length-replicate, length-append, replicate_more}
use Rattle.vf_sorts.specs.declared.sort.Head.TheVariants as heads
use Rattle.vf_sorts.specs.Sorts.{Sort, Sorts, sort, no_sorts, and_sort}
use Rattle.vf_sorts.specs.Unknowns.{EachUnknownOf, IsBelow, Known, instance, instances, leaf}
use Rattle.vf_sorts.proofs.Learning.{each_more}
use Rattle.vf_sorting.specs.Kinds.{with_fresh}

-- below more where below less
pub below_more : (m n : ℕ) → m ≤ n → (t : Sort) → IsBelow m t → IsBelow n t
below_more m n le t b = each_more (λ u. u < m) (λ u. u < n) (λ u lt. omega (arith, le, lt)) t b

-- an instance has the unknown sorts of the scheme and those that stand for its type parameters
mutual
  pub instance_below : (m first n : ℕ) → m ≤ first → (t : Sort) → IsBelow m t → IsBelow (first + n) (instance first n t)
  instance_below m first n le (sort heads.Int ts) b = instances_below m first n le ts b
  instance_below m first n le (sort heads.Bool ts) b = instances_below m first n le ts b
  instance_below m first n le (sort (heads.Pointer w) ts) b = instances_below m first n le ts b
  instance_below m first n le (sort heads.Real ts) b = instances_below m first n le ts b
  instance_below m first n le (sort heads.Any ts) b = instances_below m first n le ts b
  instance_below m first n le (sort (heads.Parameter i) ts) b = at (nat_lt i n) refl
    where
      at : (q : Bool) → nat_lt i n ≡ q → IsBelow (first + n) (leaf (if nat_lt i n then heads.Unknown (first + i) else heads.Parameter i))
      at true e = rw e (let lt : i < n = grind (arith, nat_tests) in omega (arith, lt))
      at false e = rw e tt
  instance_below m first n le (sort (heads.Unknown u) ts) b = omega (arith, le, b)
  instance_below m first n le (sort (heads.Datatype d) ts) b = instances_below m first n le ts b
  instance_below m first n le (sort heads.Predicate ts) b = instances_below m first n le ts b

  pub instances_below : (m first n : ℕ) → m ≤ first → (ts : Sorts) → EachUnknownOf (λ u. u < m) ts → EachUnknownOf (λ u. u < first + n) (instances first n ts)
  instances_below m first n le no_sorts b = tt
  instances_below m first n le (and_sort t ts) b = (instance_below m first n le t b.0, instances_below m first n le ts b.1)

-- unknown sorts that are added
pub fresh_more : (k : Known) (n : ℕ) → with_fresh k n ++ replicate 1 None ≡ with_fresh k (n + 1)
fresh_more k n = append_assoc k (replicate n None) (None ∷ []) ∙ ap (λ xs. k ++ xs) (replicate_more n None)

pub fresh_length : (k : Known) (n : ℕ) → length (with_fresh k n) ≡ length k + n
fresh_length k n = length-append k (replicate n None) ∙ ap (λ (m : ℕ). length k + m) (length-replicate n None)
