-- What is known of unknown sorts, and the sorts that agree with it.
use Rattle.std.proofs.Common.{◌≡◌, ◌≢◌, ℕ, zero, suc, [], ◌∷◌, true, false, Option, Some, None, refl, sym, ◌∙◌, ap, ap₂, arith}
use Rattle.std.specs.Prelude.{nat_eq, slice_get, slice_set, map}
use Rattle.std.specs.Option.{option_map}
use Rattle.std.proofs.Math.Decide.{ℕ_discrete}
use Rattle.std.proofs.lemmas.Bool.Decides.{nat_tests}
use Rattle.vf_sorts.specs.declared.sort.Head.{Head}
use Rattle.vf_sorts.specs.declared.sort.Head.TheVariants as heads
use Rattle.vf_sorts.specs.Sorts.{Sort, Sorts, sort, no_sorts, and_sort}
use Rattle.vf_sorts.specs.Unknowns.{Filling, leaf, headed, filled, filled_all, Known, known_or, by_known, only}
use Rattle.vf_sorts.specs.Told.{untold, untold_all, AreAlike, as_told}
use Rattle.vf_sorts.proofs.Filled.{filled_twice}

-- fillings that are alike give alike sorts
headed_by : (f g : Filling) → ((u : ℕ) → f u ≡ g u) → (h : Head) (ts us : Sorts) → ts ≡ us → headed f h ts ≡ headed g h us
headed_by f g same heads.Int ts us e = ap (sort heads.Int) e
headed_by f g same heads.Bool ts us e = ap (sort heads.Bool) e
headed_by f g same (heads.Pointer w) ts us e = ap (sort (heads.Pointer w)) e
headed_by f g same heads.Real ts us e = ap (sort heads.Real) e
headed_by f g same heads.Any ts us e = ap (sort heads.Any) e
headed_by f g same (heads.Parameter i) ts us e = ap (sort (heads.Parameter i)) e
headed_by f g same (heads.Unknown u) ts us e = same u
headed_by f g same (heads.Datatype d) ts us e = ap (sort (heads.Datatype d)) e
headed_by f g same heads.Predicate ts us e = ap (sort heads.Predicate) e

mutual
  pub filled_by : (f g : Filling) → ((u : ℕ) → f u ≡ g u) → (s : Sort) → filled f s ≡ filled g s
  filled_by f g same (sort h ts) = headed_by f g same h (filled_all f ts) (filled_all g ts) (all_filled_by f g same ts)

  all_filled_by : (f g : Filling) → ((u : ℕ) → f u ≡ g u) → (ts : Sorts) → filled_all f ts ≡ filled_all g ts
  all_filled_by f g same no_sorts = refl
  all_filled_by f g same (and_sort t ts) = ap₂ and_sort (filled_by f g same t) (all_filled_by f g same ts)

-- the same of sorts that are alike up to what pointers tell
headed_alike : (f g : Filling) → ((u : ℕ) → AreAlike (f u) (g u)) → (h : Head) (ts us : Sorts) → untold_all ts ≡ untold_all us → AreAlike (headed f h ts) (headed g h us)
headed_alike f g same heads.Int ts us e = ap (sort heads.Int) e
headed_alike f g same heads.Bool ts us e = ap (sort heads.Bool) e
headed_alike f g same (heads.Pointer w) ts us e = ap (sort (heads.Pointer None)) e
headed_alike f g same heads.Real ts us e = ap (sort heads.Real) e
headed_alike f g same heads.Any ts us e = ap (sort heads.Any) e
headed_alike f g same (heads.Parameter i) ts us e = ap (sort (heads.Parameter i)) e
headed_alike f g same (heads.Unknown u) ts us e = same u
headed_alike f g same (heads.Datatype d) ts us e = ap (sort (heads.Datatype d)) e
headed_alike f g same heads.Predicate ts us e = ap (sort heads.Predicate) e

mutual
  filled_alike : (f g : Filling) → ((u : ℕ) → AreAlike (f u) (g u)) → (s : Sort) → AreAlike (filled f s) (filled g s)
  filled_alike f g same (sort h ts) = headed_alike f g same h (filled_all f ts) (filled_all g ts) (all_filled_alike f g same ts)

  all_filled_alike : (f g : Filling) → ((u : ℕ) → AreAlike (f u) (g u)) → (ts : Sorts) → untold_all (filled_all f ts) ≡ untold_all (filled_all g ts)
  all_filled_alike f g same no_sorts = refl
  all_filled_alike f g same (and_sort t ts) = ap₂ and_sort (filled_alike f g same t) (all_filled_alike f g same ts)

-- something sees sorts so that those are alike in which what is alike stands for the unknown ones
abbrev pub Respects : (Sort → Sort) → Type 0
Respects o = (f g : Filling) → ((u : ℕ) → o (f u) ≡ o (g u)) → (s : Sort) → o (filled f s) ≡ o (filled g s)

pub untold_respects : Respects untold
untold_respects = filled_alike

pub told_respects : Respects as_told
told_respects = filled_by

-- sorts agree with what is known, as something sees them
abbrev pub AgreesSeen : (Sort → Sort) → Filling → Known → Type 0
AgreesSeen o f known = (u : ℕ) (s : Sort) → slice_get known u ≡ Some (Some s) → o (f u) ≡ o (filled f s)

-- what is known stands for the sorts that agree with it
pub agreed_seen : (o : Sort → Sort) → Respects o → (f : Filling) (known : Known) → AgreesSeen o f known → (s : Sort) → o (filled f (filled (by_known known) s)) ≡ o (filled f s)
agreed_seen o r f known a s = ap o (filled_twice (by_known known) f s) ∙ r (λ u. filled f (by_known known u)) f (λ u. at u (slice_get known u) refl) s
  where
    at : (u : ℕ) (k : Option (Option Sort)) → slice_get known u ≡ k → o (filled f (known_or u k)) ≡ o (f u)
    at u (Some (Some t)) e = sym (a u t e)
    at u (Some None) e = refl
    at u None e = refl

-- the one sort stands for its unknown sort, and each other one for itself
pub only_same : (u v : ℕ) (s : Sort) → u ≡ v → only u s v ≡ s
only_same u v s e = let yes : nat_eq u v ≡ true = grind (arith, nat_tests) in rw yes refl

pub only_other : (u v : ℕ) (s : Sort) → u ≢ v → only u s v ≡ leaf (heads.Unknown v)
only_other u v s n = let no : nat_eq u v ≡ false = grind (arith, nat_tests) in rw no refl

-- what comes to be known stands at its place
pub learnt : (known : Known) (g : Sort → Sort) (u : ℕ) (s : Sort) (o : Option Sort) → slice_get known u ≡ Some o → slice_get (slice_set (map (option_map g) known) u (Some s)) u ≡ Some (Some s)
learnt [] g u s o e = absurd cc
learnt (k ∷ known) g zero s o e = refl
learnt (k ∷ known) g (suc u) s o e = learnt known g u s o e

pub kept : (known : Known) (g : Sort → Sort) (u v : ℕ) (s : Sort) → u ≢ v → slice_get (slice_set (map (option_map g) known) u (Some s)) v ≡ option_map (option_map g) (slice_get known v)
kept [] g zero v s n = refl
kept [] g (suc u) v s n = refl
kept (k ∷ known) g zero zero s n = absurd (n refl)
kept (k ∷ known) g zero (suc v) s n = taken known v
  where
    taken : (known : Known) (v : ℕ) → slice_get (map (option_map g) known) v ≡ option_map (option_map g) (slice_get known v)
    taken [] v = refl
    taken (k ∷ known) zero = refl
    taken (k ∷ known) (suc v) = taken known v
kept (k ∷ known) g (suc u) zero s n = refl
kept (k ∷ known) g (suc u) (suc v) s n = kept known g u v s (λ e. n (ap suc e))

-- the unknown sort's own sort stands for it wherever both are equal
pub substituted : (o : Sort → Sort) → Respects o → (f : Filling) (u : ℕ) (s : Sort) → o (f u) ≡ o (filled f s) → (t : Sort) → o (filled f (filled (only u s) t)) ≡ o (filled f t)
substituted o r f u s e t = ap o (filled_twice (only u s) f t) ∙ r (λ v. filled f (only u s v)) f at t
  where
    at : (v : ℕ) → o (filled f (only u s v)) ≡ o (f v)
    at v = by (ℕ_discrete u v)
      where
        by : Dec (u ≡ v) → o (filled f (only u s v)) ≡ o (f v)
        by (yes p) = ap (λ (q : Sort). o (filled f q)) (only_same u v s p) ∙ sym e ∙ ap (λ (w : ℕ). o (f w)) p
        by (no n) = ap (λ (q : Sort). o (filled f q)) (only_other u v s n)
