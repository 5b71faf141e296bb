-- Settled sorts agree with what is known.
use Rattle.std.proofs.Common.{◌≡◌, Some, None, refl, sym, ◌∙◌, ap, ap₂}
use Rattle.std.specs.Prelude.{slice_get}
use Rattle.vf_sorts.specs.declared.sort.Head.TheVariants as heads
use Rattle.vf_sorts.specs.Sorts.{Sort, Sorts, sort, no_sorts, and_sort}
use Rattle.vf_sorts.specs.Unknowns.{Filling, filled, filled_all, any_sort, known_or, settling, EachUnknown, EachUnknownOf}
use Rattle.vf_sorts.proofs.Learning.{each_more}
use Rattle.vf_sorts.specs.Laws.{SettlingAgrees}

mutual
  -- fillings that are alike at each unknown sort in a sort give alike sorts
  filled_at : (f g : Filling) (s : Sort) → EachUnknown (λ u. f u ≡ g u) s → filled f s ≡ filled g s
  filled_at f g (sort heads.Int ts) h = ap (sort heads.Int) (all_filled_at f g ts h)
  filled_at f g (sort heads.Bool ts) h = ap (sort heads.Bool) (all_filled_at f g ts h)
  filled_at f g (sort (heads.Pointer w) ts) h = ap (sort (heads.Pointer w)) (all_filled_at f g ts h)
  filled_at f g (sort heads.Real ts) h = ap (sort heads.Real) (all_filled_at f g ts h)
  filled_at f g (sort heads.Any ts) h = ap (sort heads.Any) (all_filled_at f g ts h)
  filled_at f g (sort (heads.Parameter i) ts) h = ap (sort (heads.Parameter i)) (all_filled_at f g ts h)
  filled_at f g (sort (heads.Unknown u) ts) h = h
  filled_at f g (sort (heads.Datatype d) ts) h = ap (sort (heads.Datatype d)) (all_filled_at f g ts h)
  filled_at f g (sort heads.Predicate ts) h = ap (sort heads.Predicate) (all_filled_at f g ts h)

  all_filled_at : (f g : Filling) (ts : Sorts) → EachUnknownOf (λ u. f u ≡ g u) ts → filled_all f ts ≡ filled_all g ts
  all_filled_at f g no_sorts h = refl
  all_filled_at f g (and_sort t ts) h = ap₂ and_sort (filled_at f g t h.0) (all_filled_at f g ts h.1)

pub settling_agrees : SettlingAgrees
settling_agrees known resolved u s e =
    ap (λ o. filled any_sort (known_or u o)) e
    ∙ filled_at any_sort (settling known) s (each_more (λ v. slice_get known v ≡ Some None) (λ v. any_sort v ≡ settling known v) (λ v o. sym (ap (λ q. filled any_sort (known_or v q)) o)) s (resolved u s e))
