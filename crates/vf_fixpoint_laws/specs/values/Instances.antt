-- Sorts in place of type parameters, and of unknown sorts.
use Rattle.std.specs.Prelude.{ℕ}
use Rattle.vf_sorts.specs.declared.sort.Head.{Head}
use Rattle.vf_sorts.specs.declared.sort.Head.TheVariants as heads
use Rattle.vf_sorts.specs.Sorts.{Sort, Sorts, sort, no_sorts, and_sort}
use Rattle.vf_sorts.specs.Unknowns.{Filling, any_sort}
use Rattle.vf_terms.specs.Settings.{Setting, settled}

-- sorts for type parameters, by their numbers
abbrev pub Instance : Type 0
Instance = ℕ → Sort

-- a head over parts, where a type parameter and an unknown sort are what stands for them
abbrev pub headed_at : Instance → Filling → Head → Sorts → Sort
headed_at g f (heads.Parameter i) ts = g i
headed_at g f (heads.Unknown u) ts = f u
headed_at g f h ts = sort h ts

abbrev mutual
  -- a sort in which sorts stand for the type parameters, and others for the unknown sorts
  pub placed : Instance → Filling → Sort → Sort
  placed g f (sort h ts) = headed_at g f h (all_placed g f ts)

  -- the same of sorts in a row
  pub all_placed : Instance → Filling → Sorts → Sorts
  all_placed g f no_sorts = no_sorts
  all_placed g f (and_sort t ts) = and_sort (placed g f t) (all_placed g f ts)

-- a sort as it is known in the end, in which sorts stand for the type parameters
abbrev pub settled_at : Setting → Instance → Sort → Sort
settled_at s g t = placed g any_sort (settled s t)
