-- Sorts that are not known yet, and what is known of them.
use Rattle.std.specs.Prelude.{◌≡◌, ℕ, ◌+◌, ◌<◌, nat_eq, nat_lt, Bool, true, false, ◌&&◌, ◌||◌, if◌then◌else◌, List, Option, Some, None, slice_get, slice_set, map}
use Rattle.std.specs.Option.{option_map}
use Rattle.vf_sorts.specs.declared.sort.Head.{Head}
use Rattle.vf_sorts.specs.declared.sort.Head.TheVariants as heads
use Rattle.vf_sorts.specs.Sorts.{Sort, Sorts, sort, no_sorts, and_sort, row}
use Rattle.vf_sorts.specs.Told.{AreAlike}

-- sorts for the unknown ones, by their numbers
abbrev pub Filling : Type 0
Filling = ℕ → Sort

-- a head without parts
abbrev pub leaf : Head → Sort
leaf h = sort h no_sorts

-- a head over parts, where an unknown sort is what fills it
abbrev pub headed : Filling → Head → Sorts → Sort
headed f (heads.Unknown u) ts = f u
headed f h ts = sort h ts

abbrev mutual
  -- a sort in which what fills them stands for the unknown ones
  pub filled : Filling → Sort → Sort
  filled f (sort h ts) = headed f h (filled_all f ts)

  -- the same of sorts in a row
  pub filled_all : Filling → Sorts → Sorts
  filled_all f no_sorts = no_sorts
  filled_all f (and_sort t ts) = and_sort (filled f t) (filled_all f ts)

-- what is known of the unknown sorts: of each a sort, in which others may be unknown, or nothing
abbrev pub Known : Type 0
Known = List (Option Sort)

-- a sort of which something or nothing is known
abbrev pub known_or : ℕ → Option (Option Sort) → Sort
known_or u (Some (Some s)) = s
known_or u _ = leaf (heads.Unknown u)

-- each unknown sort stands for what is known of it, and for itself where nothing is
abbrev pub by_known : Known → Filling
by_known known u = known_or u (slice_get known u)

-- sorts for the unknown ones agree with what is known, up to what pointers tell
abbrev pub Agrees : Filling → Known → Type 0
Agrees f known = (u : ℕ) (s : Sort) → slice_get known u ≡ Some (Some s) → AreAlike (f u) (filled f s)

-- sorts for the unknown ones agree with what is known, and with what pointers tell in it
abbrev pub AgreesAsTold : Filling → Known → Type 0
AgreesAsTold f known = (u : ℕ) (s : Sort) → slice_get known u ≡ Some (Some s) → f u ≡ filled f s

-- every unknown sort is `any`
abbrev pub any_sort : Filling
any_sort u = leaf heads.Any

-- each unknown sort stands for what is known of it, and what is unknown even so is `any`
abbrev pub settling : Known → Filling
settling known u = filled any_sort (by_known known u)

-- what is said of a head's unknown sort, and of its parts where it is none
abbrev pub for_head : (ℕ → Type 0) → Head → Type 0 → Type 0
for_head P (heads.Unknown u) parts = P u
for_head P h parts = parts

abbrev mutual
  -- each unknown sort in a sort is such
  pub EachUnknown : (ℕ → Type 0) → Sort → Type 0
  EachUnknown P (sort h ts) = for_head P h (EachUnknownOf P ts)

  -- the same of sorts in a row
  pub EachUnknownOf : (ℕ → Type 0) → Sorts → Type 0
  EachUnknownOf P no_sorts = Unit {0}
  EachUnknownOf P (and_sort t ts) = EachUnknown P t × EachUnknownOf P ts

-- the unknown sorts in a sort have numbers below this
abbrev pub IsBelow : ℕ → Sort → Type 0
IsBelow n s = EachUnknown (λ u. u < n) s

-- the same of each of some sorts
abbrev pub AreBelow : ℕ → List Sort → Type 0
AreBelow n ss = EachUnknownOf (λ u. u < n) (row ss)

-- whether the unknown sort in a head has a number below this, or its parts have such
abbrev pub numbered_in_head : ℕ → Head → Bool → Bool
numbered_in_head n (heads.Unknown u) parts = nat_lt u n
numbered_in_head n h parts = parts

abbrev mutual
  -- whether the unknown sorts in a sort have numbers below this
  pub numbered_below : ℕ → Sort → Bool
  numbered_below n (sort h ts) = numbered_in_head n h (all_numbered_below n ts)

  -- the same of sorts in a row
  pub all_numbered_below : ℕ → Sorts → Bool
  all_numbered_below n no_sorts = true
  all_numbered_below n (and_sort t ts) = numbered_below n t && all_numbered_below n ts

-- nothing is known of the unknown sorts in a sort
abbrev pub IsOpen : Known → Sort → Type 0
IsOpen known s = EachUnknown (λ u. slice_get known u ≡ Some None) s

-- nothing is known of the unknown sorts in what is known
abbrev pub IsResolved : Known → Type 0
IsResolved known = (u : ℕ) (s : Sort) → slice_get known u ≡ Some (Some s) → IsOpen known s

-- an unknown sort stands in a head, or in its parts where it is no unknown sort
abbrev pub is_in_head : ℕ → Head → Bool → Bool
is_in_head u (heads.Unknown v) parts = nat_eq u v
is_in_head u h parts = parts

abbrev mutual
  -- an unknown sort stands in a sort
  pub is_in : ℕ → Sort → Bool
  is_in u (sort h ts) = is_in_head u h (is_in_some u ts)

  -- the same of sorts in a row
  pub is_in_some : ℕ → Sorts → Bool
  is_in_some u no_sorts = false
  is_in_some u (and_sort t ts) = is_in u t || is_in_some u ts

-- one unknown sort stands for a sort, and the others for themselves
abbrev pub only : ℕ → Sort → Filling
only u s v = if nat_eq u v then s else leaf (heads.Unknown v)

-- what is known where something comes to be known of one unknown sort
abbrev pub with_known : Known → ℕ → Sort → Known
with_known known u s = slice_set (map (option_map (filled (only u s))) known) u (Some s)

-- a type parameter with a number below a count stands for the unknown sort that is so many behind the first
abbrev pub instance_of : ℕ → ℕ → Head → Sorts → Sort
instance_of first count (heads.Parameter i) ts = leaf (if nat_lt i count then heads.Unknown (first + i) else heads.Parameter i)
instance_of first count h ts = sort h ts

abbrev mutual
  -- a sort in which unknown sorts, from the first on, stand for the type parameters
  pub instance : ℕ → ℕ → Sort → Sort
  instance first count (sort h ts) = instance_of first count h (instances first count ts)

  -- the same of sorts in a row
  pub instances : ℕ → ℕ → Sorts → Sorts
  instances first count no_sorts = no_sorts
  instances first count (and_sort t ts) = and_sort (instance first count t) (instances first count ts)
