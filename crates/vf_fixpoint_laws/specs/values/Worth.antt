-- Which values a sort has. Values are finite trees: a constructor's term has values of the arguments' sorts for its parts.
use Rattle.std.specs.Prelude.{◌≡◌, ◌⊎◌, ℕ, Bool, true, List, [], ◌∷◌, map}
use Rattle.vf_model.specs.Values.{Value, Values, none, more}
use Rattle.vf_model.specs.Values as values
use Rattle.vf_meaning.specs.Fractions.{IsPositive}
use Rattle.vf_sorts.specs.declared.sort.Head.{Head}
use Rattle.vf_sorts.specs.declared.sort.Head.TheVariants as heads
use Rattle.vf_sorts.specs.Sorts.{Sort}
use Rattle.vf_sorts.specs.Told.{AreAlike}
use Rattle.vf_sorts.specs.Pairs.{head_of}
use Rattle.vf_sorts.specs.Unknowns.{Filling}
use Rattle.vf_sorting.specs.declared.scheme.Scheme.{Scheme}
use Rattle.vf_sorting.specs.Kinds.{is_pointer}
use Rattle.vf_fixpoint_laws.specs.values.Instances.{Instance, placed}
use Rattle.vf_fixpoint_laws.specs.values.Declares.{BuildsPredicates, BuildsTerms, Declared}

-- a set of values for each type parameter, by its number
abbrev pub Sets : Type 1
Sets = ℕ → Value → Type 0

-- A sort with a head has a value that has some sorts of its own: a type parameter where the value is in its set; `any` where it is in a set, or has a sort of its own; and each other one where it is one of those
abbrev pub TakesBy : Sets → Value → (Sort → Type 0) → Head → Sort → Type 0
TakesBy sets v Own (heads.Parameter i) t = sets i v
TakesBy sets v Own heads.Any t = ((i : ℕ) × sets i v) ⊎ ((u : Sort) × Own u)
TakesBy sets v Own h t = Own t

-- the same of a sort by its head
abbrev pub Takes : Sets → Value → (Sort → Type 0) → Sort → Type 0
Takes sets v Own t = TakesBy sets v Own (head_of t) t

abbrev mutual
  -- A value has a sort of its own, which is no type parameter and not `any`: each pointer and each function has every sort of pointers, and a fraction is positive; a constructor's term and a predicate at its first arguments have the sort of the whole, where their parts have those of the arguments, at some instance of what the constructor or the predicate may be used at
  pub HasOwn : Declared → Sets → Value → Sort → Type 0
  HasOwn d sets (values.Number z) t = head_of t ≡ heads.Int
  HasOwn d sets (values.Truth b) t = head_of t ≡ heads.Bool
  HasOwn d sets values.Null t = is_pointer t ≡ true
  HasOwn d sets (values.Pointer b o) t = is_pointer t ≡ true
  HasOwn d sets (values.Function g) t = is_pointer t ≡ true
  HasOwn d sets (values.Constructed c vs) t = (x : Scheme) × BuildsTerms d c x × (g : Instance) × (f : Filling) × AreAlike (placed g f x.result) t × HaveValues d sets vs (map (placed g f) x.arguments)
  HasOwn d sets (values.Predicate p vs) t = (x : Scheme) × BuildsPredicates d p x × (g : Instance) × (f : Filling) × AreAlike (placed g f x.result) t × HaveValues d sets vs (map (placed g f) x.arguments)
  HasOwn d sets (values.Fraction q) t = (head_of t ≡ heads.Real) × IsPositive q

  -- sorts have values, one by one
  pub HaveValues : Declared → Sets → Values → List Sort → Type 0
  HaveValues d sets none [] = Unit {0}
  HaveValues d sets (more v vs) (t ∷ ts) = Takes sets v (HasOwn d sets v) t × HaveValues d sets vs ts
  HaveValues d sets _ _ = ⊥

-- a sort has a value, where type parameters have the values of sets
abbrev pub HasValue : Declared → Sets → Value → Sort → Type 0
HasValue d sets v t = Takes sets v (HasOwn d sets v) t

-- a test of values for each type parameter, by its number
abbrev pub Tests : Type 0
Tests = ℕ → Value → Bool

-- the sets of the values that pass tests
abbrev pub passing : Tests → Sets
passing tests i v = tests i v ≡ true
