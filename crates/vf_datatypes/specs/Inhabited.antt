-- Which datatypes have a value.
use Rattle.std.specs.Prelude.{◌≡◌, ℕ, zero, suc, ◌+◌, ◌<◌, Bool, true, false, not, ◌&&◌, ◌||◌, nat_eq, nat_lt, List, [], ◌∷◌, slice_get, length, Option, Some, None}
use Rattle.std.specs.List.{list_all, list_any}
use Rattle.vf_sorts.specs.declared.sort.Head.{Head}
use Rattle.vf_sorts.specs.declared.sort.Head.TheVariants as heads
use Rattle.vf_sorts.specs.Sorts.{Sort, Sorts, sort, no_sorts, and_sort}
use Rattle.vf_declared.specs.declared.declaration.Datatype.{Datatype}
use Rattle.vf_declared.specs.declared.declaration.GhostDeclaration.{GhostDeclaration}
use Rattle.vf_declared.specs.declared.declaration.GhostDeclaration.TheVariants as ghosts
use Rattle.vf_declared.specs.declared.scope.Scope.{Scope}
use Rattle.vf_declared.specs.Scopes.{datatype_of, ghost_of}

-- the constructors of a datatype, by their numbers
abbrev pub constructors_in : Option Datatype → List ℕ
constructors_in None = []
constructors_in (Some d) = d.constructors

-- whether a type argument has a value, where it is told of the first of them; the others are taken to have one
abbrev pub parameter_has_value : List Bool → ℕ → Bool
parameter_has_value [] i = true
parameter_has_value (b ∷ told) zero = b
parameter_has_value (b ∷ told) (suc i) = parameter_has_value told i

-- all of some type arguments have a value
abbrev pub all_told : List Bool → Bool
all_told told = list_all (λ b. b) told

-- which datatypes have a value, where it is told which of their type arguments have one
abbrev pub Known : Type 0
Known = ℕ → List Bool → Bool

abbrev mutual
  -- A constructor of one datatype can have an argument of a sort: a value of the sort can be built before there is any of the datatype. Every sort but a datatype is taken to have one
  pub has_value : Known → ℕ → List Bool → Sort → Bool
  has_value known own told (sort (heads.Parameter i) ts) = parameter_has_value told i
  has_value known own told (sort (heads.Datatype k) ts) = not (nat_eq k own) && known k (have_values known own told ts)
  has_value known own told t = true

  -- the same of sorts in a row, one by one
  pub have_values : Known → ℕ → List Bool → Sorts → List Bool
  have_values known own told no_sorts = []
  have_values known own told (and_sort t ts) = has_value known own told t ∷ have_values known own told ts

-- a constructor can have all its arguments
abbrev pub can_build : Known → ℕ → List Bool → Option GhostDeclaration → Bool
can_build known own told (Some (ghosts.Constructor c)) = list_all (has_value known own told) c.arguments
can_build known own told g = false

-- one of the constructors of a datatype can
abbrev pub one_builds : Known → Scope → ℕ → List Bool → Bool
one_builds known s k told = list_any (λ c. can_build known k told (ghost_of s c)) (constructors_in (datatype_of s k))

-- A datatype that stands before has a value where all its type arguments have one, since it was accepted, and else where one of its constructors builds one, with so many datatypes inside one another at most
abbrev pub earlier : ℕ → Scope → Known
earlier zero s k told = all_told told
earlier (suc n) s k told = all_told told || one_builds (earlier n s) s k told

-- a datatype has a value: one of its constructors builds one, whatever its type parameters are
abbrev pub is_inhabited : Scope → ℕ → Bool
is_inhabited s k = one_builds (earlier (length s.datatypes) s) s k []

-- ---- what it means
-- a sort is no datatype and no type parameter
abbrev pub is_another : Sort → Bool
is_another (sort (heads.Parameter i) ts) = false
is_another (sort (heads.Datatype k) ts) = false
is_another t = true

-- a datatype has a constructor that takes arguments of these sorts
pub record IsConstructorOf (s : Scope) (k : ℕ) (arguments : List Sort) : Type 0 where
  pub at : ℕ
  pub number : ℕ
  pub stands : slice_get (constructors_in (datatype_of s k)) at ≡ Some number
  pub datatype : ℕ
  pub is : ghost_of s number ≡ Some (ghosts.Constructor (record { datatype = datatype; arguments = arguments }))

mutual
  -- A sort has a value, where it is told of type parameters that they have one: a value of a datatype is one that is built, and every sort but a datatype is taken to have one
  pub data HasValue (s : Scope) : List Bool → Sort → Type 0 where
    of_parameter : {told : List Bool} (i : ℕ) (ts : Sorts) → parameter_has_value told i ≡ true → HasValue s told (sort (heads.Parameter i) ts)
    of_datatype : {told : List Bool} (k : ℕ) (ts : Sorts) (own : List Bool) → AreToldRight s told own ts → IsBuilt s own k → HasValue s told (sort (heads.Datatype k) ts)
    of_another : {told : List Bool} (t : Sort) → is_another t ≡ true → HasValue s told t

  -- of sorts in a row, none is told to have a value that has none
  pub data AreToldRight (s : Scope) : List Bool → List Bool → Sorts → Type 0 where
    told_of_none : {told : List Bool} → AreToldRight s told [] no_sorts
    told_to_have : {told own : List Bool} {t : Sort} {ts : Sorts} → HasValue s told t → AreToldRight s told own ts → AreToldRight s told (true ∷ own) (and_sort t ts)
    told_to_lack : {told own : List Bool} {t : Sort} {ts : Sorts} → AreToldRight s told own ts → AreToldRight s told (false ∷ own) (and_sort t ts)

  -- a value of a datatype is built by one of its constructors, of arguments that have values
  pub data IsBuilt (s : Scope) : List Bool → ℕ → Type 0 where
    built : {told : List Bool} {k : ℕ} (arguments : List Sort) → IsConstructorOf s k arguments → AllHaveValues s told arguments → IsBuilt s told k

  -- each of some sorts has a value
  pub data AllHaveValues (s : Scope) : List Bool → List Sort → Type 0 where
    no_sort_left : {told : List Bool} → AllHaveValues s told []
    and_one : {told : List Bool} {t : Sort} {ts : List Sort} → HasValue s told t → AllHaveValues s told ts → AllHaveValues s told (t ∷ ts)

-- a datatype is below a number
abbrev pub is_datatype_below : ℕ → Head → Bool
is_datatype_below n (heads.Datatype k) = nat_lt k n
is_datatype_below n h = true

abbrev mutual
  -- all datatypes that a sort names are below a number
  pub names_below : ℕ → Sort → Bool
  names_below n (sort h ts) = is_datatype_below n h && all_name_below n ts

  -- the same of sorts in a row
  pub all_name_below : ℕ → Sorts → Bool
  all_name_below n no_sorts = true
  all_name_below n (and_sort t ts) = names_below n t && all_name_below n ts

-- the datatypes of a unit stand in order, as they are accepted: the constructors of each take none that stands behind it, and it has a value
pub record StandInOrder (s : Scope) : Type 0 where
  pub inhabited : (k : ℕ) → k < length s.datatypes → is_inhabited s k ≡ true
  pub ordered : (k : ℕ) (arguments : List Sort) → IsConstructorOf s k arguments → list_all (names_below (k + 1)) arguments ≡ true

-- where datatypes stand in order, each sort over them has a value
abbrev pub ValuesAreBuilt : Type 0
ValuesAreBuilt = (s : Scope) → StandInOrder s → (t : Sort) → names_below (length s.datatypes) t ≡ true → HasValue s [] t
