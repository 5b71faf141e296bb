-- What it tells of a value that a sort has it.
use Rattle.std.specs.Prelude.{◌≡◌, ℕ, ℤ, Bool}
use Rattle.vf_tree.specs.Core.{Identity}
use Rattle.vf_model.specs.Values.{Dyadic, Value, Values}
use Rattle.vf_model.specs.Values as values
use Rattle.vf_meaning.specs.Fractions.{IsPositive}
use Rattle.vf_sorts.specs.declared.sort.Head.TheVariants as heads
use Rattle.vf_sorts.specs.Sorts.{Sort, Sorts, sort}
use Rattle.vf_sorts.specs.Told.{AreAlike}
use Rattle.vf_sorts.specs.Unknowns.{leaf}
use Rattle.vf_declared.specs.declared.declaration.Constructor.{Constructor}
use Rattle.vf_declared.specs.declared.declaration.GhostDeclaration.TheVariants as ghosts
use Rattle.vf_sorting.specs.Kinds.{bool_sort, int_sort, pointer_sort, value_sort}
use Rattle.vf_fixpoint_laws.specs.values.Declares.{Declared, Declares}
use Rattle.vf_fixpoint_laws.specs.values.Worth.{HasValue, Sets, Tests, passing}

-- a value is null, a pointer or a function
abbrev pub IsPointing : Value → Type 0
IsPointing values.Null = Unit {0}
IsPointing (values.Pointer b o) = Unit {0}
IsPointing (values.Function g) = Unit {0}
IsPointing v = ⊥

-- a value is a term of a constructor of the datatype with a number
pub record IsTermOf (d : Declared) (n : ℕ) (v : Value) : Type 0 where
  pub identity : Identity
  pub parts : Values
  pub constructor_ : Constructor
  pub declares : Declares d identity (ghosts.Constructor constructor_)
  pub built : constructor_.datatype ≡ n
  pub is : v ≡ values.Constructed identity parts

-- the sort of integers has numbers alone, and the other sorts that are no type parameters have values of their own alone; what pointers tell tells nothing of values; and `any` has each value that a sort has
pub record SortsTell (d : Declared) (sets : Sets) : Type 0 where
  pub integers : (v : Value) → HasValue d sets v int_sort → (z : ℤ) × (v ≡ values.Number z)
  pub truths : (v : Value) → HasValue d sets v bool_sort → (b : Bool) × (v ≡ values.Truth b)
  pub pointers : (v : Value) → HasValue d sets v pointer_sort → IsPointing v
  pub fractions : (v : Value) → HasValue d sets v (leaf heads.Real) → (q : Dyadic) × IsPositive q × (v ≡ values.Fraction q)
  pub terms : (v : Value) (n : ℕ) (ts : Sorts) → HasValue d sets v (sort (heads.Datatype n) ts) → IsTermOf d n v
  pub alike : (v : Value) (t u : Sort) → AreAlike t u → HasValue d sets v t → HasValue d sets v u
  pub each : (v : Value) (t : Sort) → HasValue d sets v t → HasValue d sets v value_sort

-- sorts tell their values, where sets that are told by tests stand for the type parameters
abbrev pub SortsTellValues : Type 0
SortsTellValues = (d : Declared) (tests : Tests) → SortsTell d (passing tests)
