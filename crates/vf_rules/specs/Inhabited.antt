-- Sorts that have values: where each declared datatype has one, every sort that is written in a unit does.
use Rattle.std.specs.Prelude.{◌≡◌, ℕ, List, [], ◌∷◌, Some}
use Rattle.vf_tree.specs.Core.{Identity}
use Rattle.vf_model.specs.Values.{Value}
use Rattle.vf_meaning.specs.Ghost.{Sort, Integers, Truths, Pointers, Fractions, Anything, Parameter, Datatype, Predicates, Sorts, none, more, count_sorts, ConstructorTree}
use Rattle.vf_meaning.specs.Assertions.{Environment}
use Rattle.vf_meaning.specs.Sorts.{HasSort}
use Rattle.vf_rules.specs.Predicates.{AreInhabited}

-- a sort has a value
abbrev pub HasValue : Environment → Sort → Type 0
HasValue e s = (w : Value) × HasSort e w s

-- each of several sorts has a value
abbrev pub HaveValues : Environment → Sorts → Type 0
HaveValues e none = Unit {0}
HaveValues e (more s ss) = HasValue e s × HaveValues e ss

-- a datatype is declared, with so many type parameters
abbrev pub IsDeclared : Environment → Identity → ℕ → Type 0
IsDeclared e d n = (c : Identity) × (k : ConstructorTree) × (e.constructors c ≡ Some k) × (k.datatype ≡ d) × (k.parameters ≡ n)

-- each datatype that is declared has a value at sorts that have values
pub record HaveDatatypesValues (e : Environment) : Type 0 where
  pub by : (d : Identity) (ss : Sorts) → IsDeclared e d (count_sorts ss) → HaveValues e ss → HasValue e (Datatype d ss)

-- a sort is closed: no type parameter stands in it, and its datatypes are declared and stand at as many sorts as they have type parameters
abbrev mutual
  pub IsClosed : Environment → Sort → Type 0
  IsClosed e Integers = Unit {0}
  IsClosed e Truths = Unit {0}
  IsClosed e Pointers = Unit {0}
  IsClosed e Fractions = Unit {0}
  IsClosed e Anything = Unit {0}
  IsClosed e (Parameter k) = ⊥
  IsClosed e (Datatype d ss) = IsDeclared e d (count_sorts ss) × AreClosed e ss
  IsClosed e (Predicates ss) = AreClosed e ss

  -- each of several sorts in a row is closed
  pub AreClosed : Environment → Sorts → Type 0
  AreClosed e none = Unit {0}
  AreClosed e (more s ss) = IsClosed e s × AreClosed e ss

-- the sorts of names are closed
abbrev pub AreNamesClosed : Environment → List Sort → Type 0
AreNamesClosed e [] = Unit {0}
AreNamesClosed e (s ∷ sorts) = IsClosed e s × AreNamesClosed e sorts

-- where each datatype has values, names of closed sorts have
abbrev pub ClosedSortsHaveValues : Type 0
ClosedSortsHaveValues = (e : Environment) (sorts : List Sort) → HaveDatatypesValues e → AreNamesClosed e sorts → AreInhabited e sorts
