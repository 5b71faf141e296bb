-- When units have a linked environment, and what is not leaked in it. Each law is the contract of a public function with an empty body.
use Rattle.std.specs.Prelude.{◌≡◌, List, Contains, IsFalse, Option, Some}
use Rattle.vf_tree.specs.Core.{Identity}
use Rattle.vf_meaning.specs.Ghost.{ConstructorTree, FixpointTree}
use Rattle.vf_meaning.specs.Structural.{AreOrdered}
use Rattle.vf_meaning.specs.Assertions.{GhostText, Environment}
use Rattle.vf_meaning.specs.Environments.{MayLeak, IsLinked}

-- what two tables say of one name is the same
abbrev pub SayTheSame : {A B : Type 0} → (A → Option B) → (A → Option B) → Type 0
SayTheSame {A = A} {B = B} f g = (x : A) (k j : B) → f x ≡ Some k → g x ≡ Some j → k ≡ j

-- Two units agree: what both declare of a name, as what they have by the same header, is the same tree, and a datatype of which both have a constructor has no others in the second than in the first
pub record Agree (u v : Environment) : Type 0 where
  pub constructors : SayTheSame u.constructors v.constructors
  pub closed : (c d : Identity) (k j : ConstructorTree) → v.constructors c ≡ Some k → u.constructors d ≡ Some j → k.datatype ≡ j.datatype → u.constructors c ≡ Some k
  pub fixpoints : (f h : FixpointTree) → Contains u.fixpoints f → Contains v.fixpoints h → f.identity ≡ h.identity → f ≡ h
  pub predicates : SayTheSame u.predicates v.predicates
  pub bodies : SayTheSame u.bodies v.bodies
  pub functions : SayTheSame u.functions v.functions
  pub prototypes : SayTheSame u.prototypes v.prototypes
  pub types : SayTheSame u.types v.types
  pub called : (g : Identity) → SayTheSame (u.called g) (v.called g)

-- units can be linked: every two of them agree, and the fixpoints of each stand in order
pub record CanLink (units : List Environment) : Type 0 where
  pub agree : (u v : Environment) → Contains units u → Contains units v → Agree u v
  pub ordered : (u : Environment) → Contains units u → AreOrdered u.fixpoints

-- units that can be linked have a linked environment
abbrev pub UnitsLink : Type 0
UnitsLink = (units : List Environment) → CanLink units → (e : Environment) × IsLinked units e

-- units that have a linked environment agree, so that no less than this will do
abbrev pub LinkedUnitsAgree : Type 0
LinkedUnitsAgree = (units : List Environment) (e : Environment) → IsLinked units e → (u v : Environment) → Contains units u → Contains units v → Agree u v

-- no `leak` stands in the ghost text of an environment
abbrev pub HasNoLeak : Environment → Type 0
HasNoLeak e = (text : GhostText) → IsFalse (e.leaks text)

-- where no `leak` stands in any of several units, nothing is leaked in any ghost text of their linked environment, whichever lemmas it calls
abbrev pub NoLeaksAreLinked : Type 0
NoLeaksAreLinked = (units : List Environment) (e : Environment) → IsLinked units e → ((u : Environment) → Contains units u → HasNoLeak u) → (text : GhostText) → MayLeak e text → ⊥
