-- What an environment says of a name, when one environment has all that another has, and the environment of linked units.
use Rattle.std.specs.Prelude.{◌≡◌, ◌⊎◌, ℕ, List, Contains, IsTrue, Option, Some, None}
use Rattle.vf_tree.specs.Core.{Identity}
use Rattle.vf_meaning.specs.Ghost.{ConstructorTree, FixpointTree}
use Rattle.vf_meaning.specs.Structural.{AreOrdered}
use Rattle.vf_meaning.specs.Assertions.{BodyName, BodyTree, PredicateTree, ContractTree, GhostText, BodyOf, Environment}

-- the first of two, if there is one, and else the second
abbrev pub option_or : {A : Type 0} → Option A → Option A → Option A
option_or (Some x) o = Some x
option_or None o = o

-- the contract under which the body of a function or of a lemma is checked: the one at its definition, or that of its prototype where the definition has none
abbrev pub own_contract : Environment → Identity → Option ContractTree
own_contract e g = option_or (e.functions g) (e.prototypes g)

-- a function or a lemma has a contract, by which it may be called: at its definition or at its prototype
abbrev pub IsContractOf : Environment → Identity → ContractTree → Type 0
IsContractOf e g k = (e.functions g ≡ Some k) ⊎ (e.prototypes g ≡ Some k)

-- what is owned may be leaked in ghost text: a `leak` stands in it, or in the body of a lemma that is called in it, directly or through others
pub data MayLeak (e : Environment) : GhostText → Type 0 where
  by_command : {text : GhostText} → IsTrue (e.leaks text) → MayLeak e text
  by_lemma : {text : GhostText} (lemma : Identity) → IsTrue (e.calls text lemma) → MayLeak e (BodyOf lemma) → MayLeak e text

-- the environment f has all declarations and bodies of e, with the same claims among them
pub record Extends (e f : Environment) : Type 0 where
  pub constructors : (c : Identity) (k : ConstructorTree) → e.constructors c ≡ Some k → f.constructors c ≡ Some k
  pub fixpoints : (k : FixpointTree) → Contains e.fixpoints k → Contains f.fixpoints k
  pub claims : (g t : Identity) → IsTrue (e.claims g t) → IsTrue (f.claims g t)
  pub predicates : (q : Identity) (k : PredicateTree) → e.predicates q ≡ Some k → f.predicates q ≡ Some k
  pub bodies : (b : BodyName) (k : BodyTree) → e.bodies b ≡ Some k → f.bodies b ≡ Some k
  pub functions : (g : Identity) (k : ContractTree) → e.functions g ≡ Some k → f.functions g ≡ Some k
  pub prototypes : (g : Identity) (k : ContractTree) → e.prototypes g ≡ Some k → f.prototypes g ≡ Some k
  pub types : (t : Identity) (k : ContractTree) → e.types t ≡ Some k → f.types t ≡ Some k
  pub called : (g : Identity) (n : ℕ) (t : Identity) → e.called g n ≡ Some t → f.called g n ≡ Some t
  pub leaks : (text : GhostText) → IsTrue (e.leaks text) → IsTrue (f.leaks text)
  pub calls : (text : GhostText) (g : Identity) → IsTrue (e.calls text g) → IsTrue (f.calls text g)

-- one of several units has it
abbrev pub SomeUnit : List Environment → (Environment → Type 0) → Type 0
SomeUnit units P = (u : Environment) × Contains units u × P u

-- The linked environment of units, each with its own: it has all that each of them has, and nothing that none of them has, its fixpoints in order; and a datatype of which a unit has a constructor has no others than the unit has
pub record IsLinked (units : List Environment) (e : Environment) : Type 0 where
  pub all : (u : Environment) → Contains units u → Extends u e
  pub ordered : AreOrdered e.fixpoints
  pub closed : (u : Environment) → Contains units u → (c d : Identity) (k j : ConstructorTree) → e.constructors c ≡ Some k → u.constructors d ≡ Some j → k.datatype ≡ j.datatype → u.constructors c ≡ Some k
  pub constructors : (c : Identity) (k : ConstructorTree) → e.constructors c ≡ Some k → SomeUnit units (λ u. u.constructors c ≡ Some k)
  pub fixpoints : (k : FixpointTree) → Contains e.fixpoints k → SomeUnit units (λ u. Contains u.fixpoints k)
  pub claims : (g t : Identity) → IsTrue (e.claims g t) → SomeUnit units (λ u. IsTrue (u.claims g t))
  pub predicates : (q : Identity) (k : PredicateTree) → e.predicates q ≡ Some k → SomeUnit units (λ u. u.predicates q ≡ Some k)
  pub bodies : (b : BodyName) (k : BodyTree) → e.bodies b ≡ Some k → SomeUnit units (λ u. u.bodies b ≡ Some k)
  pub functions : (g : Identity) (k : ContractTree) → e.functions g ≡ Some k → SomeUnit units (λ u. u.functions g ≡ Some k)
  pub prototypes : (g : Identity) (k : ContractTree) → e.prototypes g ≡ Some k → SomeUnit units (λ u. u.prototypes g ≡ Some k)
  pub types : (t : Identity) (k : ContractTree) → e.types t ≡ Some k → SomeUnit units (λ u. u.types t ≡ Some k)
  pub called : (g : Identity) (n : ℕ) (t : Identity) → e.called g n ≡ Some t → SomeUnit units (λ u. u.called g n ≡ Some t)
  pub leaks : (text : GhostText) → IsTrue (e.leaks text) → SomeUnit units (λ u. IsTrue (u.leaks text))
  pub calls : (text : GhostText) (g : Identity) → IsTrue (e.calls text g) → SomeUnit units (λ u. IsTrue (u.calls text g))
