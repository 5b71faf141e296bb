-- Switches whose branches cover their value in every program of the unit that they stand in. Each law is the contract of a public function with an empty body.
use Rattle.std.specs.Prelude.{◌≡◌, ℕ, List, [], ◌∷◌, Contains, map, slice_get, Some}
use Rattle.std.specs.Bool.{MatchBool}
use Rattle.vf_tree.specs.Core.{Identity}
use Rattle.vf_model.specs.Values.{same_identity}
use Rattle.vf_meaning.specs.Ghost.{Sort, Datatype, Sorts, count_sorts, instance_of, Name, Numbered, ConstructorTree}
use Rattle.vf_meaning.specs.Assertions.{Branches, no_branches, branch, Environment}
use Rattle.vf_meaning.specs.Environments.{IsLinked}
use Rattle.vf_rules.specs.Terms.{Term}
use Rattle.vf_rules.specs.States.{Fact, OfSort, Entails}
use Rattle.vf_rules.specs.Produce.{Covers}

-- names are for values of some sorts, one by one: a numbered name that has a sort has that one
abbrev pub NamesAreFor : List Sort → List Name → List Sort → Type 0
NamesAreFor sorts [] [] = Unit {0}
NamesAreFor sorts (x ∷ xs) (s ∷ wanted) = ((k : ℕ) (r : Sort) → x ≡ Numbered k → slice_get sorts k ≡ Some r → r ≡ s) × NamesAreFor sorts xs wanted
NamesAreFor sorts _ _ = ⊥

-- among branches there is one for a constructor, and the names of the first such are for arguments of some sorts
abbrev pub HasBranch : List Sort → Identity → List Sort → Branches → Type 0
HasBranch sorts c arguments no_branches = ⊥
HasBranch sorts c arguments (branch d xs a rest) = MatchBool (same_identity d c) (NamesAreFor sorts xs arguments) (HasBranch sorts c arguments rest)

-- the branches of a switch have each constructor that an environment declares for a datatype, with names for its arguments at the datatype's sorts
abbrev pub HasEachConstructor : Environment → List Sort → Identity → Sorts → Branches → Type 0
HasEachConstructor e sorts d ss branches = (c : Identity) (k : ConstructorTree) → e.constructors c ≡ Some k → k.datatype ≡ d → count_sorts ss ≡ k.parameters → HasBranch sorts c (map (instance_of ss) k.arguments) branches

-- an environment declares a datatype: it has a constructor of it
abbrev pub DeclaresDatatype : Environment → Identity → Type 0
DeclaresDatatype e d = (c : Identity) × (k : ConstructorTree) × (e.constructors c ≡ Some k) × (k.datatype ≡ d)

-- branches that have each constructor of a datatype cover a value of it
abbrev pub EachConstructorCovers : Type 0
EachConstructorCovers =
    (e : Environment) (sorts : List Sort) (path : List Fact) (t : Term) (branches : Branches) (d : Identity) (ss : Sorts) → HasEachConstructor e sorts d ss branches → Entails e path (OfSort t (Datatype d ss)) → Covers e sorts path t branches

-- and where they have each that one of several linked units declares, which declares the datatype, they have each in the linked environment
abbrev pub LinkingAddsNoConstructor : Type 0
LinkingAddsNoConstructor =
    (units : List Environment) (u e : Environment) (sorts : List Sort) (d : Identity) (ss : Sorts) (branches : Branches) → IsLinked units e → Contains units u → DeclaresDatatype u d → HasEachConstructor u sorts d ss branches
    → HasEachConstructor e sorts d ss branches

-- so a switch whose branches have each constructor in its unit covers in the linked environment
abbrev pub SwitchesCoverWhereLinked : Type 0
SwitchesCoverWhereLinked =
    (units : List Environment) (u e : Environment) (sorts : List Sort) (path : List Fact) (t : Term) (branches : Branches) (d : Identity) (ss : Sorts) → IsLinked units e → Contains units u → DeclaresDatatype u d → HasEachConstructor u sorts d ss branches
    → Entails e path (OfSort t (Datatype d ss)) → Covers e sorts path t branches
