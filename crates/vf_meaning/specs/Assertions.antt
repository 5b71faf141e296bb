-- Assertions as pure data, and what declarations give them: bodies, contracts and whole environments.
use Rattle.std.specs.Prelude.{ℕ, Bool, List, Option}
use Rattle.vf_tree.specs.Core.{Identity, Field}
use Rattle.vf_model.specs.Values.{Dyadic}
use Rattle.vf_meaning.specs.Ghost.{Sort, Name, GhostExpression, ConstructorTree, FixpointTree}

-- the share of a chunk: a fraction times the fractions that names stand for, or a name that stands for the share, written `[?f]`; where no share is written it is 1
pub data ShareTree : Type 0 where
  Times : Dyadic → List Name → ShareTree
  Taken : Name → ShareTree

-- what stands for an argument or a cell's content: an expression, a name for the value, written `?x`, or anything, written `_`
pub data PatternTree : Type 0 where
  Is : GhostExpression → PatternTree
  Names : Name → PatternTree
  Wild : PatternTree

-- what a chunk is of: a struct's block, a predicate by its name, a family at an index, or a predicate value, to which a constructor of predicates at its first arguments comes too
pub data Head : Type 0 where
  BlockOf : Identity → Head
  Named : Identity → Head
  Family : Identity → GhostExpression → Head
  Applied : GhostExpression → Head

-- an assertion: a pure part, `emp`, a separating conjunction, a conditional, a switch, a cell `[c]p->f |-> x`, or a chunk `[c]head(args)`; a branch of a switch has its constructor and the names of the constructor's arguments
mutual
  pub data Assertion : Type 0 where
    Pure : GhostExpression → Assertion
    Empty : Assertion
    Both : Assertion → Assertion → Assertion
    Choose : GhostExpression → Assertion → Assertion → Assertion
    Switch : GhostExpression → Branches → Assertion
    Cell : ShareTree → GhostExpression → Field → PatternTree → Assertion
    Chunk : ShareTree → Head → List PatternTree → Assertion

  -- the branches of a switch, each a constructor, the names of its arguments, and an assertion
  pub data Branches : Type 0 where
    no_branches : Branches
    branch : Identity → List Name → Assertion → Branches → Branches

-- what has a body: a predicate or a constructor of predicates, or a family at a function
pub data BodyName : Type 0 where
  Plain : Identity → BodyName
  Instance : Identity → Identity → BodyName

-- a body: the sorts of its names by number, how many of them are the parameters, those of a constructor's first arguments before the others, and the assertion
pub record BodyTree : Type 0 where
  pub sorts : List Sort
  pub parameters : ℕ
  pub assertion : Assertion

-- a predicate or a constructor of predicates: the sorts of a constructor's first arguments, and those of the others
pub record PredicateTree : Type 0 where
  pub first : List Sort
  pub others : List Sort

-- a contract: the sorts of its names by number, how many of them are the parameters, the sort of the result if there is one, and both assertions
pub record ContractTree : Type 0 where
  pub sorts : List Sort
  pub parameters : ℕ
  pub result : Option Sort
  pub requires_this : Assertion
  pub ensures_this : Assertion

-- Ghost text that is run: the annotations before a step of a function, by the number of the step, or the body of a lemma
pub data GhostText : Type 0 where
  BeforeStep : Identity → ℕ → GhostText
  BodyOf : Identity → GhostText

-- All declarations by identity: constructors of datatypes, fixpoints (each before those that it names), which function's declaration claims which function type, predicates, bodies, the contracts that stand at the definitions of functions and lemmas, those that stand at their prototypes, the contracts of function types, the function type of each call through a pointer, by the calling function and the number of its step, in which ghost text a `leak` stands, and which lemmas are called in it
pub record Environment : Type 0 where
  pub constructors : Identity → Option ConstructorTree
  pub fixpoints : List FixpointTree
  pub claims : Identity → Identity → Bool
  pub predicates : Identity → Option PredicateTree
  pub bodies : BodyName → Option BodyTree
  pub functions : Identity → Option ContractTree
  pub prototypes : Identity → Option ContractTree
  pub types : Identity → Option ContractTree
  pub called : Identity → ℕ → Option Identity
  pub leaks : GhostText → Bool
  pub calls : GhostText → Identity → Bool
