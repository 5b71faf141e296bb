-- Opening a first part that is a predicate's chunk: what is in the predicate's body holds less deep.
use Rattle.std.specs.Prelude.{◌≡◌, ℕ, List, map, slice_get, Some}
use Rattle.vf_tree.specs.Core.{Identity}
use Rattle.vf_meaning.specs.Fractions.{whole}
use Rattle.vf_meaning.specs.Ghost.{Sort, Name, Numbered, GhostExpression}
use Rattle.vf_meaning.specs.Valuations.{Valuation}
use Rattle.vf_meaning.specs.GhostValues.{value_of}
use Rattle.vf_meaning.specs.Assertions.{Is, Named, Assertion, Chunk, Plain, BodyTree, Environment}
use Rattle.vf_meaning.specs.Sorts.{AreOfSorts}
use Rattle.vf_meaning.specs.Parts.{Part}
use Rattle.vf_meaning.specs.Chunks.{Others, primitive}
use Rattle.vf_meaning.specs.Satisfaction.{SatisfiesAt}
use Rattle.vf_rules.specs.Terms.{Store}
use Rattle.vf_rules.specs.States.{Fact, meaning, Meets, StoreMeans}
use Rattle.vf_rules.specs.Mutexes.{full}
use Rattle.vf_lemmas.specs.Depths.{Inside, OpensInto}

-- On a path a body at arguments over names comes to inner assertions and a rest: under every valuation of the body's names that gives its parameters the arguments' values, what satisfies the body's assertion at a depth is the sum of a part of which the inner ones hold at that depth, and of one of which the rest holds
pub record ComesTo (e : Environment) (path : List Fact) (names : Store) (body : BodyTree) (arguments : List GhostExpression) (sorts : List Sort) (new : List Name) (inner : List Assertion) (rest : Assertion) : Type 0 where
  pub by : (v : Valuation) → Meets e v path → (w : Valuation) → StoreMeans e v names w → (under : Valuation) → AreOfSorts e under body.sorts
      → ((k : ℕ) (x : GhostExpression) → slice_get arguments k ≡ Some x → under (Numbered k) ≡ value_of (meaning e) w x) → (n : ℕ) (q : Part) → SatisfiesAt e n whole body.assertion under q → Inside e n sorts new inner rest w q

-- where the whole of a predicate's chunk is opened, what its body comes to is lower: it holds less deep
abbrev pub OpeningGoesLower : Type 0
OpeningGoesLower =
    (e : Environment) (path : List Fact) (names : Store) (predicate : Identity) (body : BodyTree) (arguments : List GhostExpression) (sorts : List Sort) (new : List Name) (inner : List Assertion) (rest : Assertion)
    → primitive predicate ≡ Others → e.bodies (Plain predicate) ≡ Some body → ComesTo e path names body arguments sorts new inner rest
    → OpensInto e path names (Chunk full (Named predicate) (map Is arguments)) sorts new inner rest
