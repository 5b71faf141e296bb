-- Shares of what is set aside: a chunk that is set aside may be split into two shares, and a share of it opened by itself.
use Rattle.std.specs.Prelude.{◌≡◌, ℕ, List, [], ◌∷◌, map, slice_get, Some}
use Rattle.vf_tree.specs.Core.{Identity}
use Rattle.vf_model.specs.Values.{Dyadic}
use Rattle.vf_meaning.specs.Fractions.{whole, sum, half, IsPositive}
use Rattle.vf_meaning.specs.Ghost.{Sort, Name, Numbered, GhostExpression}
use Rattle.vf_meaning.specs.Valuations.{Valuation}
use Rattle.vf_meaning.specs.GhostValues.{value_of}
use Rattle.vf_meaning.specs.Assertions.{ShareTree, Times, Taken, PatternTree, Is, Head, Named, Assertion, Chunk, Plain, BodyTree, Environment}
use Rattle.vf_meaning.specs.Sorts.{AreOfSorts}
use Rattle.vf_meaning.specs.Parts.{Part, IsSum}
use Rattle.vf_meaning.specs.Chunks.{Others, primitive}
use Rattle.vf_meaning.specs.Satisfaction.{IsShare, SatisfiesAt}
use Rattle.vf_rules.specs.Terms.{Store}
use Rattle.vf_rules.specs.States.{Fact, meaning, Meets, StoreMeans}
use Rattle.vf_lemmas.specs.Depths.{Inside, OpensInto}

-- on a path an assertion over names is split into two: wherever it holds of a part at a depth, the part is the sum of two of which they hold, as deep
pub record SplitsInto (e : Environment) (path : List Fact) (names : Store) (a first second : Assertion) : Type 0 where
  pub by : (v : Valuation) → Meets e v path → (w : Valuation) → StoreMeans e v names w → (n : ℕ) (q : Part) → SatisfiesAt e n whole a w q
      → (r : Part) × (s : Part) × IsSum r s q × SatisfiesAt e n whole first w r × SatisfiesAt e n whole second w s

-- under every valuation the fraction of a share is the sum of the fractions of two
pub record IsSharePair (share first second : ShareTree) : Type 0 where
  pub by : (w : Valuation) (x : Dyadic) → IsShare w share x → (y : Dyadic) × (z : Dyadic) × (x ≡ sum y z) × IsShare w first y × IsShare w second z

-- a chunk is split into two chunks of shares whose sum is its share
abbrev pub ChunksAreShared : Type 0
ChunksAreShared =
    (e : Environment) (path : List Fact) (names : Store) (share first second : ShareTree) (head : Head) (xs : List PatternTree) → IsSharePair share first second
    → SplitsInto e path names (Chunk share head xs) (Chunk first head xs) (Chunk second head xs)

-- a share that has a name, `[?f]`, is the sum of two halves of it
abbrev pub NamedSharesAreHalved : Type 0
NamedSharesAreHalved = (f : Name) → IsSharePair (Taken f) (Times (half whole) (f ∷ [])) (Times (half whole) (f ∷ []))

-- a share whose number is a sum, as 1 is that of a half and a half, is the sum of the shares of both
abbrev pub WrittenSharesAreAdded : Type 0
WrittenSharesAreAdded = (x y : Dyadic) (ys : List Name) → IsPositive x → IsPositive y → IsSharePair (Times (sum x y) ys) (Times x ys) (Times y ys)

-- On a path a body at arguments over names comes, at a share, to inner assertions and a rest: under every valuation of the body's names that gives its parameters the arguments' values, what satisfies the body's assertion at a depth, scaled by the share, is the sum of a part of which the inner ones hold at that depth, and of one of which the rest holds
pub record ShareComesTo (e : Environment) (path : List Fact) (names : Store) (share : ShareTree) (body : BodyTree) (arguments : List GhostExpression) (sorts : List Sort) (new : List Name) (inner : List Assertion) (rest : Assertion) : Type 0 where
  pub by : (v : Valuation) → Meets e v path → (w : Valuation) → StoreMeans e v names w → (under : Valuation) → AreOfSorts e under body.sorts
      → ((k : ℕ) (x : GhostExpression) → slice_get arguments k ≡ Some x → under (Numbered k) ≡ value_of (meaning e) w x) → (c : Dyadic) → IsShare w share c → (n : ℕ) (q : Part) → SatisfiesAt e n c body.assertion under q
      → Inside e n sorts new inner rest w q

-- where a share of a predicate's chunk is opened, what its body comes to is lower: it holds less deep
abbrev pub OpeningShareGoesLower : Type 0
OpeningShareGoesLower =
    (e : Environment) (path : List Fact) (names : Store) (share : ShareTree) (predicate : Identity) (body : BodyTree) (arguments : List GhostExpression) (sorts : List Sort) (new : List Name) (inner : List Assertion) (rest : Assertion)
    → primitive predicate ≡ Others → e.bodies (Plain predicate) ≡ Some body → ShareComesTo e path names share body arguments sorts new inner rest
    → OpensInto e path names (Chunk share (Named predicate) (map Is arguments)) sorts new inner rest
