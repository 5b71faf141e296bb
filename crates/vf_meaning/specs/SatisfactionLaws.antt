-- Laws of satisfaction. Each is the contract of a public function with an empty body.
use Rattle.std.specs.Prelude.{◌≡◌, ℕ, suc, ◌≤◌, ◌↔◌, List, [], ◌∷◌}
use Rattle.vf_model.specs.Values.{Dyadic, Values}
use Rattle.vf_tree.specs.Core.{Identity, Field}
use Rattle.vf_meaning.specs.Fractions.{sum, half, IsPositive}
use Rattle.vf_meaning.specs.Ghost.{Name, GhostExpression}
use Rattle.vf_meaning.specs.Valuations.{Valuation}
use Rattle.vf_meaning.specs.Names.{UsesIn}
use Rattle.vf_meaning.specs.Assertions.{ShareTree, PatternTree, Is, Head, BlockOf, Named, Family, Applied, Cell, Chunk, Assertion, BodyName, Environment}
use Rattle.vf_meaning.specs.Environments.{Extends}
use Rattle.vf_meaning.specs.Parts.{Part, IsConsistent, IsSum}
use Rattle.vf_meaning.specs.Chunks.{Primitive, Mutexes, HeldMutexes, Handles, IntBlocks, IntCells, Others, primitive}
use Rattle.vf_meaning.specs.Satisfaction.{SatisfiesIf, MeansAt, SatisfiesAt}

-- what is satisfied at a depth is at each greater depth
abbrev pub DepthGrows : Type 0
DepthGrows = (e : Environment) (n k : ℕ) (s : Dyadic) (a : Assertion) (v : Valuation) (p : Part) → n ≤ k → SatisfiesAt e n s a v p → SatisfiesAt e k s a v p

-- nothing satisfies a predicate at depth 0, and at the next depth just what satisfies its body by predicates at a depth less by one
abbrev pub DepthFalls : Type 0
DepthFalls =
    (e : Environment) (s : Dyadic) (b : BodyName) (vs : Values) (p : Part)
    → (MeansAt e 0 s b vs p → ⊥) × ((n : ℕ) → MeansAt e (suc n) s b vs p ↔ SatisfiesIf e (MeansAt e n) s (e.bodies b) vs p)

-- the two parts of one that satisfies an assertion at a sum of scales
pub record Splits (e : Environment) (n : ℕ) (s t : Dyadic) (a : Assertion) (v : Valuation) (p : Part) : Type 0 where
  pub left : Part
  pub right : Part
  pub sums : IsSum left right p
  pub first : SatisfiesAt e n s a v left
  pub second : SatisfiesAt e n t a v right

-- what satisfies an assertion at the sum of two scales is the sum of two parts that satisfy it at each
abbrev pub ScalesSplit : Type 0
ScalesSplit = (e : Environment) (n : ℕ) (s t : Dyadic) (a : Assertion) (v : Valuation) (p : Part) → SatisfiesAt e n (sum s t) a v p → Splits e n s t a v p

-- and so of two parts at half the scale
abbrev pub HalvesSplit : Type 0
HalvesSplit = (e : Environment) (n : ℕ) (s : Dyadic) (a : Assertion) (v : Valuation) (p : Part) → SatisfiesAt e n s a v p → Splits e n (half s) (half s) a v p

-- satisfaction is the same under all valuations that agree on the names in the assertion
abbrev pub NamesAgree : Type 0
NamesAgree =
    (e : Environment) (n : ℕ) (s : Dyadic) (a : Assertion) (v w : Valuation) (p : Part)
    → ((x : Name) → UsesIn a x → v x ≡ w x) → SatisfiesAt e n s a v p → SatisfiesAt e n s a w p

-- more declarations take nothing away, while the fixpoints and the claims stay
abbrev pub DeclarationsGrow : Type 0
DeclarationsGrow =
    (e f : Environment) (n : ℕ) (s : Dyadic) (a : Assertion) (v : Valuation) (p : Part) → Extends e f → e.claims ≡ f.claims → e.fixpoints ≡ f.fixpoints
    → SatisfiesAt e n s a v p → SatisfiesAt f n s a v p

-- a part that satisfies an assertion has one content at each location
abbrev pub SatisfyingIsConsistent : Type 0
SatisfyingIsConsistent = (e : Environment) (n : ℕ) (s : Dyadic) (a : Assertion) (v : Valuation) (p : Part) → SatisfiesAt e n s a v p → IsConsistent p

-- two shares of one cell, whose sum is a part, are one share of it at the sum of their scales, and so hold the same
abbrev pub CellsJoin : Type 0
CellsJoin =
    (e : Environment) (n : ℕ) (s t : Dyadic) (share : ShareTree) (x : GhostExpression) (f : Field) (w : PatternTree) (v : Valuation) (p q r : Part)
    → IsPositive s → IsPositive t → SatisfiesAt e n s (Cell share x f w) v p → SatisfiesAt e n t (Cell share x f w) v q → IsSum p q r
    → SatisfiesAt e n (sum s t) (Cell share x f w) v r

-- the predicates of the prelude each chunk of which is one location
abbrev pub IsOfOneLocation : Primitive → Type 0
IsOfOneLocation Mutexes = Unit {0}
IsOfOneLocation HeldMutexes = Unit {0}
IsOfOneLocation Handles = Unit {0}
IsOfOneLocation IntBlocks = Unit {0}
IsOfOneLocation IntCells = ⊥
IsOfOneLocation Others = ⊥

-- a chunk with this head is one location: a struct's block, or a chunk of such a predicate
abbrev pub HeadsOneLocation : Head → Type 0
HeadsOneLocation (BlockOf g) = Unit {0}
HeadsOneLocation (Named q) = IsOfOneLocation (primitive q)
HeadsOneLocation (Family q x) = ⊥
HeadsOneLocation (Applied x) = ⊥

-- two shares of one block, mutex, held mutex or handle, whose sum is a part, are one share of it at the sum of their scales
abbrev pub ChunksJoin : Type 0
ChunksJoin =
    (e : Environment) (n : ℕ) (s t : Dyadic) (share : ShareTree) (head : Head) (x : GhostExpression) (ws : List PatternTree) (v : Valuation) (p q r : Part)
    → HeadsOneLocation head → IsPositive s → IsPositive t → SatisfiesAt e n s (Chunk share head (Is x ∷ ws)) v p → SatisfiesAt e n t (Chunk share head (Is x ∷ ws)) v q → IsSum p q r
    → SatisfiesAt e n (sum s t) (Chunk share head (Is x ∷ ws)) v r

-- and so of two shares of a row of int cells of one length
abbrev pub RowsJoin : Type 0
RowsJoin =
    (e : Environment) (n : ℕ) (s t : Dyadic) (share : ShareTree) (ints : Identity) (x many : GhostExpression) (w : PatternTree) (v : Valuation) (p q r : Part)
    → primitive ints ≡ IntCells → IsPositive s → IsPositive t → SatisfiesAt e n s (Chunk share (Named ints) (Is x ∷ Is many ∷ w ∷ [])) v p
    → SatisfiesAt e n t (Chunk share (Named ints) (Is x ∷ Is many ∷ w ∷ [])) v q → IsSum p q r
    → SatisfiesAt e n (sum s t) (Chunk share (Named ints) (Is x ∷ Is many ∷ w ∷ [])) v r
