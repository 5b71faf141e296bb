-- Taking a share of a chunk out of a heap, and joining and renaming chunks, which changes nothing of what a state stands for.
use Rattle.std.specs.Prelude.{◌≡◌, List, [], ◌∷◌, ◌++◌, map, Option, Some, None}
use Rattle.vf_tree.specs.Core.{Identity, Equal}
use Rattle.vf_model.specs.Values.{Dyadic, Value}
use Rattle.vf_model.specs.Values as values
use Rattle.vf_meaning.specs.Fractions.{sum, product, IsPositive}
use Rattle.vf_meaning.specs.Ghost.{Compare, PredicateValue}
use Rattle.vf_meaning.specs.Valuations.{Valuation}
use Rattle.vf_meaning.specs.Assertions.{Named, Applied, Environment}
use Rattle.vf_meaning.specs.Chunks.{IntCells, primitive}
use Rattle.vf_meaning.specs.SatisfactionLaws.{HeadsOneLocation}
use Rattle.vf_rules.specs.Terms.{Term, in_row}
use Rattle.vf_rules.specs.States.{Fact, Holds, ChunkHead, CellOf, Of, SymbolicChunk, SymbolicState, value_in, Meets, Entails, assuming_all, with_chunks}

-- two terms are equal, as a fact
abbrev pub same : Term → Term → Fact
same t u = Holds (Compare Equal t u)

-- on a path a share is the sum of what is wanted and of what is left
pub record Splits (e : Environment) (path : List Fact) (share wanted left : Term) : Type 0 where
  pub by : (v : Valuation) → Meets e v path
      → (x : Dyadic) × (y : Dyadic) × (value_in e v share ≡ values.Fraction (sum x y)) × (value_in e v wanted ≡ values.Fraction x) × (value_in e v left ≡ values.Fraction y) × IsPositive x × IsPositive y

-- on a path a share is the scale times a positive fraction
pub record IsQuotient (e : Environment) (path : List Fact) (share scale quotient : Term) : Type 0 where
  pub by : (v : Valuation) → Meets e v path → (c x : Dyadic) → value_in e v scale ≡ values.Fraction c → value_in e v share ≡ values.Fraction x
      → (y : Dyadic) × (value_in e v quotient ≡ values.Fraction y) × (x ≡ product c y) × IsPositive y

-- the chunk with another share
abbrev pub with_share : SymbolicChunk → Term → SymbolicChunk
with_share c t = record c { share = t }

-- of the chunk c of a heap a wanted share is taken: all of it, or a part, and then what is left stays in its place
pub data Takes (e : Environment) (path : List Fact) (wanted : Term) (c : SymbolicChunk) : List SymbolicChunk → List SymbolicChunk → Type 0 where
  takes_all : {cs : List SymbolicChunk} → Entails e path (same wanted c.share) → Takes e path wanted c (c ∷ cs) cs
  takes_part : {cs : List SymbolicChunk} (left : Term) → Splits e path c.share wanted left → Takes e path wanted c (c ∷ cs) (with_share c left ∷ cs)
  takes_later : {d : SymbolicChunk} {cs ds : List SymbolicChunk} → Takes e path wanted c cs ds → Takes e path wanted c (d ∷ cs) (d ∷ ds)

-- the chunk c is one of a heap, and the others are left
pub data Removes (c : SymbolicChunk) : List SymbolicChunk → List SymbolicChunk → Type 0 where
  removes_here : {cs : List SymbolicChunk} → Removes c (c ∷ cs) cs
  removes_later : {d : SymbolicChunk} {cs ds : List SymbolicChunk} → Removes c cs ds → Removes c (d ∷ cs) (d ∷ ds)

-- the heads of which two chunks with one first argument are shares of one location
abbrev pub IsPrimitive : ChunkHead → Type 0
IsPrimitive (CellOf f) = Unit {0}
IsPrimitive (Of head) = HeadsOneLocation head

-- arguments of which each is known where it is in either of two lists
abbrev pub joined : List (Option Term) → List (Option Term) → List (Option Term)
joined (None ∷ ts) (u ∷ us) = u ∷ joined ts us
joined (Some t ∷ ts) (u ∷ us) = Some t ∷ joined ts us
joined _ _ = []

-- that two lists of arguments are equal where both are known
abbrev pub equalities : List (Option Term) → List (Option Term) → List Fact
equalities (Some t ∷ ts) (Some u ∷ us) = same t u ∷ equalities ts us
equalities (Some t ∷ ts) (None ∷ us) = equalities ts us
equalities (None ∷ ts) (u ∷ us) = equalities ts us
equalities _ _ = []

-- on a path a term is the sum of two shares
pub record IsSumOf (e : Environment) (path : List Fact) (total left right : Term) : Type 0 where
  pub by : (v : Valuation) → Meets e v path → (x y : Dyadic) → value_in e v left ≡ values.Fraction x → value_in e v right ≡ values.Fraction y → value_in e v total ≡ values.Fraction (sum x y)

-- two chunks of one location, and the one chunk that they are: with the sum of their shares, and what either knows
pub record Joins (e : Environment) (path : List Fact) (c d both : SymbolicChunk) (facts : List Fact) : Type 0 where
  pub first : Term
  pub second : Term
  pub others : List (Option Term)
  pub more : List (Option Term)
  pub primitive : IsPrimitive c.head
  pub one_head : d.head ≡ c.head
  pub arguments : c.arguments ≡ Some first ∷ others
  pub further : d.arguments ≡ Some second ∷ more
  pub one_place : Entails e path (same first second)
  pub total : Term
  pub sums : IsSumOf e path total c.share d.share
  pub both_is : both ≡ record { share = total; head = c.head; arguments = Some first ∷ joined others more }
  pub facts_are : facts ≡ equalities others more

-- two rows of int cells at one place and of one length, and the one row that they are: with the sum of their shares, and what either knows
pub record JoinsRows (e : Environment) (path : List Fact) (c d both : SymbolicChunk) (facts : List Fact) : Type 0 where
  pub ints : Identity
  pub first : Term
  pub long : Term
  pub held : Option Term
  pub second : Term
  pub also : Term
  pub other : Option Term
  pub known : primitive ints ≡ IntCells
  pub head : c.head ≡ Of (Named ints)
  pub one_head : d.head ≡ c.head
  pub arguments : c.arguments ≡ Some first ∷ Some long ∷ held ∷ []
  pub further : d.arguments ≡ Some second ∷ Some also ∷ other ∷ []
  pub one_place : Entails e path (same first second)
  pub one_length : Entails e path (same long also)
  pub total : Term
  pub sums : IsSumOf e path total c.share d.share
  pub both_is : both ≡ record { share = total; head = c.head; arguments = Some first ∷ Some long ∷ joined (held ∷ []) (other ∷ []) }
  pub facts_are : facts ≡ equalities (held ∷ []) (other ∷ [])

-- in a heap an older chunk takes in a younger one
pub data Merges (e : Environment) (path : List Fact) (facts : List Fact) : List SymbolicChunk → List SymbolicChunk → Type 0 where
  merges_here : {c d both : SymbolicChunk} {cs ds : List SymbolicChunk} → Removes d cs ds → Joins e path c d both facts → Merges e path facts (c ∷ cs) (both ∷ ds)
  merges_rows : {c d both : SymbolicChunk} {cs ds : List SymbolicChunk} → Removes d cs ds → JoinsRows e path c d both facts → Merges e path facts (c ∷ cs) (both ∷ ds)
  merges_later : {c : SymbolicChunk} {cs ds : List SymbolicChunk} → Merges e path facts cs ds → Merges e path facts (c ∷ cs) (c ∷ ds)

-- known arguments
abbrev pub all_known : List Term → List (Option Term)
all_known ts = map (λ t. Some t) ts

-- a chunk of a predicate value, and the chunk of the predicate that the value is, with the value's first arguments
pub record Renames (e : Environment) (path : List Fact) (applied named : SymbolicChunk) : Type 0 where
  pub predicate : Identity
  pub value : Term
  pub first : List Term
  pub is : Entails e path (same value (PredicateValue predicate (in_row first)))
  pub applied_head : applied.head ≡ Of (Applied value)
  pub named_head : named.head ≡ Of (Named predicate)
  pub one_share : named.share ≡ applied.share
  pub arguments : named.arguments ≡ all_known first ++ applied.arguments

-- in a heap one chunk is put in the place of another
pub data Replaces (c d : SymbolicChunk) : List SymbolicChunk → List SymbolicChunk → Type 0 where
  replaces_here : {cs : List SymbolicChunk} → Replaces c d (c ∷ cs) (d ∷ cs)
  replaces_later : {b : SymbolicChunk} {cs ds : List SymbolicChunk} → Replaces c d cs ds → Replaces c d (b ∷ cs) (b ∷ ds)

-- one change of a state that changes nothing of what it stands for: an entailed fact, two chunks as one, or a predicate value by its name and back
pub data Change (e : Environment) : SymbolicState → SymbolicState → Type 0 where
  learns : {st : SymbolicState} (f : Fact) → Entails e st.path f → Change e st (assuming_all st (f ∷ []))
  merges : {st : SymbolicState} (cs : List SymbolicChunk) (facts : List Fact) → Merges e st.path facts st.chunks cs → Change e st (assuming_all (with_chunks st cs) facts)
  names_value : {st : SymbolicState} (c d : SymbolicChunk) (cs : List SymbolicChunk) → Renames e st.path c d → Replaces c d st.chunks cs → Change e st (with_chunks st cs)
  makes_value : {st : SymbolicState} (c d : SymbolicChunk) (cs : List SymbolicChunk) → Renames e st.path d c → Replaces c d st.chunks cs → Change e st (with_chunks st cs)

-- several changes, one after another
pub data Changes (e : Environment) : SymbolicState → SymbolicState → Type 0 where
  no_change : {st : SymbolicState} → Changes e st st
  and_change : {st mid new : SymbolicState} → Change e st mid → Changes e mid new → Changes e st new
