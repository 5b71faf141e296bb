-- Arrays of int: the chunks of rows of cells and of blocks, where a cell is found in a row, and what a row's list becomes when a cell is written.
use Rattle.std.specs.Prelude.{◌≡◌, ℕ, ℤ, pos, ◌+◌, List, [], ◌∷◌, ◌++◌, length, slice_get, slice_set, Option, Some, None, codes}
use Rattle.vf_tree.specs.Core.{LessEqual, Less}
use Rattle.vf_model.specs.Values as values
use Rattle.vf_meaning.specs.Fractions.{whole}
use Rattle.vf_meaning.specs.Ghost.{Integers, Number, PointerSum, Fraction, Compare}
use Rattle.vf_meaning.specs.Valuations.{Valuation}
use Rattle.vf_meaning.specs.Assertions.{Named, Environment}
use Rattle.vf_meaning.specs.Chunks.{list_of}
use Rattle.vf_rules.specs.Terms.{Term}
use Rattle.vf_rules.specs.States.{Fact, Holds, OfSort, ChunkHead, Of, SymbolicChunk, SymbolicState, value_in, Meets, Entails, assuming_all, with_chunks}
use Rattle.vf_rules.specs.Take.{same, Removes}
use Rattle.vf_rules.specs.Evaluate.{IsNumber}

-- what a row of int cells is of
abbrev pub row_head : ChunkHead
row_head = Of (Named (codes "<vf_arrays.h>#ints"))

-- what an int block is of
abbrev pub int_block_head : ChunkHead
int_block_head = Of (Named (codes "<vf_arrays.h>#malloc_block_ints"))

-- all of a row of int cells, with its pointer, its length, and its numbers as a list or unknown content
abbrev pub row_chunk : Term → Term → Option Term → SymbolicChunk
row_chunk pointer many content = record { share = Fraction whole; head = row_head; arguments = Some pointer ∷ Some many ∷ content ∷ [] }

-- all of an int block, with its pointer and its length
abbrev pub int_block_chunk : Term → Term → SymbolicChunk
int_block_chunk pointer many = record { share = Fraction whole; head = int_block_head; arguments = Some pointer ∷ Some many ∷ [] }

-- the cell of an index from a pointer on is found in a row: at that index where the row's pointer is the same, and at 0 where it is the sum of the pointer and the index
pub data Finds (e : Environment) (path : List Fact) (pointer index : Term) : Term → Term → Type 0 where
  finds_from : {row : Term} → Entails e path (same row pointer) → Finds e path pointer index row index
  finds_at : {row : Term} → Entails e path (same row (PointerSum pointer index)) → Finds e path pointer index row (Number (pos 0))

-- on a path an index is one of a row's
abbrev pub IsInside : Environment → List Fact → Term → Term → Type 0
IsInside e path index length = Entails e path (Holds (Compare LessEqual (Number (pos 0)) index)) × Entails e path (Holds (Compare Less index length))

-- on a path a term is the number at an index of a list
pub record IsItem (e : Environment) (path : List Fact) (list index item : Term) : Type 0 where
  pub by : (v : Valuation) → Meets e v path → (zs : List ℤ) (k : ℕ) (z : ℤ) → value_in e v list ≡ list_of zs → value_in e v index ≡ values.Number (pos k) → slice_get zs k ≡ Some z → value_in e v item ≡ values.Number z

-- on a path a list is another one with a number set at an index
pub record IsListSet (e : Environment) (path : List Fact) (list index item new : Term) : Type 0 where
  pub by : (v : Valuation) → Meets e v path → (zs : List ℤ) (k : ℕ) (z : ℤ) → value_in e v list ≡ list_of zs → value_in e v index ≡ values.Number (pos k) → value_in e v item ≡ values.Number z → value_in e v new ≡ list_of (slice_set zs k z)

-- on a path a list has just one number
pub record IsListOfOne (e : Environment) (path : List Fact) (item new : Term) : Type 0 where
  pub by : (v : Valuation) → Meets e v path → (z : ℤ) → value_in e v item ≡ values.Number z → value_in e v new ≡ list_of (z ∷ [])

-- what the content of a row of a length becomes when a number is written at an index: a known list has it set there, and unknown content stays unknown, or is that number alone where the row has one cell
pub data Becomes (e : Environment) (path : List Fact) (length index item : Term) : Option Term → Option Term → Type 0 where
  becomes_set : {list new : Term} → IsListSet e path list index item new → Becomes e path length index item (Some list) (Some new)
  becomes_one : {new : Term} → Entails e path (same length (Number (pos 1))) → IsListOfOne e path item new → Becomes e path length index item None (Some new)
  stays_unknown : Becomes e path length index item None None

-- ---- rows are made, split and joined
-- on a path a list has no numbers
pub record IsNil (e : Environment) (path : List Fact) (nil : Term) : Type 0 where
  pub by : (v : Valuation) → Meets e v path → value_in e v nil ≡ list_of []

-- on a path a term is how many cells of a row are left behind its first ones
pub record IsRest (e : Environment) (path : List Fact) (long first rest : Term) : Type 0 where
  pub by : (v : Valuation) → Meets e v path → (i j : ℕ) → value_in e v long ≡ values.Number (pos (i + j)) → value_in e v first ≡ values.Number (pos i) → value_in e v rest ≡ values.Number (pos j)

-- on a path a term is how many cells two rows have
pub record IsTotal (e : Environment) (path : List Fact) (first second long : Term) : Type 0 where
  pub by : (v : Valuation) → Meets e v path → (i j : ℕ) → value_in e v first ≡ values.Number (pos i) → value_in e v second ≡ values.Number (pos j) → value_in e v long ≡ values.Number (pos (i + j))

-- on a path two lists are the first numbers of a list, so many, and those behind them
pub record IsListSplit (e : Environment) (path : List Fact) (list count first second : Term) : Type 0 where
  pub by : (v : Valuation) → Meets e v path → (xs ys : List ℤ) → value_in e v list ≡ list_of (xs ++ ys) → value_in e v count ≡ values.Number (pos (length xs)) → (value_in e v first ≡ list_of xs) × (value_in e v second ≡ list_of ys)

-- on a path a list has the numbers of two lists
pub record IsListJoined (e : Environment) (path : List Fact) (first second list : Term) : Type 0 where
  pub by : (v : Valuation) → Meets e v path → (xs ys : List ℤ) → value_in e v first ≡ list_of xs → value_in e v second ≡ list_of ys → value_in e v list ≡ list_of (xs ++ ys)

-- what is known of the two rows that a row is split into: a known list is split too, and any content may be forgotten
pub data SplitsContent (e : Environment) (path : List Fact) (count : Term) : Option Term → Option Term → Option Term → Type 0 where
  splits_known : {list first second : Term} → IsListSplit e path list count first second → SplitsContent e path count (Some list) (Some first) (Some second)
  splits_unknown : {content : Option Term} → SplitsContent e path count content None None

-- what is known of the row that two rows are together
pub data JoinsContent (e : Environment) (path : List Fact) : Option Term → Option Term → Option Term → Type 0 where
  joins_known : {first second list : Term} → IsListJoined e path first second list → JoinsContent e path (Some first) (Some second) (Some list)
  joins_unknown : {first second : Option Term} → JoinsContent e path first second None

-- a share of a row of int cells
abbrev pub shared_row : Term → Term → Term → Option Term → SymbolicChunk
shared_row share pointer many content = record { share = share; head = row_head; arguments = Some pointer ∷ Some many ∷ content ∷ [] }

-- what the five lemmas of arrays do to a state, and that a row's length is a number that is not negative: nothing of what it stands for is changed
pub data Arranges (e : Environment) : SymbolicState → SymbolicState → Type 0 where
  knows_length : {st : SymbolicState} (u long : Term) (content : Option Term) (c : SymbolicChunk) (others : List SymbolicChunk) → Removes c st.chunks others → c.head ≡ row_head → c.arguments ≡ Some u ∷ Some long ∷ content ∷ []
      → Arranges e st (assuming_all st (OfSort long Integers ∷ Holds (Compare LessEqual (Number (pos 0)) long) ∷ []))
  makes_row : {st : SymbolicState} (u nil : Term) → IsNil e st.path nil → Arranges e st (with_chunks st (st.chunks ++ row_chunk u (Number (pos 0)) (Some nil) ∷ []))
  splits_row : {st : SymbolicState} (u long count rest : Term) (content first second : Option Term) (c : SymbolicChunk) (others : List SymbolicChunk) → Removes c st.chunks others → c.head ≡ row_head → c.arguments ≡ Some u ∷ Some long ∷ content ∷ []
      → IsNumber e st.path count → Entails e st.path (Holds (Compare LessEqual (Number (pos 0)) count)) → Entails e st.path (Holds (Compare LessEqual count long)) → IsRest e st.path long count rest → SplitsContent e st.path count content first second
      → Arranges e st (with_chunks st (others ++ shared_row c.share u count first ∷ shared_row c.share (PointerSum u count) rest second ∷ []))
  joins_rows : {st : SymbolicState} (u count w more total : Term) (first second content : Option Term) (c d : SymbolicChunk) (mid others : List SymbolicChunk) → Removes c st.chunks mid → c.head ≡ row_head → c.arguments ≡ Some u ∷ Some count ∷ first ∷ []
      → Removes d mid others → d.head ≡ row_head → d.arguments ≡ Some w ∷ Some more ∷ second ∷ [] → Entails e st.path (same w (PointerSum u count)) → Entails e st.path (same d.share c.share) → IsTotal e st.path count more total → JoinsContent e st.path first second content
      → Arranges e st (with_chunks st (others ++ shared_row c.share u total content ∷ []))
