-- What is on a shelf, and what becomes of it.
use Rattle.std.specs.Prelude.{◌≡◌, ℕ, List, cond, Option, Some}
use Rattle.std.specs.Option.{MatchOption}
use Rattle.std.specs.Ordering.{nat_cmp, is_eq}
use Rattle.vf_engine.specs.declared.blocks.Block.{Block}
use Rattle.vf_engine.specs.declared.shelf.Shelf.{Shelf}
use Rattle.vf_engine.specs.Held.{held, entries_held}

-- the block of a number
abbrev pub block_on : Shelf → ℕ → Option Block
block_on shelf number = held shelf.low.items shelf.beyond number

-- the blocks with their numbers
abbrev pub blocks_on : Shelf → List (ℕ × Block)
blocks_on shelf = entries_held shelf.low.items shelf.beyond

-- each number has the block that it had
abbrev pub IsSameShelf : Shelf → Shelf → Type 0
IsSameShelf old new = (q : ℕ) → block_on new q ≡ block_on old q

-- one number has that block, or none, and each other number the block that it had
abbrev pub HasAt : Shelf → Shelf → ℕ → Option Block → Type 0
HasAt old new number block = (q : ℕ) → block_on new q ≡ cond (is_eq (nat_cmp number q)) block (block_on old q)

-- the block of a number, where it has one, is changed to one that stands in a relation to it
abbrev pub IsChangedAt : Shelf → Shelf → ℕ → (Block → Block → Type 0) → Type 0
IsChangedAt old new number Changed =
    MatchOption (block_on old number) (IsSameShelf old new) (λ block. (changed : Block) × HasAt old new number (Some changed) × Changed block changed)
