-- What the blocks of the code stand for.
use Rattle.std.specs.Prelude.{◌≡◌, ℕ, List, map, Some, slice_set}
use Rattle.std.specs.FinMap.{from_entries}
use Rattle.std.specs.Ordering.{nat_cmp}
use Rattle.vf_tree.specs.Core.{Identity}
use Rattle.vf_model.specs.Values as values
use Rattle.vf_model.specs.Memory as model
use Rattle.vf_model.specs.Memory.{Memory, with_cells}
use Rattle.vf_core.specs.Shown.{identity_of}
use Rattle.vf_engine.specs.Values.{value_of, cells_of}
use Rattle.vf_engine.specs.declared.value.Value.{Value}
use Rattle.vf_engine.specs.declared.blocks.Block.{Block}
use Rattle.vf_engine.specs.declared.blocks.Block.TheVariants as blocks
use Rattle.vf_engine.specs.declared.blocks.Blocks.{Blocks}
use Rattle.vf_engine.specs.Shelves.{blocks_on}

-- a block, by the table of names
abbrev pub block_of : List Identity → Block → model.Block
block_of names (blocks.Struct name cells) = model.Struct (identity_of names name) (cells_of names cells.items)
block_of names (blocks.Ints cells) = model.Ints (cells_of names cells.items)
block_of names (blocks.Mutex holder) = model.Mutex holder
block_of names (blocks.Handle thread run argument) = model.Handle thread (identity_of names run) (value_of names argument)

-- a block with its number
abbrev pub entry_of : List Identity → ℕ × Block → ℕ × model.Block
entry_of names e = (e.0, block_of names e.1)

-- the blocks, by number
abbrev pub memory_of : List Identity → Blocks → Memory
memory_of names blocks = from_entries {R = nat_cmp} (map (entry_of names) (blocks_on blocks.shelf))

-- a block with a value in a cell, where it has that cell
abbrev pub set_in : model.Block → ℕ → values.Value → model.Block
set_in block index v = with_cells block (slice_set (model.cells_of block) index (Some v))

-- by each table of names, a block is another one with a value in a cell, where it has that cell
abbrev pub IsSet : ℕ → Value → Block → Block → Type 0
IsSet index v block changed = (names : List Identity) → block_of names changed ≡ set_in (block_of names block) index (value_of names v)
