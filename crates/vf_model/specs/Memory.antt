-- Memory: blocks by number. A block is a struct's, an array of int, a mutex or a thread's handle.
use Rattle.std.specs.Prelude.{ℕ, zero, suc, ◌<◌, ◌≤◌, Bool, true, false, cond, nat_lt, List, [], length, slice_get, slice_set, Option, Some, None, ℤ, pos, ◌+ℤ◌, replicate, IsTrue, IsFalse}
use Rattle.std.specs.Ordering.{nat_cmp}
use Rattle.std.specs.FinMap as map
use Rattle.vf_tree.specs.Core.{Identity, Field}
use Rattle.vf_model.specs.Values.{Value, same_identity}
use Rattle.vf_model.specs.Values as values

-- A struct has its identity and a cell for each field in the order of its body, an array of int a cell for each index; a cell that is None holds no value. A mutex is free (None) or held by a thread. A handle has the thread that it is of, and the function and the argument that the thread was started with
pub data Block : Type 0 where
  Struct : Identity → List (Option Value) → Block
  Ints : List (Option Value) → Block
  Mutex : Option ℕ → Block
  Handle : ℕ → Identity → Value → Block

-- the allocated blocks, by number from 1
abbrev pub Memory : Type 0
Memory = map.FinMap nat_cmp Block

-- the block of a number
abbrev pub block_at : Memory → ℕ → Option Block
block_at m b = map.get m b

-- the block that a value points to the beginning of
abbrev pub pointed_at : Memory → Value → Option Block
pointed_at m (values.Pointer b (pos zero)) = block_at m b
pointed_at m _ = None

-- the number of the block that a value points into, and 0 where it is no pointer
abbrev pub block_number : Value → ℕ
block_number (values.Pointer b o) = b
block_number _ = 0

-- the cells of a block; a mutex and a handle have none
abbrev pub cells_of : Block → List (Option Value)
cells_of (Struct g cells) = cells
cells_of (Ints cells) = cells
cells_of (Mutex holder) = []
cells_of (Handle thread run argument) = []

-- the block with other cells
abbrev pub with_cells : Block → List (Option Value) → Block
with_cells (Struct g cells) new = Struct g new
with_cells (Ints cells) new = Ints new
with_cells (Mutex holder) new = Mutex holder
with_cells (Handle thread run argument) new = Handle thread run argument

-- a cell's name: its block, and its place in it
pub record Cell : Type 0 where
  pub block : ℕ
  pub index : ℕ

-- n cells that hold no value
abbrev pub unset_cells : ℕ → List (Option Value)
unset_cells n = replicate n None

-- the cells of the block of a number, and none where there is no such block
abbrev pub cells_at : Option Block → List (Option Value)
cells_at None = []
cells_at (Some block) = cells_of block

-- there is a cell of that name
abbrev pub HasCell : Memory → Cell → Type 0
HasCell m c = c.index < length (cells_at (block_at m c.block))

-- what a cell holds: None where there is no such cell, Some None where it holds no value
abbrev pub content : Memory → Cell → Option (Option Value)
content m c = slice_get (cells_at (block_at m c.block)) c.index

-- the memory with a value in a cell of the block that it has there
abbrev pub written_in : Memory → Cell → Value → Option Block → Memory
written_in m c v None = m
written_in m c v (Some block) = map.insert m c.block (with_cells block (slice_set (cells_of block) c.index (Some v)))

-- the memory with a value in a cell; without that cell it stays as it is
abbrev pub written : Memory → Cell → Value → Memory
written m c v = written_in m c v (block_at m c.block)

-- the cell of that name, where the block is as long
abbrev pub cell_within : ℕ → ℕ → ℕ → Option Cell
cell_within b i n = cond (nat_lt i n) (Some (record { block = b; index = i })) None

-- the cell of a field in a block, where that is one of the field's struct
abbrev pub field_in : Field → ℕ → Option Block → Option Cell
field_in f b (Some (Struct g cells)) = cond (same_identity g f.structure) (cell_within b f.index (length cells)) None
field_in f b _ = None

-- the cell that `p->f` names, where there is one
abbrev pub field_cell : Memory → Value → Field → Option Cell
field_cell m p f = field_in f (block_number p) (pointed_at m p)

-- the cell of an index in a block, where that is an array and has it
abbrev pub element_in : ℕ → ℤ → Option Block → Option Cell
element_in b (pos i) (Some (Ints cells)) = cell_within b i (length cells)
element_in b _ _ = None

-- the cell that `p[i]` names, where there is one
abbrev pub element_cell : Memory → Value → ℤ → Option Cell
element_cell m (values.Pointer b o) i = element_in b (o +ℤ i) (block_at m b)
element_cell m _ i = None

-- whether an index is that of a cell of the array or the one past its last
abbrev pub is_place_in : ℤ → Option Block → Bool
is_place_in (pos i) (Some (Ints cells)) = nat_lt i (suc (length cells))
is_place_in _ _ = false

-- whether a block is a struct of that identity
abbrev pub is_struct_block : Identity → Option Block → Bool
is_struct_block g (Some (Struct h cells)) = same_identity h g
is_struct_block g _ = false

-- whether a block is an array of int
abbrev pub is_int_block : Option Block → Bool
is_int_block (Some (Ints cells)) = true
is_int_block _ = false

-- a number from 1 on that no block has, and every lesser one is some block's
pub record IsLeastFree (m : Memory) (b : ℕ) : Type 0 where
  pub from_one : 1 ≤ b
  pub free : IsFalse (map.contains_key m b)
  pub least : (k : ℕ) → 1 ≤ k → k < b → IsTrue (map.contains_key m k)

-- the first number from k on that no block has, of at most n more that are tried
abbrev pub free_from : Memory → ℕ → ℕ → ℕ
free_from m k zero = k
free_from m k (suc n) = cond (map.contains_key m k) (free_from m (suc k) n) k

-- the least free number: as many tries as there are blocks find it (`IsLeastFree`)
abbrev pub least_free : Memory → ℕ
least_free m = free_from m 1 (map.len m)

-- the number of the block that a grant other than 0 gives: the wanted one where it is free, else the least free
abbrev pub granted_block : Memory → ℕ → ℕ
granted_block m g = cond (map.contains_key m g) (least_free m) g
