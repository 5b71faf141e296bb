-- How much a state has of what the machine's limits count.
use Rattle.std.specs.Prelude.{◌≡◌, ◌≤◌, ℕ, Bool, cond, nat_lt, List, length, Option, Some, None}
use Rattle.std.specs.List.{sum_by}
use Rattle.std.specs.FinMap as finite
use Rattle.vf_model.specs.Memory.{Block, Struct, Ints, Mutex, Handle, Memory}
use Rattle.vf_model.specs.State.{Thread, State}
use Rattle.vf_engine.specs.declared.words.Limit.{Limit}
use Rattle.vf_engine.specs.declared.words.Limit.TheVariants as limits
use Rattle.vf_run.specs.declared.counts.Counts.{Counts}

-- how many cells a block has that is an array of int
abbrev pub ints_in : Block → ℕ
ints_in (Struct g cells) = 0
ints_in (Ints cells) = length cells
ints_in (Mutex holder) = 0
ints_in (Handle thread run given) = 0

-- the cells of all arrays of int
abbrev pub int_cells : Memory → ℕ
int_cells m = sum_by ints_in (finite.values m)

-- the frames of all threads
abbrev pub frame_count : List Thread → ℕ
frame_count threads = sum_by length threads

-- how much a state has of what a limit counts
abbrev pub counted : State → Limit → ℕ
counted s limits.Blocks = finite.len s.memory
counted s limits.Threads = length s.threads
counted s limits.Frames = frame_count s.threads
counted s limits.Cells = int_cells s.memory

-- how much a state may have of it
abbrev pub greatest : Limit → ℕ
greatest limits.Blocks = 1048576
greatest limits.Threads = 1024
greatest limits.Frames = 65536
greatest limits.Cells = 4194304

-- whether a state has more than that
abbrev pub passes : State → Limit → Bool
passes s limit = nat_lt (greatest limit) (counted s limit)

-- the first limit that a state passes, if it passes one
abbrev pub first_passed : State → Option Limit
first_passed s =
    cond (passes s limits.Blocks) (Some limits.Blocks) (cond (passes s limits.Threads) (Some limits.Threads)
    (cond (passes s limits.Frames) (Some limits.Frames) (cond (passes s limits.Cells) (Some limits.Cells) None)))

-- a state has so much of each
pub record HasCounts (s : State) (c : Counts) : Type 0 where
  pub blocks : finite.len s.memory ≡ c.blocks
  pub threads : length s.threads ≡ c.threads
  pub frames : frame_count s.threads ≡ c.frames
  pub cells : int_cells s.memory ≡ c.cells

-- a memory has so many blocks and so many cells of arrays of int
abbrev pub MemoryCounts : Memory → Counts → Type 0
MemoryCounts m c = (finite.len m ≡ c.blocks) × (int_cells m ≡ c.cells)

-- two counts are of as many threads and frames
abbrev pub SameThreads : Counts → Counts → Type 0
SameThreads c d = (d.threads ≡ c.threads) × (d.frames ≡ c.frames)

-- no limit is passed
pub record Within (c : Counts) : Type 0 where
  pub blocks : c.blocks ≤ 1048576
  pub threads : c.threads ≤ 1024
  pub frames : c.frames ≤ 65536
  pub cells : c.cells ≤ 4194304
