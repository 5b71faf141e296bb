-- When a part is all of a memory: what is owned is there, and of each place the whole is owned.
use Rattle.std.specs.Prelude.{◌≡◌, ℕ, cond, length, slice_get, Option, Some, None}
use Rattle.vf_model.specs.Values.{Dyadic, Value, same_identity}
use Rattle.vf_model.specs.Values as values
use Rattle.vf_model.specs.Memory.{Memory, Block, Struct, Ints, Mutex, Handle, block_at}
use Rattle.vf_meaning.specs.Fractions.{whole, sum, IsPositive}
use Rattle.vf_meaning.specs.Parts.{Location, FieldCell, IndexCell, StructBlock, IntBlock, MutexAt, HeldAt, HandleAt, Content, CellOf, Bare, LengthOf, MutexOf, HeldOf, HandleOf, block_of, Part, HasNone, HasJust}

-- what is in a cell, where there is that cell
abbrev pub cell_content : Option (Option Value) → Option Content
cell_content None = None
cell_content (Some held) = Some (CellOf held)

-- what the memory alone says is at a location of a block, if it is there: a cell of the block's own struct or int block, and that block
abbrev pub there : Option Block → Location → Option Content
there (Some (Struct h cells)) (FieldCell b g i) = cond (same_identity h g) (cell_content (slice_get cells i)) None
there (Some (Struct h cells)) (StructBlock b g) = cond (same_identity h g) (Some Bare) None
there (Some (Ints cells)) (IndexCell b i) = cell_content (slice_get cells i)
there (Some (Ints cells)) (IntBlock b) = Some (LengthOf (length cells))
there _ _ = None

-- the whole of what is there, and none of what is not
abbrev pub HasThere : Part → Location → Option Content → Type 0
HasThere p l None = HasNone p l
HasThere p l (Some c) = HasJust p l c whole

-- A mutex that thread t holds: of its predicate value and a fraction f the holder owns the whole, and of the mutex all but f is owned
pub record HoldsMutex (p : Part) (b t : ℕ) : Type 0 where
  pub invariant : Value
  pub given : Dyadic
  pub left : Dyadic
  pub positive : IsPositive given
  pub parted : sum left given ≡ whole
  pub held : HasJust p (HeldAt b) (HeldOf invariant t given) whole
  pub mutex : HasJust p (MutexAt b) (MutexOf invariant) left

-- a mutex: the whole while it is free, for some predicate value
abbrev pub FitsMutex : Part → ℕ → Option Block → Type 0
FitsMutex p b (Some (Mutex None)) = (q : Value) × HasJust p (MutexAt b) (MutexOf q) whole
FitsMutex p b (Some (Mutex (Some t))) = HoldsMutex p b t
FitsMutex p b _ = HasNone p (MutexAt b)

-- that a mutex is held: the whole while it is, and none while it is free
abbrev pub FitsHeld : Part → ℕ → Option Block → Type 0
FitsHeld p b (Some (Mutex (Some t))) = HoldsMutex p b t
FitsHeld p b _ = HasNone p (HeldAt b)

-- a handle: the whole, with the function and the argument that its thread was started with, and some information
abbrev pub FitsHandle : Part → ℕ → Option Block → Type 0
FitsHandle p b (Some (Handle thread run argument)) = (info : Value) × HasJust p (HandleAt b) (HandleOf (values.Function run) argument info) whole
FitsHandle p b _ = HasNone p (HandleAt b)

-- a part is all that there is at a location, given the block of its number
abbrev pub FitsAt : Part → Option Block → Location → Type 0
FitsAt p block (FieldCell b g i) = HasThere p (FieldCell b g i) (there block (FieldCell b g i))
FitsAt p block (IndexCell b i) = HasThere p (IndexCell b i) (there block (IndexCell b i))
FitsAt p block (StructBlock b g) = HasThere p (StructBlock b g) (there block (StructBlock b g))
FitsAt p block (IntBlock b) = HasThere p (IntBlock b) (there block (IntBlock b))
FitsAt p block (MutexAt b) = FitsMutex p b block
FitsAt p block (HeldAt b) = FitsHeld p b block
FitsAt p block (HandleAt b) = FitsHandle p b block

-- a part is all that there is in a memory
abbrev pub Fits : Part → Memory → Type 0
Fits p m = (l : Location) → FitsAt p (block_at m (block_of l)) l
