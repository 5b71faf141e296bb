-- Laws of parts that fit a memory: what is owned is there, and what fits after each change of the memory. Each is the contract of a public function with an empty body.
use Rattle.std.specs.Prelude.{◌≡◌, ◌≢◌, ℕ, List, length, slice_get, Option, Some, None}
use Rattle.std.specs.FinMap as finite
use Rattle.vf_tree.specs.Core.{Identity}
use Rattle.vf_model.specs.Values.{Dyadic, Value}
use Rattle.vf_model.specs.Values as values
use Rattle.vf_model.specs.Memory.{Memory, Block, Struct, Ints, Mutex, Handle, Cell, block_at, written}
use Rattle.vf_meaning.specs.Fractions.{whole, IsPositive}
use Rattle.vf_meaning.specs.Parts.{Location, FieldCell, IndexCell, StructBlock, IntBlock, MutexAt, HeldAt, HandleAt, Content, CellOf, Bare, LengthOf, MutexOf, HeldOf, HandleOf, block_of, Part, single, IsSum, HasNone}
use Rattle.vf_meaning.specs.Fits.{FitsAt, Fits}

-- a cell of a block
abbrev pub cell : ℕ → ℕ → Cell
cell b i = record { block = b; index = i }

-- a field of which some is owned is there, in a block of its struct, with the content that is owned
abbrev pub FieldsAreThere : Type 0
FieldsAreThere =
    (p : Part) (m : Memory) (b i : ℕ) (g : Identity) (held : Option Value) → Fits p m → IsPositive (p (FieldCell b g i) (CellOf held))
    → (cells : List (Option Value)) × (block_at m b ≡ Some (Struct g cells)) × (slice_get cells i ≡ Some held)

-- so is an int cell
abbrev pub IndexesAreThere : Type 0
IndexesAreThere =
    (p : Part) (m : Memory) (b i : ℕ) (held : Option Value) → Fits p m → IsPositive (p (IndexCell b i) (CellOf held))
    → (cells : List (Option Value)) × (block_at m b ≡ Some (Ints cells)) × (slice_get cells i ≡ Some held)

-- so is the right to free a struct's block
abbrev pub StructsAreThere : Type 0
StructsAreThere =
    (p : Part) (m : Memory) (b : ℕ) (g : Identity) (c : Content) → Fits p m → IsPositive (p (StructBlock b g) c) → (cells : List (Option Value)) × (block_at m b ≡ Some (Struct g cells)) × (c ≡ Bare)

-- and that of an int block, with its length
abbrev pub IntBlocksAreThere : Type 0
IntBlocksAreThere =
    (p : Part) (m : Memory) (b : ℕ) (c : Content) → Fits p m → IsPositive (p (IntBlock b) c) → (cells : List (Option Value)) × (block_at m b ≡ Some (Ints cells)) × (c ≡ LengthOf (length cells))

-- so is a mutex of which some is owned
abbrev pub MutexesAreThere : Type 0
MutexesAreThere = (p : Part) (m : Memory) (b : ℕ) (c : Content) → Fits p m → IsPositive (p (MutexAt b) c) → (holder : Option ℕ) × (block_at m b ≡ Some (Mutex holder))

-- so is a mutex that is held, by the thread that holds it
abbrev pub HeldAreThere : Type 0
HeldAreThere =
    (p : Part) (m : Memory) (b t : ℕ) (q : Value) (f : Dyadic) → Fits p m → IsPositive (p (HeldAt b) (HeldOf q t f)) → block_at m b ≡ Some (Mutex (Some t))

-- and a handle, with the function and the argument of its thread
abbrev pub HandlesAreThere : Type 0
HandlesAreThere =
    (p : Part) (m : Memory) (b : ℕ) (run argument info : Value) → Fits p m → IsPositive (p (HandleAt b) (HandleOf run argument info))
    → (thread : ℕ) × (f : Identity) × (block_at m b ≡ Some (Handle thread f argument)) × (run ≡ values.Function f)

-- two parts with their sum, which fits a memory
pub record FitTogether (q f : Part) (m : Memory) : Type 0 where
  pub all : Part
  pub sums : IsSum q f all
  pub fits : Fits all m

-- who owns the whole of a field may write it
abbrev pub FieldsAreWritten : Type 0
FieldsAreWritten =
    (m : Memory) (b i : ℕ) (g : Identity) (old : Option Value) (v : Value) (f : Part) → FitTogether (single (FieldCell b g i) (CellOf old) whole) f m
    → FitTogether (single (FieldCell b g i) (CellOf (Some v)) whole) f (written m (cell b i) v)

-- and who owns the whole of an int cell
abbrev pub IndexesAreWritten : Type 0
IndexesAreWritten =
    (m : Memory) (b i : ℕ) (old : Option Value) (v : Value) (f : Part) → FitTogether (single (IndexCell b i) (CellOf old) whole) f m
    → FitTogether (single (IndexCell b i) (CellOf (Some v)) whole) f (written m (cell b i) v)

-- a part is all of a block, and of nothing else
pub record IsAllOf (b : ℕ) (block : Block) (q : Part) : Type 0 where
  pub here : (l : Location) → block_of l ≡ b → FitsAt q (Some block) l
  pub elsewhere : (l : Location) → block_of l ≢ b → HasNone q l

-- a block that was not there comes with all of it
abbrev pub BlocksAreAdded : Type 0
BlocksAreAdded =
    (m : Memory) (b : ℕ) (block : Block) (q f : Part) → Fits f m → block_at m b ≡ None → IsAllOf b block q → FitTogether q f (finite.insert m b block)

-- a block is no held mutex
abbrev pub IsNotHeld : Block → Type 0
IsNotHeld (Mutex (Some t)) = ⊥
IsNotHeld _ = Unit {0}

-- who owns all of a block that is no held mutex may free it
abbrev pub BlocksAreFreed : Type 0
BlocksAreFreed =
    (m : Memory) (b : ℕ) (block : Block) (q f : Part) → FitTogether q f m → block_at m b ≡ Some block → IsNotHeld block → IsAllOf b block q → Fits f (finite.remove m b)

-- a free mutex of which a fraction is owned is acquired: the fraction is given up for the whole of holding it
abbrev pub MutexesAreAcquired : Type 0
MutexesAreAcquired =
    (m : Memory) (b t : ℕ) (q : Value) (x : Dyadic) (f : Part) → IsPositive x → block_at m b ≡ Some (Mutex None) → FitTogether (single (MutexAt b) (MutexOf q) x) f m
    → FitTogether (single (HeldAt b) (HeldOf q t x) whole) f (finite.insert m b (Mutex (Some t)))

-- a held mutex is released: the fraction that was given up comes back
abbrev pub MutexesAreReleased : Type 0
MutexesAreReleased =
    (m : Memory) (b t : ℕ) (q : Value) (x : Dyadic) (f : Part) → FitTogether (single (HeldAt b) (HeldOf q t x) whole) f m
    → FitTogether (single (MutexAt b) (MutexOf q) x) f (finite.insert m b (Mutex None))
