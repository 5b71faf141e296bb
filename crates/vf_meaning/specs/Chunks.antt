-- Shares, patterns, and the chunks that are locations of memory: cells, blocks, mutexes, handles and rows of int cells.
use Rattle.std.specs.Prelude.{◌≡◌, ℕ, suc, ℤ, pos, cond, List, [], ◌∷◌, map, length, Option, Some, None, codes}
use Rattle.vf_tree.specs.Core.{Identity, Field}
use Rattle.vf_model.specs.Values.{Dyadic, Value, none, more, same_identity}
use Rattle.vf_model.specs.Values as values
use Rattle.vf_meaning.specs.Fractions.{product}
use Rattle.vf_meaning.specs.Ghost.{Name}
use Rattle.vf_meaning.specs.Valuations.{Valuation, fraction_in}
use Rattle.vf_meaning.specs.GhostValues.{Interpretation, value_of}
use Rattle.vf_meaning.specs.Assertions.{ShareTree, Times, Taken, PatternTree, Is, Names, Wild}
use Rattle.vf_meaning.specs.Parts.{FieldCell, IndexCell, StructBlock, IntBlock, MutexAt, HeldAt, HandleAt, CellOf, Bare, LengthOf, MutexOf, HeldOf, HandleOf, Part, nothing, single, IsSum}

-- ---- shares and patterns
-- the product of two fractions, if both are there
abbrev pub product_if : Option Dyadic → Option Dyadic → Option Dyadic
product_if (Some x) (Some y) = Some (product x y)
product_if _ _ = None

-- a fraction times the fractions that names stand for, if each stands for one
abbrev pub times_names : Valuation → Dyadic → List Name → Option Dyadic
times_names v x [] = Some x
times_names v x (y ∷ ys) = product_if (times_names v x ys) (fraction_in (v y))

-- the fraction that a share stands for, if it stands for one
abbrev pub fraction_of : Valuation → ShareTree → Option Dyadic
fraction_of v (Times x ys) = times_names v x ys
fraction_of v (Taken y) = fraction_in (v y)

-- what a pattern asks of a value: to be this one, or nothing
pub data Wanted : Type 0 where
  Just : Value → Wanted
  Anything : Wanted

-- what a pattern asks, under a valuation
abbrev pub wanted : Interpretation → Valuation → PatternTree → Wanted
wanted i v (Is e) = Just (value_of i v e)
wanted i v (Names x) = Just (v x)
wanted i v Wild = Anything

-- a value is as asked
abbrev pub Meets : Wanted → Value → Type 0
Meets (Just w) v = v ≡ w
Meets Anything v = Unit {0}

-- values are as asked, one by one
abbrev pub AllMeet : List Wanted → List Value → Type 0
AllMeet [] [] = Unit {0}
AllMeet (w ∷ ws) (v ∷ vs) = Meets w v × AllMeet ws vs
AllMeet _ _ = ⊥

-- what a cell holds is as asked; a cell that holds no value is so only where nothing is asked
abbrev pub CellMeets : Wanted → Option Value → Type 0
CellMeets (Just w) held = held ≡ Some w
CellMeets Anything held = Unit {0}

-- the pointer to the beginning of a block
abbrev pub start_of : ℕ → Value
start_of b = values.Pointer b (pos 0)

-- ---- the predicates of the prelude that have no body, each a fraction x of locations
-- which of them an identity is, if it is one
pub data Primitive : Type 0 where
  Mutexes HeldMutexes Handles IntBlocks IntCells Others : Primitive

-- the one of them that a predicate is, by its identity
abbrev pub primitive : Identity → Primitive
primitive p =
    cond (same_identity p (codes "<threading.h>#mutex")) Mutexes
    (cond (same_identity p (codes "<threading.h>#mutex_held")) HeldMutexes
    (cond (same_identity p (codes "<threading.h>#thread")) Handles
    (cond (same_identity p (codes "<vf_arrays.h>#malloc_block_ints")) IntBlocks
    (cond (same_identity p (codes "<vf_arrays.h>#ints")) IntCells Others))))

-- `p->f |-> x`: one cell of a struct's block
pub record IsFieldCell (x : Dyadic) (pointer : Value) (f : Field) (w : Wanted) (p : Part) : Type 0 where
  pub block : ℕ
  pub begins : pointer ≡ start_of block
  pub holds : Option Value
  pub meets : CellMeets w holds
  pub owns : p ≡ single (FieldCell block f.structure f.index) (CellOf holds) x

-- a struct's block: the right to free it
pub record IsStructBlock (x : Dyadic) (g : Identity) (ws : List Wanted) (p : Part) : Type 0 where
  pub block : ℕ
  pub meet : AllMeet ws (start_of block ∷ [])
  pub owns : p ≡ single (StructBlock block g) Bare x

-- an int block and its length: the right to free it
pub record IsIntBlock (x : Dyadic) (ws : List Wanted) (p : Part) : Type 0 where
  pub block : ℕ
  pub size : ℕ
  pub meet : AllMeet ws (start_of block ∷ values.Number (pos size) ∷ [])
  pub owns : p ≡ single (IntBlock block) (LengthOf size) x

-- a mutex and its predicate value
pub record IsMutex (x : Dyadic) (ws : List Wanted) (p : Part) : Type 0 where
  pub block : ℕ
  pub invariant : Value
  pub meet : AllMeet ws (start_of block ∷ invariant ∷ [])
  pub owns : p ≡ single (MutexAt block) (MutexOf invariant) x

-- a held mutex, its predicate value, the thread that holds it, and the fraction that was given up for it
pub record IsHeldMutex (x : Dyadic) (ws : List Wanted) (p : Part) : Type 0 where
  pub block : ℕ
  pub invariant : Value
  pub holder : ℕ
  pub given : Dyadic
  pub meet : AllMeet ws (start_of block ∷ invariant ∷ values.Number (pos holder) ∷ values.Fraction given ∷ [])
  pub owns : p ≡ single (HeldAt block) (HeldOf invariant holder given) x

-- a thread's handle, with its function, its argument and its information
pub record IsHandle (x : Dyadic) (ws : List Wanted) (p : Part) : Type 0 where
  pub block : ℕ
  pub run : Value
  pub argument : Value
  pub info : Value
  pub meet : AllMeet ws (start_of block ∷ run ∷ argument ∷ info ∷ [])
  pub owns : p ≡ single (HandleAt block) (HandleOf run argument info) x

-- cells of an int block in a row, from an index on
abbrev pub IsRow : Dyadic → ℕ → ℕ → List (Option Value) → Part → Type 0
IsRow x b k [] p = p ≡ nothing
IsRow x b k (held ∷ row) p = (q : Part) × IsSum (single (IndexCell b k) (CellOf held) x) q p × IsRow x b (suc k) row q

-- cells of the int block that a value points into, from its offset on; no cells are at any value
abbrev pub IsRowAt : Dyadic → Value → List (Option Value) → Part → Type 0
IsRowAt x pointer [] p = p ≡ nothing
IsRowAt x (values.Pointer b (pos o)) (held ∷ row) p = IsRow x b o (held ∷ row) p
IsRowAt x _ (held ∷ row) p = ⊥

-- numbers as the ghost list of the prelude
abbrev pub list_of : List ℤ → Value
list_of [] = values.Constructed (codes "<vf_arrays.h>#ints_nil") none
list_of (z ∷ zs) = values.Constructed (codes "<vf_arrays.h>#ints_cons") (more (values.Number z) (more (list_of zs) none))

-- cells are as asked: each holds a number and these are the list, or nothing is asked
abbrev pub RowMeets : Wanted → List (Option Value) → Type 0
RowMeets (Just w) row = (zs : List ℤ) × (w ≡ list_of zs) × (row ≡ map (λ z. Some (values.Number z)) zs)
RowMeets Anything row = Unit {0}

-- `ints(p, n, xs)`: cells of an int block in a row
abbrev pub IsInts : Dyadic → List Wanted → Part → Type 0
IsInts x (at ∷ many ∷ which ∷ []) p =
    (pointer : Value) × (row : List (Option Value)) × Meets at pointer × Meets many (values.Number (pos (length row))) × RowMeets which row × IsRowAt x pointer row p
IsInts x _ p = ⊥
