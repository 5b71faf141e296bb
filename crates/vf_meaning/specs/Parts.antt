-- Parts of memory: which fraction of each place is owned, and what is there.
use Rattle.std.specs.Prelude.{◌≡◌, ◌≢◌, ℕ, Bool, true, false, cond, ◌&&◌, ◌==◌, Option, Some, None}
use Rattle.vf_tree.specs.Core.{Identity}
use Rattle.vf_model.specs.Values.{Dyadic, Value, same_identity}
use Rattle.vf_meaning.specs.Fractions.{nought, sum, IsPositive}
use Rattle.vf_meaning.specs.Valuations.{is_same, same_fraction}

infixr 65 ◌⊕◌
-- What can be owned, by block number: the cell of a field of a struct, the cell of an index of an int block, a struct's block and an int block itself (the right to free it), a mutex, that a mutex is held, and a thread's handle
pub data Location : Type 0 where
  FieldCell : ℕ → Identity → ℕ → Location
  IndexCell : ℕ → ℕ → Location
  StructBlock : ℕ → Identity → Location
  IntBlock : ℕ → Location
  MutexAt : ℕ → Location
  HeldAt : ℕ → Location
  HandleAt : ℕ → Location

-- What an owner knows of it: a cell's value or that it holds none, of a struct's block nothing, an int block's length, the predicate value of a mutex, of a held mutex also the thread that holds it and the fraction that was given up for it, and a handle's function, argument and ghost information
pub data Content : Type 0 where
  CellOf : Option Value → Content
  Bare : Content
  LengthOf : ℕ → Content
  MutexOf : Value → Content
  HeldOf : Value → ℕ → Dyadic → Content
  HandleOf : Value → Value → Value → Content

-- the number of the block that a location is of
abbrev pub block_of : Location → ℕ
block_of (FieldCell b g i) = b
block_of (IndexCell b i) = b
block_of (StructBlock b g) = b
block_of (IntBlock b) = b
block_of (MutexAt b) = b
block_of (HeldAt b) = b
block_of (HandleAt b) = b

-- whether two locations are one
abbrev pub same_location : Location → Location → Bool
same_location (FieldCell b g i) (FieldCell c h j) = (b == c) && (same_identity g h && (i == j))
same_location (IndexCell b i) (IndexCell c j) = (b == c) && (i == j)
same_location (StructBlock b g) (StructBlock c h) = (b == c) && same_identity g h
same_location (IntBlock b) (IntBlock c) = b == c
same_location (MutexAt b) (MutexAt c) = b == c
same_location (HeldAt b) (HeldAt c) = b == c
same_location (HandleAt b) (HandleAt c) = b == c
same_location _ _ = false

-- whether two cells hold the same
abbrev pub same_held : Option Value → Option Value → Bool
same_held None None = true
same_held (Some v) (Some w) = is_same v w
same_held _ _ = false

-- whether two contents are one
abbrev pub same_content : Content → Content → Bool
same_content (CellOf v) (CellOf w) = same_held v w
same_content Bare Bare = true
same_content (LengthOf n) (LengthOf k) = n == k
same_content (MutexOf p) (MutexOf q) = is_same p q
same_content (HeldOf p t f) (HeldOf q u g) = is_same p q && ((t == u) && same_fraction f g)
same_content (HandleOf r d i) (HandleOf s e j) = is_same r s && (is_same d e && is_same i j)
same_content _ _ = false

-- how much of each location is owned with each content, 0 where it is not owned
abbrev pub Part : Type 0
Part = Location → Content → Dyadic

-- nothing is owned
unfoldable pub nothing : Part
nothing l c = nought

-- a fraction of one location is owned, with one content
unfoldable pub single : Location → Content → Dyadic → Part
single l c x k d = cond (same_location k l && same_content d c) x nought

-- the fractions of both added
unfoldable pub ◌⊕◌ : Part → Part → Part
◌⊕◌ p q l c = sum (p l c) (q l c)

-- two parts agree: a location that both own has one content
abbrev pub Agree : Part → Part → Type 0
Agree p q = (l : Location) (c d : Content) → IsPositive (p l c) → IsPositive (q l d) → c ≡ d

-- a part has one content at each location, so it is a map
abbrev pub IsConsistent : Part → Type 0
IsConsistent p = Agree p p

-- the part r is the sum of p and q, which have one only where they agree
pub record IsSum (p q r : Part) : Type 0 where
  pub agree : Agree p q
  pub adds : r ≡ p ⊕ q

-- nothing is owned of a location
abbrev pub HasNone : Part → Location → Type 0
HasNone p l = (c : Content) → p l c ≡ nought

-- just this fraction of a location is owned, with this content
pub record HasJust (p : Part) (l : Location) (c : Content) (x : Dyadic) : Type 0 where
  pub here : p l c ≡ x
  pub else : (d : Content) → d ≢ c → p l d ≡ nought
