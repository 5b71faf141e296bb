-- Steps that read, write, allocate and free cells.
use Rattle.std.specs.Prelude.{ℕ, Bool, true, false, cond, Option, Some, None, ℤ, pos, ◌+ℤ◌, int_lt, unsigned_abs, length}
use Rattle.std.specs.FinMap as map
use Rattle.std.specs.Ordering.{int_eq}
use Rattle.std.specs.List.{find}
use Rattle.vf_base.specs.declared.place.Place.{Place}
use Rattle.vf_tree.specs.Core.{Identity, StructTree, ProgramTree}
use Rattle.vf_model.specs.declared.words.FaultKind.TheVariants as faults
use Rattle.vf_model.specs.Values.{Value, same_identity}
use Rattle.vf_model.specs.Values as values
use Rattle.vf_model.specs.Memory.{Block, Struct, Ints, Cell, block_at, pointed_at, block_number, content, written, unset_cells, is_place_in}
use Rattle.vf_model.specs.State.{Turn, goes_on, sets, over_memory}
use Rattle.vf_model.specs.Acts.{Touch, Act, Goes, Touches, Allocates, Faults}

-- the touch of one cell
abbrev pub touch_of : Cell → Bool → Place → Touch
touch_of c writes place = record { block = c.block; cell = Some c.index; writes = writes; place = place }

-- the content of a cell goes into a local: fault unset where there is none
abbrev pub loads_content : Turn → ℕ → Cell → Place → ℕ → Option (Option Value) → Act
loads_content turn x c place next (Some (Some v)) = Touches (touch_of c false place) (sets turn x v next)
loads_content turn x c place next _ = Faults faults.Unset place

-- a read of a cell: fault access where there is no such cell
abbrev pub loads : Turn → ℕ → Place → ℕ → Option Cell → Act
loads turn x place next None = Faults faults.Access place
loads turn x place next (Some c) = loads_content turn x c place next (content turn.state.memory c)

-- a write to a cell: fault access where there is no such cell
abbrev pub stores : Turn → Value → Place → ℕ → Option Cell → Act
stores turn v place next None = Faults faults.Access place
stores turn v place next (Some c) = Touches (touch_of c true place) (goes_on (over_memory turn (written turn.state.memory c v)) next)

-- an allocation of a block whose number goes into a local: null where it is denied
abbrev pub allocates : Turn → ℕ → Block → ℕ → Act
allocates turn x block next =
    Allocates (sets turn x values.Null next) (λ b. sets (over_memory turn (map.insert turn.state.memory b block)) x (values.Pointer b (pos 0)) next)

-- how many fields a struct has, and 0 for none
abbrev pub field_count_in : Option StructTree → ℕ
field_count_in None = 0
field_count_in (Some s) = length s.fields

-- how many fields the struct of an identity has in the program, which has each struct that is allocated
abbrev pub field_count : ProgramTree → Identity → ℕ
field_count p g = field_count_in (find (λ s. same_identity s.identity g) p.structs)

-- a new struct, its cells unset
abbrev pub new_struct : ProgramTree → Identity → Block
new_struct p g = Struct g (unset_cells (field_count p g))

-- a new array of int, its cells unset: fault range where its length is negative
abbrev pub allocates_ints : Turn → ℕ → ℤ → Place → ℕ → Act
allocates_ints turn x n place next = cond (int_lt n (pos 0)) (Faults faults.Range place) (allocates turn x (Ints (unset_cells (unsigned_abs n))) next)

-- the block that a value points to is freed, where it is of the kind that is freed: else fault free
abbrev pub frees_block : Turn → Value → Place → ℕ → Bool → Act
frees_block turn p place next false = Faults faults.Free place
frees_block turn p place next true =
    Touches (record { block = block_number p; cell = None; writes = true; place = place }) (goes_on (over_memory turn (map.remove turn.state.memory (block_number p))) next)

-- free of a struct or of an array of int, the test saying which blocks are meant: nothing is done where the pointer is null (C11 7.22.3.3)
abbrev pub frees : Turn → Value → Place → ℕ → (Option Block → Bool) → Act
frees turn values.Null place next test = Goes (goes_on turn next)
frees turn p place next test = frees_block turn p place next (test (pointed_at turn.state.memory p))

-- a pointer to a place in a block, where the test says that it is one: else fault access
abbrev pub offset_within : Turn → ℕ → ℕ → ℤ → Place → ℕ → Bool → Act
offset_within turn x b o place next true = Goes (sets turn x (values.Pointer b o) next)
offset_within turn x b o place next false = Faults faults.Access place

-- a pointer whose offset is greater by i, which must be that of a cell of an array or the one past its last (C11 6.5.6p8)
abbrev pub offset_from : Turn → ℕ → Value → ℤ → Place → ℕ → Act
offset_from turn x (values.Pointer b o) i place next = offset_within turn x b (o +ℤ i) place next (is_place_in (o +ℤ i) (block_at turn.state.memory b))
offset_from turn x _ i place next = Faults faults.Access place

-- a pointer sum (C11 6.5.6), which by 0 is the same value, whatever that is
abbrev pub offsets : Turn → ℕ → Value → ℤ → Place → ℕ → Act
offsets turn x p i place next = cond (int_eq i (pos 0)) (Goes (sets turn x p next)) (offset_from turn x p i place next)
