-- Blocks of int cells are allocated and freed, and pointers into them are moved.
use Rattle.std.proofs.Common.{◌≡◌, ◌≢◌, ℕ, zero, suc, ◌<◌, ◌≤◌, ◌+◌, true, false, cond, List, [], ◌∷◌, length, slice_get, Option, Some, None, refl, sym, ap, ap₂, subst, ◌∙◌, inl, inr, arith}
use Rattle.std.specs.Prelude.{ℤ, pos, ◌+ℤ◌, nat_lt, int_lt}
use Rattle.std.specs.Ordering.{int_eq}
use Rattle.std.specs.FinMap as finite
use Rattle.std.proofs.lemmas.Bool.{cases_eq}
use Rattle.std.proofs.lemmas.Bool.Decides.{nat_tests}
use Rattle.std.proofs.lemmas.Int.{ints}
use Rattle.vf_base.specs.declared.place.Place.{Place}
use Rattle.vf_tree.specs.Core.{Identity, ExpressionTree, Offset, AllocateInts, FreeInts, ProgramTree}
use Rattle.vf_model.specs.Values.{Dyadic, Value, number_of}
use Rattle.vf_model.specs.Values as values
use Rattle.vf_model.specs.Memory.{Memory, Struct, Ints, Cell, block_at, cells_at, unset_cells, is_int_block, is_place_in}
use Rattle.vf_model.specs.State.{Frame, Thread, State, Turn, at_step, with_local, with_frames, over_memory, sets}
use Rattle.vf_model.specs.Evaluation.{Gives, evaluate}
use Rattle.vf_model.specs.Acts.{Goes, Touches, Allocates, Faults, given}
use Rattle.vf_model.specs.Accesses.{frees, frees_block, allocates, allocates_ints, offsets, offset_from, offset_within}
use Rattle.vf_model.specs.declared.words.FaultKind.TheVariants as faults
use Rattle.vf_model.specs.Races.{TouchesCell}
use Rattle.vf_model.specs.Steps.{act_of}
use Rattle.vf_meaning.specs.Fractions.{nought, whole, IsPositive}
use Rattle.vf_meaning.specs.Valuations.{further}
use Rattle.vf_meaning.specs.Assertions.{Environment}
use Rattle.vf_meaning.specs.Parts.{Location, FieldCell, IndexCell, StructBlock, IntBlock, MutexAt, HeldAt, HandleAt, Content, CellOf, LengthOf, Part, nothing, single, ◌⊕◌, IsSum, HasNone}
use Rattle.vf_meaning.specs.Fits.{Fits}
use Rattle.vf_meaning.specs.Chunks.{IsRow, IsRowAt, start_of}
use Rattle.vf_meaning.specs.ShareOuts.{location_in, OwnsFor}
use Rattle.vf_meaning.proofs.Parts.{not_nought, in_either, sum_at}
use Rattle.vf_meaning.proofs.FitSteps.{int_blocks_are_there, block_here, block_elsewhere, removed_elsewhere, new_sum, single_nought, sum_right}
use Rattle.vf_rules.specs.Types.{IsTypedPart}
use Rattle.vf_safety.specs.Safe.{IsShared, IsSharedPlace, IsShaped}
use Rattle.vf_safety.proofs.Steps.{turn_of, apart, typed_sum, typed_single, nothing_typed}
use Rattle.vf_safety.proofs.Cells.{whole_of}
use Rattle.vf_safety.proofs.Rows.{row_there, element_there, one_of_row, owns_row, list_there, in_list}

positive_whole : IsPositive whole
positive_whole = omega arith

some_same : {A : Type 0} {x y : A} → Some x ≡ Some y → x ≡ y
some_same e = cc

length_same : {m n : ℕ} → LengthOf m ≡ LengthOf n → m ≡ n
length_same e = cc

ints_same : {xs ys : List (Option Value)} → Some (Ints xs) ≡ Some (Ints ys) → xs ≡ ys
ints_same e = cc

index_same : {b i j : ℕ} → IndexCell b i ≡ IndexCell b j → i ≡ j
index_same e = cc

block_index : {b c i : ℕ} → IntBlock b ≡ IndexCell c i → ⊥
block_index e = cc

no_struct : {g : Identity} {cells row : List (Option Value)} → Some (Ints row) ≡ Some (Struct g cells) → ⊥
no_struct h = cc

pub unset_long : (n : ℕ) → length (unset_cells n) ≡ n
unset_long zero = refl
unset_long (suc n) = ap suc (unset_long n)

-- ---- a new row
pub record NewRow (e : Environment) (p : ProgramTree) (b k n : ℕ) : Type 0 where
  pub part : Part
  pub is_row : IsRow whole b k (unset_cells n) part
  pub typed : IsTypedPart e p part

pub new_row : (e : Environment) (p : ProgramTree) (b k n : ℕ) → NewRow e p b k n
new_row e p b k zero = record { part = nothing; is_row = refl; typed = nothing_typed e p }
new_row e p b k (suc n) =
    let r = new_row e p b (suc k) n in
    let cell = single (IndexCell b k) (CellOf None) whole in
    let none : HasNone r.part (IndexCell b k) = (owns_row b (suc k) (unset_cells n) r.part r.is_row).elsewhere (IndexCell b k) (λ j l z. above k j (index_same z)) in
    let sums = new_sum (IndexCell b k) (CellOf None) whole r.part none in
    record {
      part = cell ⊕ r.part;
      is_row = (r.part, sums, r.is_row);
      typed = typed_sum e p cell r.part (cell ⊕ r.part) sums (typed_single e p (IndexCell b k) (CellOf None) whole tt) r.typed;
    }
  where
    above : (k j : ℕ) → k ≡ suc k + j → ⊥
    above k j h = omega (arith, h)

-- a row has nothing of its block's length
pub beside_block : (b : ℕ) (row : List (Option Value)) (q : Part) → IsRow whole b 0 row q → HasNone q (IntBlock b)
beside_block b row q h = (owns_row b 0 row q h).elsewhere (IntBlock b) (λ j l z. block_index z)

-- what is owned of a place that is shared is owned beside a row and its block
row_none : (b : ℕ) (row : List (Option Value)) (q : Part) (k : Location) (c : Content) → IsSharedPlace k → IsRow whole b 0 row q → q k c ≡ nought
row_none b row q (MutexAt d) c shared h = (owns_row b 0 row q h).elsewhere (MutexAt d) (λ j l z. cc) c
row_none b row q (HandleAt d) c shared h = (owns_row b 0 row q h).elsewhere (HandleAt d) (λ j l z. cc) c
row_none b row q (FieldCell d g j) c shared h = absurd shared
row_none b row q (IndexCell d j) c shared h = absurd shared
row_none b row q (StructBlock d g) c shared h = absurd shared
row_none b row q (IntBlock d) c shared h = absurd shared
row_none b row q (HeldAt d) c shared h = absurd shared

other_block : (b : ℕ) (k : Location) → IsSharedPlace k → k ≢ IntBlock b
other_block b (MutexAt d) shared h = cc
other_block b (HandleAt d) shared h = cc
other_block b (FieldCell d g j) shared h = absurd shared
other_block b (IndexCell d j) shared h = absurd shared
other_block b (StructBlock d g) shared h = absurd shared
other_block b (IntBlock d) shared h = absurd shared
other_block b (HeldAt d) shared h = absurd shared

pub known_ints : (b n : ℕ) (row : List (Option Value)) (r q f all : Part) (k : Location) (c : Content) → IsSharedPlace k → IsRow whole b 0 row r → IsSum (single (IntBlock b) (LengthOf n) whole) r q → IsSum q f all → IsPositive (all k c) → IsPositive (f k c)
known_ints b n row r q f all k c shared is_row inner sums h =
    let none : q k c ≡ nought = sum_at (single (IntBlock b) (LengthOf n) whole) r q inner k c ∙ sum_right (single (IntBlock b) (LengthOf n) whole k c) (r k c) (single_nought (IntBlock b) k (LengthOf n) c whole (other_block b k shared)) ∙ row_none b row r k c shared is_row in
    elim (in_either q f all sums k c h) [ inl y ↦ absurd (not_nought (q k c) none y) | inr y ↦ y ]

-- ---- the other blocks after an allocation
pub ints_shaped : (p : ProgramTree) (m : Memory) (b : ℕ) (row : List (Option Value)) → IsShaped p m → IsShaped p (finite.insert m b (Ints row))
ints_shaped p m b row h d g cells is =
    elim (cases_eq d b) [
      | inl same ↦ absurd (no_struct (sym (block_here m b (Ints row)) ∙ ap (block_at (finite.insert m b (Ints row))) (sym same) ∙ is))
      | inr other ↦ h d g cells (sym (block_elsewhere m b d (Ints row) other) ∙ is)
    ]

pub ints_unshared : (m : Memory) (b : ℕ) (row : List (Option Value)) (d : ℕ) → IsShared (block_at (finite.insert m b (Ints row)) d) → block_at (finite.insert m b (Ints row)) d ≡ block_at m d
ints_unshared m b row d shared =
    elim (cases_eq d b) [
      | inl same ↦ absurd (subst IsShared (ap (block_at (finite.insert m b (Ints row))) same ∙ block_here m b (Ints row)) shared)
      | inr other ↦ block_elsewhere m b d (Ints row) other
    ]

pub ints_unmoved : (m : Memory) (b : ℕ) (row : List (Option Value)) → block_at m b ≡ None → (d : ℕ) → IsShared (block_at m d) → block_at (finite.insert m b (Ints row)) d ≡ block_at m d
ints_unmoved m b row free d shared =
    elim (cases_eq d b) [
      | inl same ↦ absurd (subst IsShared (ap (block_at m) same ∙ free) shared)
      | inr other ↦ block_elsewhere m b d (Ints row) other
    ]

pub removed_ints_unmoved : (m : Memory) (b : ℕ) (row : List (Option Value)) → block_at m b ≡ Some (Ints row) → (d : ℕ) → IsShared (block_at m d) → block_at (finite.remove m b) d ≡ block_at m d
removed_ints_unmoved m b row there d shared =
    elim (cases_eq d b) [
      | inl same ↦ absurd (subst IsShared (ap (block_at m) same ∙ there) shared)
      | inr other ↦ removed_elsewhere m b d other
    ]

no_more : (i : ℕ) → i ≡ 0 + i
no_more i = omega arith

-- ---- the block of a row that is owned with its length
list_same : {A : Type 0} (xs ys : List A) → length xs ≡ length ys → ((j : ℕ) (y : A) → slice_get ys j ≡ Some y → slice_get xs j ≡ Some y) → xs ≡ ys
list_same [] [] long each = refl
list_same [] (y ∷ ys) long each = absurd (cc)
list_same (x ∷ xs) [] long each = absurd (cc)
list_same (x ∷ xs) (y ∷ ys) long each = ap₂ (λ z zs. z ∷ zs) (some_same (each 0 y refl)) (list_same xs ys (shorter long) (λ j z is. each (suc j) z is))
  where
    shorter : {m n : ℕ} → suc m ≡ suc n → m ≡ n
    shorter h = cc

pub ints_there : (b : ℕ) (row : List (Option Value)) (q all : Part) (m : Memory) → IsRow whole b 0 row q → ((l : Location) (c : Content) → IsPositive (q l c) → IsPositive (all l c)) → IsPositive (all (IntBlock b) (LengthOf (length row))) → Fits all m → block_at m b ≡ Some (Ints row)
ints_there b row q all m is_row inside long fits =
    let found = int_blocks_are_there all m b (LengthOf (length row)) fits long in
    let cells = found.0 in
    found.1 ∙ ap (λ z. Some (Ints z)) (list_same cells row (sym (length_same found.2)) (λ j held is.
    let el = element_there whole b 0 row j held q all m positive_whole is_row is inside fits in
    ap (λ z. slice_get z j) (ints_same (sym found.1 ∙ el.block)) ∙ ap (slice_get el.cells) (no_more j) ∙ el.cell))

-- the whole of each cell of a block that is freed is owned
index_location : {b i : ℕ} {l : Location} → Some (IndexCell b i) ≡ Some l → IndexCell b i ≡ l
index_location e = cc

pub freed_ints_owned : (m : Memory) (b : ℕ) (row : List (Option Value)) (q r own rest all : Part) (place : Place) → IsRow whole b 0 row q → IsSum q r own → IsSum own rest all → Fits all m → block_at m b ≡ Some (Ints row)
    → (c : Cell) (l : Location) → TouchesCell m (record { block = b; cell = None; writes = true; place = place }) c → location_in (block_at m c.block) c ≡ Some l → OwnsFor (record { block = b; cell = None; writes = true; place = place }) own l
freed_ints_owned m b row q r own rest all place is_row inner outer fits there c l covers at =
    let here : block_at m c.block ≡ Some (Ints row) = ap (block_at m) (sym covers.block) ∙ there in
    let within : c.index < length row = subst (λ o. c.index < length (cells_at o)) here covers.there in
    let (held, is) = list_there row c.index within in
    let one = one_of_row whole b 0 row c.index held q is_row is in
    let place_is : IndexCell b (0 + c.index) ≡ l = ap (IndexCell b) (sym (no_more c.index)) ∙ ap (λ z. IndexCell z c.index) covers.block ∙ index_location (sym (ap (λ o. location_in o c) here) ∙ at) in
    let mine = apart (single (IndexCell b (0 + c.index)) (CellOf held) whole) one.rest q r own one.sums inner in
    (CellOf held, whole_of (single (IndexCell b (0 + c.index)) (CellOf held) whole) mine.0 own rest all m (IndexCell b (0 + c.index)) l (CellOf held) place_is refl mine.2 outer fits)

-- ---- acts
not_negative : (n : ℕ) → int_lt (pos n) (pos 0) ≡ false
not_negative n = grind (arith, ints)

pub allocate_ints_act : (p : ProgramTree) (s : State) (t : ℕ) (frame : Frame) (callers : Thread) (x : ℕ) (a : ExpressionTree) (place : Place) (next n : ℕ) → evaluate frame.locals a ≡ Gives (values.Number (pos n))
    → act_of p (turn_of s t frame callers) (AllocateInts x a place next)
    ≡ Allocates (with_frames (turn_of s t frame callers) (at_step (with_local frame x values.Null) next ∷ callers))
    (λ b. with_frames (over_memory (turn_of s t frame callers) (finite.insert s.memory b (Ints (unset_cells n)))) (at_step (with_local frame x (start_of b)) next ∷ callers))
allocate_ints_act p s t frame callers x a place next n value =
    let turn = turn_of s t frame callers in
    ap (λ r. given r (λ v. allocates_ints turn x (number_of v) place next)) value
    ∙ ap (λ z. cond z (Faults faults.Range place) (allocates turn x (Ints (unset_cells n)) next)) (not_negative n)

pub free_ints_act : (p : ProgramTree) (s : State) (t : ℕ) (frame : Frame) (callers : Thread) (a : ExpressionTree) (place : Place) (next b : ℕ) (row : List (Option Value)) → evaluate frame.locals a ≡ Gives (start_of b) → block_at s.memory b ≡ Some (Ints row)
    → act_of p (turn_of s t frame callers) (FreeInts a place next)
    ≡ Touches (record { block = b; cell = None; writes = true; place = place }) (with_frames (over_memory (turn_of s t frame callers) (finite.remove s.memory b)) (at_step frame next ∷ callers))
free_ints_act p s t frame callers a place next b row value is =
    let turn = turn_of s t frame callers in
    ap (λ r. given r (λ v. frees turn v place next is_int_block)) value ∙ ap (λ o. frees_block turn (start_of b) place next (is_int_block o)) is

pub free_ints_null_act : (p : ProgramTree) (s : State) (t : ℕ) (frame : Frame) (callers : Thread) (a : ExpressionTree) (place : Place) (next : ℕ) → evaluate frame.locals a ≡ Gives values.Null
    → act_of p (turn_of s t frame callers) (FreeInts a place next) ≡ Goes (with_frames (turn_of s t frame callers) (at_step frame next ∷ callers))
free_ints_null_act p s t frame callers a place next value = ap (λ r. given r (λ v. frees (turn_of s t frame callers) v place next is_int_block)) value

-- ---- pointer sums
pub further_none : (w : Value) → w ≡ further w (pos 0)
further_none (values.Pointer b o) = ap (values.Pointer b) (nothing_more o)
  where
    nothing_more : (o : ℤ) → o ≡ o +ℤ pos 0
    nothing_more o = grind (arith, ints)
further_none (values.Number z) = refl
further_none (values.Truth z) = refl
further_none values.Null = refl
further_none (values.Function g) = refl
further_none (values.Constructed c vs) = refl
further_none (values.Predicate q vs) = refl
further_none (values.Fraction d) = refl

pub offset_nothing : (turn : Turn) (x : ℕ) (w : Value) (place : Place) (next : ℕ) → offsets turn x w (pos 0) place next ≡ Goes (sets turn x w next)
offset_nothing turn x w place next = refl

pub offset_goes : (turn : Turn) (x : ℕ) (w : Value) (i : ℕ) (place : Place) (next : ℕ) (x0 : Dyadic) (row : List (Option Value)) (q all : Part) → IsRowAt x0 w row q → i ≤ length row → IsPositive x0
    → ((l : Location) (c : Content) → IsPositive (q l c) → IsPositive (all l c)) → Fits all turn.state.memory → offsets turn x w (pos i) place next ≡ Goes (sets turn x (further w (pos i)) next)
offset_goes turn x w zero place next x0 row q all is_row within positive inside fits = ap (λ y. Goes (sets turn x y next)) (further_none w)
offset_goes turn x w (suc k) place next x0 row q all is_row within positive inside fits =
    let (held, there) = list_there row k (below k (length row) within) in
    let at = row_there x0 w row q k held is_row there in
    let el = element_there x0 at.block at.offset row k held q all turn.state.memory positive at.is_row there inside fits in
    let in_block : nat_lt (at.offset + suc k) (suc (length el.cells)) ≡ true = near at.offset k (length el.cells) (in_list el.cells (at.offset + k) held el.cell) in
    let is_place : is_place_in (pos (at.offset + suc k)) (block_at turn.state.memory at.block) ≡ true = ap (is_place_in (pos (at.offset + suc k))) el.block ∙ in_block in
    subst (λ y. offsets turn x y (pos (suc k)) place next ≡ Goes (sets turn x (further y (pos (suc k))) next)) (sym at.begins)
    (ap (λ z. cond z (Goes (sets turn x (values.Pointer at.block (pos at.offset)) next)) (offset_from turn x (values.Pointer at.block (pos at.offset)) (pos (suc k)) place next)) (not_zero k) ∙ ap (offset_within turn x at.block (pos (at.offset + suc k)) place next) is_place)
  where
    below : (k n : ℕ) → suc k ≤ n → k < n
    below k n l = omega (arith, l)

    not_zero : (k : ℕ) → int_eq (pos (suc k)) (pos 0) ≡ false
    not_zero k = grind (arith, ints)

    less_true : (i n : ℕ) → i < n → nat_lt i n ≡ true
    less_true i n l = grind (arith, nat_tests)

    near : (o k n : ℕ) → o + k < n → nat_lt (o + suc k) (suc n) ≡ true
    near o k n l = less_true (o + suc k) (suc n) (omega (arith, l))

pub offset_act : (p : ProgramTree) (s : State) (t : ℕ) (frame : Frame) (callers : Thread) (x : ℕ) (a i : ExpressionTree) (place : Place) (next : ℕ) (w n y : Value) (z : ℤ) → evaluate frame.locals a ≡ Gives w → evaluate frame.locals i ≡ Gives n → n ≡ values.Number z
    → offsets (turn_of s t frame callers) x w z place next ≡ Goes (sets (turn_of s t frame callers) x y next)
    → act_of p (turn_of s t frame callers) (Offset x a i place next) ≡ Goes (with_frames (turn_of s t frame callers) (at_step (with_local frame x y) next ∷ callers))
offset_act p s t frame callers x a i place next w n y z pointer number is goes =
    let turn = turn_of s t frame callers in
    ap (λ r. given r (λ v. given (evaluate frame.locals i) (λ c. offsets turn x v (number_of c) place next))) pointer
    ∙ ap (λ r. given r (λ c. offsets turn x w (number_of c) place next)) number
    ∙ ap (λ c. offsets turn x w (number_of c) place next) is ∙ goes
