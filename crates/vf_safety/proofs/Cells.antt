-- Reading and writing a field.
use Rattle.std.proofs.Common.{◌≡◌, ◌≢◌, ℕ, zero, suc, ◌<◌, Bool, true, false, cond, List, [], ◌∷◌, length, slice_get, slice_set, Option, Some, None, refl, sym, ap, ap₂, subst, ◌∙◌, inl, inr, arith}
use Rattle.std.specs.Prelude.{nat_lt}
use Rattle.std.proofs.lemmas.Bool.{cases_eq}
use Rattle.std.proofs.lemmas.Bool.Decides.{nat_tests}
use Rattle.vf_base.specs.declared.place.Place.{Place}
use Rattle.vf_tree.specs.Core.{Identity, Field, ExpressionTree, Load, Store, ProgramTree}
use Rattle.vf_model.specs.Values.{Value}
use Rattle.vf_model.specs.Memory.{Memory, Struct, Cell, block_at, content, written, written_in, cell_within, field_in, field_cell, cells_at}
use Rattle.vf_model.specs.State.{Frame, Thread, State, at_step, with_local, with_frames, over_memory}
use Rattle.vf_model.specs.Evaluation.{Gives, evaluate}
use Rattle.vf_model.specs.Acts.{Touches, given}
use Rattle.vf_model.specs.Accesses.{field_count, touch_of, loads_content, loads, stores}
use Rattle.vf_model.specs.Races.{TouchesCell}
use Rattle.vf_model.specs.Steps.{act_of}
use Rattle.vf_meaning.specs.Fractions.{nought, whole, sum, IsPositive}
use Rattle.vf_meaning.specs.Parts.{Location, FieldCell, IndexCell, StructBlock, IntBlock, MutexAt, HeldAt, HandleAt, Content, CellOf, Part, single, IsSum}
use Rattle.vf_meaning.specs.Fits.{Fits}
use Rattle.vf_meaning.specs.Chunks.{start_of}
use Rattle.vf_meaning.specs.ShareOuts.{location_in}
use Rattle.vf_meaning.proofs.Parts.{sums_regroup, nought_or_positive, not_nought, in_left, sum_at, whole_is_alone, single_here}
use Rattle.vf_meaning.proofs.FitSteps.{fields_are_there, block_here, block_elsewhere, own_identity, sum_left}
use Rattle.vf_safety.specs.Safe.{IsShared, IsSharedPlace, IsShaped}
use Rattle.vf_safety.proofs.Steps.{turn_of}

some_same : {A : Type 0} {x y : A} → Some x ≡ Some y → x ≡ y
some_same e = cc

none_some : {A B : Type 0} {x : A} → None ≡ Some x → B
none_some e = cc

-- a field that is there
pub record FieldThere (m : Memory) (b : ℕ) (f : Field) (held : Option Value) : Type 0 where
  pub cells : List (Option Value)
  pub block : block_at m b ≡ Some (Struct f.structure cells)
  pub cell : slice_get cells f.index ≡ Some held

pub field_there : (p : Part) (m : Memory) (b : ℕ) (f : Field) (held : Option Value) → Fits p m → IsPositive (p (FieldCell b f.structure f.index) (CellOf held)) → FieldThere m b f held
field_there p m b f held fit x = let h = fields_are_there p m b f.index f.structure held fit x in record { cells = h.0; block = h.1; cell = h.2 }

within : (xs : List (Option Value)) (i : ℕ) (y : Option Value) → slice_get xs i ≡ Some y → i < length xs
within [] i y h = none_some h
within (x ∷ xs) zero y h = omega arith
within (x ∷ xs) (suc i) y h = omega (arith, within xs i y h)

less_true : (i n : ℕ) → i < n → nat_lt i n ≡ true
less_true i n l = grind (arith, nat_tests)

abbrev pub the_cell : ℕ → Field → Cell
the_cell b f = record { block = b; index = f.index }

pub cell_found : (m : Memory) (b : ℕ) (f : Field) (held : Option Value) → FieldThere m b f held → field_cell m (start_of b) f ≡ Some (the_cell b f)
cell_found m b f held h =
    ap (field_in f b) h.block ∙ ap (λ t. cond t (cell_within b f.index (length h.cells)) None) (own_identity f.structure)
    ∙ ap (λ t. cond t (Some (the_cell b f)) None) (less_true f.index (length h.cells) (within h.cells f.index held h.cell))

pub content_found : (m : Memory) (b : ℕ) (f : Field) (held : Option Value) → FieldThere m b f held → content m (the_cell b f) ≡ Some held
content_found m b f held h = ap (λ o. slice_get (cells_at o) f.index) h.block ∙ h.cell

-- the act of a load
pub load_act : (p : ProgramTree) (s : State) (t : ℕ) (frame : Frame) (callers : Thread) (x : ℕ) (a : ExpressionTree) (f : Field) (place : Place) (next b : ℕ) (w : Value) → evaluate frame.locals a ≡ Gives (start_of b)
    → FieldThere s.memory b f (Some w)
    → act_of p (turn_of s t frame callers) (Load x a f place next) ≡ Touches (touch_of (the_cell b f) false place) (with_frames (turn_of s t frame callers) (at_step (with_local frame x w) next ∷ callers))
load_act p s t frame callers x a f place next b w value h =
    let turn = turn_of s t frame callers in
    ap (λ r. given r (λ v. loads turn x place next (field_cell s.memory v f))) value
    ∙ ap (loads turn x place next) (cell_found s.memory b f (Some w) h)
    ∙ ap (loads_content turn x (the_cell b f) place next) (content_found s.memory b f (Some w) h)

-- the act of a store
pub store_act : (p : ProgramTree) (s : State) (t : ℕ) (frame : Frame) (callers : Thread) (a c : ExpressionTree) (f : Field) (place : Place) (next b : ℕ) (w : Value) (held : Option Value) → evaluate frame.locals a ≡ Gives (start_of b)
    → evaluate frame.locals c ≡ Gives w → FieldThere s.memory b f held
    → act_of p (turn_of s t frame callers) (Store a f c place next)
    ≡ Touches (touch_of (the_cell b f) true place) (with_frames (over_memory (turn_of s t frame callers) (written s.memory (the_cell b f) w)) (at_step frame next ∷ callers))
store_act p s t frame callers a c f place next b w held pointer value h =
    let turn = turn_of s t frame callers in
    ap (λ r. given r (λ v. given (evaluate frame.locals c) (λ u. stores turn u place next (field_cell s.memory v f)))) pointer
    ∙ ap (λ r. given r (λ u. stores turn u place next (field_cell s.memory (start_of b) f))) value
    ∙ ap (stores turn w place next) (cell_found s.memory b f held h)

-- the location of the cell that is touched
field_location : {b i : ℕ} {g : Identity} {l : Location} → Some (FieldCell b g i) ≡ Some l → FieldCell b g i ≡ l
field_location e = cc

pub touched : (m : Memory) (b : ℕ) (f : Field) (held : Option Value) (writes : Bool) (place : Place) (c : Cell) (l : Location) → FieldThere m b f held → TouchesCell m (touch_of (the_cell b f) writes place) c
    → location_in (block_at m c.block) c ≡ Some l → FieldCell b f.structure f.index ≡ l
touched m b f held writes place c l h covers at =
    let same_block : block_at m c.block ≡ Some (Struct f.structure h.cells) = ap (block_at m) (sym covers.block) ∙ h.block in
    ap₂ (λ y i. FieldCell y f.structure i) covers.block covers.covered ∙ field_location (sym (ap (λ o. location_in o c) same_block) ∙ at)

-- after a store the mutexes and handles are as before
pub store_unshared : (m : Memory) (b : ℕ) (f : Field) (held : Option Value) (w : Value) → FieldThere m b f held → (d : ℕ) → IsShared (block_at (written m (the_cell b f) w) d) → block_at (written m (the_cell b f) w) d ≡ block_at m d
store_unshared m b f held w h d shared =
    let now = ap (written_in m (the_cell b f) w) h.block in
    elim (cases_eq d b) [
      | inl e ↦ absurd (subst IsShared (ap (λ z. block_at z d) now ∙ ap (block_at _) e ∙ block_here m b (Struct f.structure (slice_set h.cells f.index (Some w)))) shared)
      | inr other ↦ ap (λ z. block_at z d) now ∙ block_elsewhere m b d (Struct f.structure (slice_set h.cells f.index (Some w))) other
    ]

pub store_unmoved : (m : Memory) (b : ℕ) (f : Field) (held : Option Value) (w : Value) → FieldThere m b f held → (d : ℕ) → IsShared (block_at m d) → block_at (written m (the_cell b f) w) d ≡ block_at m d
store_unmoved m b f held w h d shared =
    let now = ap (written_in m (the_cell b f) w) h.block in
    elim (cases_eq d b) [
      | inl e ↦ absurd (subst IsShared (ap (block_at m) e ∙ h.block) shared)
      | inr other ↦ ap (λ z. block_at z d) now ∙ block_elsewhere m b d (Struct f.structure (slice_set h.cells f.index (Some w))) other
    ]

-- no field is shared by its place
pub other_field : (d : ℕ) (f : Field) (k : Location) → IsSharedPlace k → k ≢ FieldCell d f.structure f.index
other_field d f (MutexAt b) shared h = cc
other_field d f (HandleAt b) shared h = cc
other_field d f (FieldCell b g i) shared h = absurd shared
other_field d f (IndexCell b i) shared h = absurd shared
other_field d f (StructBlock b g) shared h = absurd shared
other_field d f (IntBlock b) shared h = absurd shared
other_field d f (HeldAt b) shared h = absurd shared

-- who owns the whole of a location with a part of what they own, owns the whole of it
pub whole_of : (q r own rest all : Part) (m : Memory) (l k : Location) (c : Content) → l ≡ k → q ≡ single l c whole → IsSum q r own → IsSum own rest all → Fits all m → own k c ≡ whole
whole_of q r own rest all m l k c same is inner outer fit =
    let here : q l c ≡ whole = ap (λ z. z l c) is ∙ single_here l c whole in
    let beyond = sums_regroup q r own rest all inner outer in
    let none : r l c ≡ nought = elim (nought_or_positive (r l c)) [
      | inl e ↦ e
      | inr y ↦ absurd (not_nought (beyond.0 l c) (whole_is_alone q beyond.0 all m l c c beyond.2 fit here) (in_left r rest beyond.0 beyond.1 l c y))
    ] in
    subst (λ z. own z c ≡ whole) same (sum_at q r own inner l c ∙ ap (sum (q l c)) none ∙ sum_left (q l c) nought refl ∙ here)

set_long : (xs : List (Option Value)) (i : ℕ) (y : Option Value) → length (slice_set xs i y) ≡ length xs
set_long [] i y = refl
set_long (x ∷ xs) zero y = refl
set_long (x ∷ xs) (suc i) y = ap suc (set_long xs i y)

-- a store keeps the number of cells
pub written_shaped : (p : ProgramTree) (m : Memory) (b : ℕ) (f : Field) (held : Option Value) (w : Value) → FieldThere m b f held → IsShaped p m → IsShaped p (written m (the_cell b f) w)
written_shaped p m b f held w h shaped d g cells is =
    let now = ap (written_in m (the_cell b f) w) h.block in
    elim (cases_eq d b) [
      | inl e ↦ own (some_same (sym (block_here m b (Struct f.structure (slice_set h.cells f.index (Some w)))) ∙ ap (block_at _) (sym e) ∙ ap (λ z. block_at z d) (sym now) ∙ is))
      | inr other ↦ shaped d g cells (sym (block_elsewhere m b d (Struct f.structure (slice_set h.cells f.index (Some w))) other) ∙ ap (λ z. block_at z d) (sym now) ∙ is)
    ]
  where
    own : Struct f.structure (slice_set h.cells f.index (Some w)) ≡ Struct g cells → length cells ≡ field_count p g
    own e = ap length (sym (cells_same e)) ∙ set_long h.cells f.index (Some w) ∙ shaped b f.structure h.cells h.block ∙ ap (field_count p) (names_same e)
      where
        cells_same : {xs ys : List (Option Value)} {a c : Identity} → Struct a xs ≡ Struct c ys → xs ≡ ys
        cells_same e = cc

        names_same : {xs ys : List (Option Value)} {a c : Identity} → Struct a xs ≡ Struct c ys → a ≡ c
        names_same e = cc
