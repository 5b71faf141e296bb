-- What is owned is there, and what fits after each change of the memory.
use Rattle.std.proofs.Common.{◌≡◌, ◌≢◌, ℕ, zero, suc, true, false, cond, List, [], ◌∷◌, length, slice_get, slice_set, Option, Some, None, refl, sym, ap, subst, ◌∙◌, ◌⊎◌, inl, inr, arith}
use Rattle.std.specs.Ordering.{nat_cmp, eq_by_cmp}
use Rattle.std.specs.Cmp.{nat_cmp_total}
use Rattle.std.proofs.lemmas.Bool.{false≢true, cases_Bool, cases_eq}
use Rattle.std.proofs.lemmas.Bool.Decides.{nat_tests}
use Rattle.std.specs.Cmp.Lexicographic.{bytes_decides}
use Rattle.std.specs.FinMap as finite
use Rattle.vf_tree.specs.Core.{Identity}
use Rattle.vf_model.specs.Values.{Dyadic, Value, same_identity}
use Rattle.vf_model.specs.Values as values
use Rattle.vf_model.specs.Memory.{Memory, Block, Struct, Ints, Mutex, Handle, block_at, written, written_in}
use Rattle.vf_meaning.specs.Fractions.{nought, whole, sum, IsPositive}
use Rattle.vf_meaning.specs.Parts.{Location, FieldCell, IndexCell, StructBlock, IntBlock, MutexAt, HeldAt, HandleAt, Content, CellOf, Bare, LengthOf, MutexOf, HeldOf, HandleOf, block_of, same_location, Part, single, ◌⊕◌, IsSum, HasNone, HasJust}
use Rattle.vf_meaning.specs.Fits.{cell_content, HasThere, HoldsMutex, FitsMutex, FitsHeld, FitsHandle, FitsAt, Fits}
use Rattle.vf_meaning.specs.FitLaws.{cell, FieldsAreThere, IndexesAreThere, StructsAreThere, IntBlocksAreThere, MutexesAreThere, HeldAreThere, HandlesAreThere, FieldsAreWritten, IndexesAreWritten, IsNotHeld, BlocksAreAdded, BlocksAreFreed, MutexesAreAcquired, MutexesAreReleased}
use Rattle.vf_meaning.proofs.Fractions.{sum_commutes, nought_adds_nothing}
use Rattle.vf_meaning.proofs.Parts.{tells_locations, nought_or_positive, not_nought, single_here, single_only, singles_have_just_that, in_left, in_right, whole_is_alone, just_one, ⊕-at, sum_at}

none_some : {A B : Type 0} {x : A} → None ≡ Some x → B
none_some e = cc

some_same : {A : Type 0} {x y : A} → Some x ≡ Some y → x ≡ y
some_same e = cc

pub same_or_other : (k l : Location) → (k ≡ l) ⊎ (k ≢ l)
same_or_other k l = elim (cases_Bool (same_location k l)) [ inl t ↦ inl ((tells_locations k l).0 t) | inr t ↦ inr (λ e. false≢true (sym t ∙ (tells_locations k l).1 e)) ]

-- ---- what is owned is there
-- what there is at a location is owned with just that content
there_is : (p : Part) (l : Location) (o : Option Content) (c : Content) → HasThere p l o → IsPositive (p l c) → o ≡ Some c
there_is p l None c h x = absurd (not_nought (p l c) (h c) x)
there_is p l (Some d) c h x = ap Some (sym (just_one p l d whole h c x))

-- whether two identities are one, in both ways
pub identities : (g h : Identity) → ((same_identity g h ≡ true) × (g ≡ h)) ⊎ (same_identity g h ≡ false)
identities g h = elim (cases_Bool (same_identity g h)) [ inl t ↦ inl (t, (bytes_decides g h).0 t) | inr t ↦ inr t ]

pub own_identity : (g : Identity) → same_identity g g ≡ true
own_identity g = (bytes_decides g g).1 refl

held_cell : (o : Option (Option Value)) (held : Option Value) → cell_content o ≡ Some (CellOf held) → o ≡ Some held
held_cell None held h = none_some h
held_cell (Some d) held h = ap Some (content_same (some_same h))
  where
    content_same : {a b : Option Value} → CellOf a ≡ CellOf b → a ≡ b
    content_same e = cc

field_there : (p : Part) (b i : ℕ) (g : Identity) (held : Option Value) (block : Option Block) → FitsAt p block (FieldCell b g i) → IsPositive (p (FieldCell b g i) (CellOf held))
    → (cells : List (Option Value)) × (block ≡ Some (Struct g cells)) × (slice_get cells i ≡ Some held)
field_there p b i g held None h x = none_some (there_is p (FieldCell b g i) None (CellOf held) h x)
field_there p b i g held (Some (Struct k cells)) h x =
    elim (identities k g) [
      | inl t ↦ (
        cells,
        ap (λ z. Some (Struct z cells)) t.1,
        held_cell (slice_get cells i) held (there_is p (FieldCell b g i) (cell_content (slice_get cells i)) (CellOf held) (subst (λ z. HasThere p (FieldCell b g i) (cond z (cell_content (slice_get cells i)) None)) t.0 h) x),
      )
      | inr t ↦ none_some (there_is p (FieldCell b g i) None (CellOf held) (subst (λ z. HasThere p (FieldCell b g i) (cond z (cell_content (slice_get cells i)) None)) t h) x)
    ]
field_there p b i g held (Some (Ints cells)) h x = none_some (there_is p (FieldCell b g i) None (CellOf held) h x)
field_there p b i g held (Some (Mutex o)) h x = none_some (there_is p (FieldCell b g i) None (CellOf held) h x)
field_there p b i g held (Some (Handle t r a)) h x = none_some (there_is p (FieldCell b g i) None (CellOf held) h x)

pub fields_are_there : FieldsAreThere
fields_are_there p m b i g held f x = field_there p b i g held (block_at m b) (f (FieldCell b g i)) x

index_there : (p : Part) (b i : ℕ) (held : Option Value) (block : Option Block) → FitsAt p block (IndexCell b i) → IsPositive (p (IndexCell b i) (CellOf held))
    → (cells : List (Option Value)) × (block ≡ Some (Ints cells)) × (slice_get cells i ≡ Some held)
index_there p b i held None h x = none_some (there_is p (IndexCell b i) None (CellOf held) h x)
index_there p b i held (Some (Ints cells)) h x = (cells, refl, held_cell (slice_get cells i) held (there_is p (IndexCell b i) (cell_content (slice_get cells i)) (CellOf held) h x))
index_there p b i held (Some (Struct k cells)) h x = none_some (there_is p (IndexCell b i) None (CellOf held) h x)
index_there p b i held (Some (Mutex o)) h x = none_some (there_is p (IndexCell b i) None (CellOf held) h x)
index_there p b i held (Some (Handle t r a)) h x = none_some (there_is p (IndexCell b i) None (CellOf held) h x)

pub indexes_are_there : IndexesAreThere
indexes_are_there p m b i held f x = index_there p b i held (block_at m b) (f (IndexCell b i)) x

struct_there : (p : Part) (b : ℕ) (g : Identity) (c : Content) (block : Option Block) → FitsAt p block (StructBlock b g) → IsPositive (p (StructBlock b g) c)
    → (cells : List (Option Value)) × (block ≡ Some (Struct g cells)) × (c ≡ Bare)
struct_there p b g c None h x = none_some (there_is p (StructBlock b g) None c h x)
struct_there p b g c (Some (Struct k cells)) h x =
    elim (identities k g) [
      | inl t ↦ (cells, ap (λ z. Some (Struct z cells)) t.1, sym (some_same (there_is p (StructBlock b g) (Some Bare) c (subst (λ z. HasThere p (StructBlock b g) (cond z (Some Bare) None)) t.0 h) x)))
      | inr t ↦ none_some (there_is p (StructBlock b g) None c (subst (λ z. HasThere p (StructBlock b g) (cond z (Some Bare) None)) t h) x)
    ]
struct_there p b g c (Some (Ints cells)) h x = none_some (there_is p (StructBlock b g) None c h x)
struct_there p b g c (Some (Mutex o)) h x = none_some (there_is p (StructBlock b g) None c h x)
struct_there p b g c (Some (Handle t r a)) h x = none_some (there_is p (StructBlock b g) None c h x)

pub structs_are_there : StructsAreThere
structs_are_there p m b g c f x = struct_there p b g c (block_at m b) (f (StructBlock b g)) x

ints_there : (p : Part) (b : ℕ) (c : Content) (block : Option Block) → FitsAt p block (IntBlock b) → IsPositive (p (IntBlock b) c)
    → (cells : List (Option Value)) × (block ≡ Some (Ints cells)) × (c ≡ LengthOf (length cells))
ints_there p b c None h x = none_some (there_is p (IntBlock b) None c h x)
ints_there p b c (Some (Ints cells)) h x = (cells, refl, sym (some_same (there_is p (IntBlock b) (Some (LengthOf (length cells))) c h x)))
ints_there p b c (Some (Struct k cells)) h x = none_some (there_is p (IntBlock b) None c h x)
ints_there p b c (Some (Mutex o)) h x = none_some (there_is p (IntBlock b) None c h x)
ints_there p b c (Some (Handle t r a)) h x = none_some (there_is p (IntBlock b) None c h x)

pub int_blocks_are_there : IntBlocksAreThere
int_blocks_are_there p m b c f x = ints_there p b c (block_at m b) (f (IntBlock b)) x

mutex_there : (p : Part) (b : ℕ) (c : Content) (block : Option Block) → FitsMutex p b block → IsPositive (p (MutexAt b) c) → (holder : Option ℕ) × (block ≡ Some (Mutex holder))
mutex_there p b c None h x = absurd (not_nought (p (MutexAt b) c) (h c) x)
mutex_there p b c (Some (Mutex None)) h x = (None, refl)
mutex_there p b c (Some (Mutex (Some t))) h x = (Some t, refl)
mutex_there p b c (Some (Struct g cells)) h x = absurd (not_nought (p (MutexAt b) c) (h c) x)
mutex_there p b c (Some (Ints cells)) h x = absurd (not_nought (p (MutexAt b) c) (h c) x)
mutex_there p b c (Some (Handle t r a)) h x = absurd (not_nought (p (MutexAt b) c) (h c) x)

pub mutexes_are_there : MutexesAreThere
mutexes_are_there p m b c f x = mutex_there p b c (block_at m b) (f (MutexAt b)) x

holder_same : {a b : Value} {t u : ℕ} {x y : Dyadic} → HeldOf a t x ≡ HeldOf b u y → t ≡ u
holder_same e = cc

held_there : (p : Part) (b t : ℕ) (q : Value) (f : Dyadic) (block : Option Block) → FitsHeld p b block → IsPositive (p (HeldAt b) (HeldOf q t f)) → block ≡ Some (Mutex (Some t))
held_there p b t q f None h x = absurd (not_nought (p (HeldAt b) (HeldOf q t f)) (h (HeldOf q t f)) x)
held_there p b t q f (Some (Mutex None)) h x = absurd (not_nought (p (HeldAt b) (HeldOf q t f)) (h (HeldOf q t f)) x)
held_there p b t q f (Some (Mutex (Some u))) h x = ap (λ z. Some (Mutex (Some z))) (sym (holder_same (just_one p (HeldAt b) (HeldOf h.invariant u h.given) whole h.held (HeldOf q t f) x)))
held_there p b t q f (Some (Struct g cells)) h x = absurd (not_nought (p (HeldAt b) (HeldOf q t f)) (h (HeldOf q t f)) x)
held_there p b t q f (Some (Ints cells)) h x = absurd (not_nought (p (HeldAt b) (HeldOf q t f)) (h (HeldOf q t f)) x)
held_there p b t q f (Some (Handle u r a)) h x = absurd (not_nought (p (HeldAt b) (HeldOf q t f)) (h (HeldOf q t f)) x)

pub held_are_there : HeldAreThere
held_are_there p m b t q f h x = held_there p b t q f (block_at m b) (h (HeldAt b)) x

handle_same : {r s a d i j : Value} → HandleOf r a i ≡ HandleOf s d j → (r ≡ s) × (a ≡ d)
handle_same e = (cc, cc)

handle_there : (p : Part) (b : ℕ) (run argument info : Value) (block : Option Block) → FitsHandle p b block → IsPositive (p (HandleAt b) (HandleOf run argument info))
    → (thread : ℕ) × (f : Identity) × (block ≡ Some (Handle thread f argument)) × (run ≡ values.Function f)
handle_there p b run argument info None h x = absurd (not_nought (p (HandleAt b) (HandleOf run argument info)) (h (HandleOf run argument info)) x)
handle_there p b run argument info (Some (Handle t f a)) h x =
    let is = handle_same (just_one p (HandleAt b) (HandleOf (values.Function f) a h.0) whole h.1 (HandleOf run argument info) x) in
    (t, f, ap (λ z. Some (Handle t f z)) (sym is.1), is.0)
handle_there p b run argument info (Some (Mutex o)) h x = absurd (not_nought (p (HandleAt b) (HandleOf run argument info)) (h (HandleOf run argument info)) x)
handle_there p b run argument info (Some (Struct g cells)) h x = absurd (not_nought (p (HandleAt b) (HandleOf run argument info)) (h (HandleOf run argument info)) x)
handle_there p b run argument info (Some (Ints cells)) h x = absurd (not_nought (p (HandleAt b) (HandleOf run argument info)) (h (HandleOf run argument info)) x)

pub handles_are_there : HandlesAreThere
handles_are_there p m b run argument info f x = handle_there p b run argument info (block_at m b) (f (HandleAt b)) x

-- ---- a memory with another block
pub block_here : (m : Memory) (b : ℕ) (block : Block) → block_at (finite.insert m b block) b ≡ Some block
block_here m b block = finite.get-insert nat_cmp_total m b block b ∙ ap (λ t. cond t (Some block) (block_at m b)) (own_number b)
  where
    own_number : (b : ℕ) → eq_by_cmp nat_cmp b b ≡ true
    own_number b = grind (arith, nat_tests)

other_number : (b c : ℕ) → (c ≡ b → ⊥) → eq_by_cmp nat_cmp c b ≡ false
other_number b c h = grind (arith, nat_tests)

pub block_elsewhere : (m : Memory) (b c : ℕ) (block : Block) → (c ≡ b → ⊥) → block_at (finite.insert m b block) c ≡ block_at m c
block_elsewhere m b c block h = finite.get-insert nat_cmp_total m b block c ∙ ap (λ t. cond t (Some block) (block_at m c)) (other_number b c h)

pub removed_here : (m : Memory) (b : ℕ) → block_at (finite.remove m b) b ≡ None
removed_here m b = finite.get-remove nat_cmp_total m b b ∙ ap (λ t. cond t None (block_at m b)) (own_number b)
  where
    own_number : (b : ℕ) → eq_by_cmp nat_cmp b b ≡ true
    own_number b = grind (arith, nat_tests)

pub removed_elsewhere : (m : Memory) (b c : ℕ) → (c ≡ b → ⊥) → block_at (finite.remove m b) c ≡ block_at m c
removed_elsewhere m b c h = finite.get-remove nat_cmp_total m b c ∙ ap (λ t. cond t None (block_at m c)) (other_number b c h)

-- ---- fitting goes by what is owned at a block
-- two parts own the same at all locations of a block
abbrev OwnsSame : Part → Part → ℕ → Type 0
OwnsSame p q b = (l : Location) (c : Content) → block_of l ≡ b → p l c ≡ q l c

there_same : (p q : Part) (l : Location) (o : Option Content) → ((c : Content) → p l c ≡ q l c) → HasThere p l o → HasThere q l o
there_same p q l None same h = λ c. sym (same c) ∙ h c
there_same p q l (Some d) same h = record { here = sym (same d) ∙ h.here; else = λ c other. sym (same c) ∙ h.else c other }

just_same : (p q : Part) (l : Location) (d : Content) (x : Dyadic) → ((c : Content) → p l c ≡ q l c) → HasJust p l d x → HasJust q l d x
just_same p q l d x same h = record { here = sym (same d) ∙ h.here; else = λ c other. sym (same c) ∙ h.else c other }

none_same : (p q : Part) (l : Location) → ((c : Content) → p l c ≡ q l c) → HasNone p l → HasNone q l
none_same p q l same h c = sym (same c) ∙ h c

holds_same : (p q : Part) (b t : ℕ) → OwnsSame p q b → HoldsMutex p b t → HoldsMutex q b t
holds_same p q b t same h = record {
  invariant = h.invariant;
  given = h.given;
  left = h.left;
  positive = h.positive;
  parted = h.parted;
  held = just_same p q (HeldAt b) _ whole (λ c. same (HeldAt b) c refl) h.held;
  mutex = just_same p q (MutexAt b) _ h.left (λ c. same (MutexAt b) c refl) h.mutex;
}

mutex_fit_same : (p q : Part) (b : ℕ) (block : Option Block) → OwnsSame p q b → FitsMutex p b block → FitsMutex q b block
mutex_fit_same p q b (Some (Mutex None)) same h = (h.0, just_same p q (MutexAt b) _ whole (λ c. same (MutexAt b) c refl) h.1)
mutex_fit_same p q b (Some (Mutex (Some t))) same h = holds_same p q b t same h
mutex_fit_same p q b None same h = none_same p q (MutexAt b) (λ c. same (MutexAt b) c refl) h
mutex_fit_same p q b (Some (Struct g cells)) same h = none_same p q (MutexAt b) (λ c. same (MutexAt b) c refl) h
mutex_fit_same p q b (Some (Ints cells)) same h = none_same p q (MutexAt b) (λ c. same (MutexAt b) c refl) h
mutex_fit_same p q b (Some (Handle t r a)) same h = none_same p q (MutexAt b) (λ c. same (MutexAt b) c refl) h

held_fit_same : (p q : Part) (b : ℕ) (block : Option Block) → OwnsSame p q b → FitsHeld p b block → FitsHeld q b block
held_fit_same p q b (Some (Mutex (Some t))) same h = holds_same p q b t same h
held_fit_same p q b (Some (Mutex None)) same h = none_same p q (HeldAt b) (λ c. same (HeldAt b) c refl) h
held_fit_same p q b None same h = none_same p q (HeldAt b) (λ c. same (HeldAt b) c refl) h
held_fit_same p q b (Some (Struct g cells)) same h = none_same p q (HeldAt b) (λ c. same (HeldAt b) c refl) h
held_fit_same p q b (Some (Ints cells)) same h = none_same p q (HeldAt b) (λ c. same (HeldAt b) c refl) h
held_fit_same p q b (Some (Handle t r a)) same h = none_same p q (HeldAt b) (λ c. same (HeldAt b) c refl) h

handle_fit_same : (p q : Part) (b : ℕ) (block : Option Block) → OwnsSame p q b → FitsHandle p b block → FitsHandle q b block
handle_fit_same p q b (Some (Handle t r a)) same h = (h.0, just_same p q (HandleAt b) _ whole (λ c. same (HandleAt b) c refl) h.1)
handle_fit_same p q b (Some (Mutex o)) same h = none_same p q (HandleAt b) (λ c. same (HandleAt b) c refl) h
handle_fit_same p q b None same h = none_same p q (HandleAt b) (λ c. same (HandleAt b) c refl) h
handle_fit_same p q b (Some (Struct g cells)) same h = none_same p q (HandleAt b) (λ c. same (HandleAt b) c refl) h
handle_fit_same p q b (Some (Ints cells)) same h = none_same p q (HandleAt b) (λ c. same (HandleAt b) c refl) h

pub fit_same : (p q : Part) (block : Option Block) (l : Location) → OwnsSame p q (block_of l) → FitsAt p block l → FitsAt q block l
fit_same p q block (FieldCell b g i) same h = there_same p q (FieldCell b g i) _ (λ c. same (FieldCell b g i) c refl) h
fit_same p q block (IndexCell b i) same h = there_same p q (IndexCell b i) _ (λ c. same (IndexCell b i) c refl) h
fit_same p q block (StructBlock b g) same h = there_same p q (StructBlock b g) _ (λ c. same (StructBlock b g) c refl) h
fit_same p q block (IntBlock b) same h = there_same p q (IntBlock b) _ (λ c. same (IntBlock b) c refl) h
fit_same p q block (MutexAt b) same h = mutex_fit_same p q b block same h
fit_same p q block (HeldAt b) same h = held_fit_same p q b block same h
fit_same p q block (HandleAt b) same h = handle_fit_same p q b block same h

-- nothing is owned where there is no block
pub none_there : (p : Part) (l : Location) → HasNone p l → FitsAt p None l
none_there p (FieldCell b g i) h = h
none_there p (IndexCell b i) h = h
none_there p (StructBlock b g) h = h
none_there p (IntBlock b) h = h
none_there p (MutexAt b) h = h
none_there p (HeldAt b) h = h
none_there p (HandleAt b) h = h

pub there_none : (p : Part) (l : Location) → FitsAt p None l → HasNone p l
there_none p (FieldCell b g i) h = h
there_none p (IndexCell b i) h = h
there_none p (StructBlock b g) h = h
there_none p (IntBlock b) h = h
there_none p (MutexAt b) h = h
there_none p (HeldAt b) h = h
there_none p (HandleAt b) h = h

-- ---- one part for another beside a third
-- the locations of a block differ from those of another
pub other_block : (m : Memory) (b : ℕ) (block : Block) (p q : Part) (l : Location) → block_of l ≢ b → OwnsSame p q (block_of l) → FitsAt p (block_at m (block_of l)) l → FitsAt q (block_at (finite.insert m b block) (block_of l)) l
other_block m b block p q l other same h = subst (λ o. FitsAt q o l) (sym (block_elsewhere m b (block_of l) block other)) (fit_same p q (block_at m (block_of l)) l same h)

pub sum_right : (x y : Dyadic) → x ≡ nought → sum x y ≡ y
sum_right x y h = ap (λ z. sum z y) h ∙ nought_adds_nothing y

pub sum_left : (x y : Dyadic) → y ≡ nought → sum x y ≡ x
sum_left x y h = ap (sum x) h ∙ sum_commutes x nought ∙ nought_adds_nothing x

-- beside what is all of a block nothing of it is owned
pub beside : (q f p : Part) (l : Location) (m : Memory) (c : Content) → IsSum q f p → Fits p m → q l c ≡ whole → HasNone f l
beside q f p l m c s h w d = whole_is_alone q f p m l c d s h w

-- ---- a cell is written
set_here : (xs : List (Option Value)) (i : ℕ) (y z : Option Value) → slice_get xs i ≡ Some z → slice_get (slice_set xs i y) i ≡ Some y
set_here [] i y z h = none_some h
set_here (x ∷ xs) zero y z h = refl
set_here (x ∷ xs) (suc i) y z h = set_here xs i y z h

set_elsewhere : (xs : List (Option Value)) (i j : ℕ) (y : Option Value) → j ≢ i → slice_get (slice_set xs i y) j ≡ slice_get xs j
set_elsewhere [] i j y h = refl
set_elsewhere (x ∷ xs) zero zero y h = absurd (h refl)
set_elsewhere (x ∷ xs) zero (suc j) y h = refl
set_elsewhere (x ∷ xs) (suc i) zero y h = refl
set_elsewhere (x ∷ xs) (suc i) (suc j) y h = set_elsewhere xs i j y (λ e. h (ap suc e))

set_length : (xs : List (Option Value)) (i : ℕ) (y : Option Value) → length (slice_set xs i y) ≡ length xs
set_length [] i y = refl
set_length (x ∷ xs) zero y = refl
set_length (x ∷ xs) (suc i) y = ap suc (set_length xs i y)

pub single_nought : (l k : Location) (c d : Content) (x : Dyadic) → k ≢ l → single l c x k d ≡ nought
single_nought l k c d x h = elim (nought_or_positive (single l c x k d)) [ inl e ↦ e | inr y ↦ absurd (h (single_only l c x k d y).0) ]

-- one location for another beside a part that has none of either
module _ (l k : Location) (c d : Content) (x y : Dyadic) (f all : Part) (sums : IsSum (single l c x) f all) where
  exchanged : (n : Location) (e : Content) → n ≢ l → n ≢ k → all n e ≡ (single k d y ⊕ f) n e
  exchanged n e h j =
      sum_at (single l c x) f all sums n e ∙ sum_right (single l c x n e) (f n e) (single_nought l n c e x h)
      ∙ sym (⊕-at (single k d y) f n e ∙ sum_right (single k d y n e) (f n e) (single_nought k n d e y j))

pub new_sum : (k : Location) (d : Content) (y : Dyadic) (f : Part) → HasNone f k → IsSum (single k d y) f (single k d y ⊕ f)
new_sum k d y f h = record { agree = λ l c e u w. absurd (not_nought (f k e) (h e) (subst (λ z. IsPositive (f z e)) (single_only k d y l c u).0 w)); adds = refl }

new_just : (k : Location) (d : Content) (y : Dyadic) (f : Part) → HasNone f k → HasJust (single k d y ⊕ f) k d y
new_just k d y f h = let own = (singles_have_just_that k d y).0 in record {
  here = ⊕-at (single k d y) f k d ∙ sum_left (single k d y k d) (f k d) (h d) ∙ own.here;
  else = λ e other. ⊕-at (single k d y) f k e ∙ sum_left (single k d y k e) (f k e) (h e) ∙ own.else e other;
}

field_index : {b c i j : ℕ} {g : Identity} → IndexCell b i ≡ FieldCell c g j → ⊥
field_index e = cc

-- the other locations of a struct's block fit as before
struct_rest : (p q : Part) (b i : ℕ) (g : Identity) (cells : List (Option Value)) (v : Option Value) (k : Location) → block_of k ≡ b → k ≢ FieldCell b g i → ((c : Content) → p k c ≡ q k c)
    → FitsAt p (Some (Struct g cells)) k → FitsAt q (Some (Struct g (slice_set cells i v))) k
struct_rest p q b i g cells v (FieldCell d h j) e other same fit =
    elim (identities g h) [
      | inl t ↦
          let differs : j ≢ i = λ z. other (ap (λ r. FieldCell r h j) e ∙ ap (λ r. FieldCell b r j) (sym t.1) ∙ ap (FieldCell b g) z) in
          subst (λ z. HasThere q (FieldCell d h j) (cond z (cell_content (slice_get (slice_set cells i v) j)) None)) (sym t.0)
          (subst (λ z. HasThere q (FieldCell d h j) (cell_content z)) (sym (set_elsewhere cells i j v differs))
          (there_same p q (FieldCell d h j) (cell_content (slice_get cells j)) same (subst (λ z. HasThere p (FieldCell d h j) (cond z (cell_content (slice_get cells j)) None)) t.0 fit)))
      | inr t ↦ subst (λ z. HasThere q (FieldCell d h j) (cond z (cell_content (slice_get (slice_set cells i v) j)) None)) (sym t)
          (there_same p q (FieldCell d h j) None same (subst (λ z. HasThere p (FieldCell d h j) (cond z (cell_content (slice_get cells j)) None)) t fit))
    ]
struct_rest p q b i g cells v (IndexCell d j) e other same fit = none_same p q (IndexCell d j) same fit
struct_rest p q b i g cells v (StructBlock d h) e other same fit = there_same p q (StructBlock d h) _ same fit
struct_rest p q b i g cells v (IntBlock d) e other same fit = none_same p q (IntBlock d) same fit
struct_rest p q b i g cells v (MutexAt d) e other same fit = none_same p q (MutexAt d) same fit
struct_rest p q b i g cells v (HeldAt d) e other same fit = none_same p q (HeldAt d) same fit
struct_rest p q b i g cells v (HandleAt d) e other same fit = none_same p q (HandleAt d) same fit

pub fields_are_written : FieldsAreWritten
fields_are_written m b i g old v f h =
    let l = FieldCell b g i in
    let q = single l (CellOf old) whole in
    let mine : q l (CellOf old) ≡ whole = single_here l (CellOf old) whole in
    let found = fields_are_there h.all m b i g old h.fits (in_left q f h.all h.sums l (CellOf old) (subst IsPositive (sym mine) positive_whole)) in
    let cells = found.0 in
    let none = beside q f h.all l m (CellOf old) h.sums h.fits mine in
    let new = single l (CellOf (Some v)) whole ⊕ f in
    let same : (k : Location) (c : Content) → k ≢ l → h.all k c ≡ new k c = λ k c other. exchanged l l (CellOf old) (CellOf (Some v)) whole whole f h.all h.sums k c other other in
    let now : written m (cell b i) v ≡ finite.insert m b (Struct g (slice_set cells i (Some v))) = ap (written_in m (cell b i) v) found.1 in
    let there_now : FitsAt new (Some (Struct g (slice_set cells i (Some v)))) l =
    subst (λ z. HasThere new l (cond z (cell_content (slice_get (slice_set cells i (Some v)) i)) None)) (sym (own_identity g))
    (subst (λ z. HasThere new l (cell_content z)) (sym (set_here cells i (Some v) old found.2)) (new_just l (CellOf (Some v)) whole f none)) in
    record {
      all = new;
      sums = new_sum l (CellOf (Some v)) whole f none;
      fits = subst (λ z. Fits new z) (sym now) (λ k. elim (cases_eq (block_of k) b) [
        | inl e ↦ subst (λ o. FitsAt new o k) (sym (ap (block_at (finite.insert m b (Struct g (slice_set cells i (Some v))))) e ∙ block_here m b (Struct g (slice_set cells i (Some v)))))
            (elim (same_or_other k l) [
              | inl is ↦ subst (λ z. FitsAt new (Some (Struct g (slice_set cells i (Some v)))) z) (sym is) there_now
              | inr other ↦ struct_rest h.all new b i g cells (Some v) k e other (λ c. same k c other) (subst (λ o. FitsAt h.all o k) (ap (block_at m) e ∙ found.1) (h.fits k))
            ])
        | inr other ↦ other_block m b (Struct g (slice_set cells i (Some v))) h.all new k other (λ n c at. same n c (λ is. other (sym at ∙ ap block_of is))) (h.fits k)
      ]);
    }
  where
    positive_whole : IsPositive whole
    positive_whole = omega arith

ints_rest : (p q : Part) (b i : ℕ) (cells : List (Option Value)) (v : Option Value) (k : Location) → block_of k ≡ b → k ≢ IndexCell b i → ((c : Content) → p k c ≡ q k c)
    → FitsAt p (Some (Ints cells)) k → FitsAt q (Some (Ints (slice_set cells i v))) k
ints_rest p q b i cells v (IndexCell d j) e other same fit =
    let differs : j ≢ i = λ z. other (ap (λ r. IndexCell r j) e ∙ ap (IndexCell b) z) in
    subst (λ z. HasThere q (IndexCell d j) (cell_content z)) (sym (set_elsewhere cells i j v differs)) (there_same p q (IndexCell d j) (cell_content (slice_get cells j)) same fit)
ints_rest p q b i cells v (IntBlock d) e other same fit = subst (λ z. HasThere q (IntBlock d) (Some (LengthOf z))) (sym (set_length cells i v)) (there_same p q (IntBlock d) (Some (LengthOf (length cells))) same fit)
ints_rest p q b i cells v (FieldCell d h j) e other same fit = none_same p q (FieldCell d h j) same fit
ints_rest p q b i cells v (StructBlock d h) e other same fit = none_same p q (StructBlock d h) same fit
ints_rest p q b i cells v (MutexAt d) e other same fit = none_same p q (MutexAt d) same fit
ints_rest p q b i cells v (HeldAt d) e other same fit = none_same p q (HeldAt d) same fit
ints_rest p q b i cells v (HandleAt d) e other same fit = none_same p q (HandleAt d) same fit

pub indexes_are_written : IndexesAreWritten
indexes_are_written m b i old v f h =
    let l = IndexCell b i in
    let q = single l (CellOf old) whole in
    let mine : q l (CellOf old) ≡ whole = single_here l (CellOf old) whole in
    let found = indexes_are_there h.all m b i old h.fits (in_left q f h.all h.sums l (CellOf old) (subst IsPositive (sym mine) positive_whole)) in
    let cells = found.0 in
    let none = beside q f h.all l m (CellOf old) h.sums h.fits mine in
    let new = single l (CellOf (Some v)) whole ⊕ f in
    let same : (k : Location) (c : Content) → k ≢ l → h.all k c ≡ new k c = λ k c other. exchanged l l (CellOf old) (CellOf (Some v)) whole whole f h.all h.sums k c other other in
    let now : written m (cell b i) v ≡ finite.insert m b (Ints (slice_set cells i (Some v))) = ap (written_in m (cell b i) v) found.1 in
    let there_now : FitsAt new (Some (Ints (slice_set cells i (Some v)))) l =
    subst (λ z. HasThere new l (cell_content z)) (sym (set_here cells i (Some v) old found.2)) (new_just l (CellOf (Some v)) whole f none) in
    record {
      all = new;
      sums = new_sum l (CellOf (Some v)) whole f none;
      fits = subst (λ z. Fits new z) (sym now) (λ k. elim (cases_eq (block_of k) b) [
        | inl e ↦ subst (λ o. FitsAt new o k) (sym (ap (block_at (finite.insert m b (Ints (slice_set cells i (Some v))))) e ∙ block_here m b (Ints (slice_set cells i (Some v)))))
            (elim (same_or_other k l) [
              | inl is ↦ subst (λ z. FitsAt new (Some (Ints (slice_set cells i (Some v)))) z) (sym is) there_now
              | inr other ↦ ints_rest h.all new b i cells (Some v) k e other (λ c. same k c other) (subst (λ o. FitsAt h.all o k) (ap (block_at m) e ∙ found.1) (h.fits k))
            ])
        | inr other ↦ other_block m b (Ints (slice_set cells i (Some v))) h.all new k other (λ n c at. same n c (λ is. other (sym at ∙ ap block_of is))) (h.fits k)
      ]);
    }
  where
    positive_whole : IsPositive whole
    positive_whole = omega arith

-- ---- a block comes, and goes
pub blocks_are_added : BlocksAreAdded
blocks_are_added m b block q f fit free all_of =
    let none : (l : Location) → block_of l ≡ b → HasNone f l = λ l e. there_none f l (subst (λ o. FitsAt f o l) (ap (block_at m) e ∙ free) (fit l)) in
    record {
      all = q ⊕ f;
      sums = record {
        agree = λ l c d x y. elim (cases_eq (block_of l) b) [
          | inl e ↦ absurd (not_nought (f l d) (none l e d) y)
          | inr other ↦ absurd (not_nought (q l c) (all_of.elsewhere l other c) x)
        ];
        adds = refl;
      };
      fits = λ l. elim (cases_eq (block_of l) b) [
        | inl e ↦ subst (λ o. FitsAt (q ⊕ f) o l) (sym (ap (block_at (finite.insert m b block)) e ∙ block_here m b block))
            (fit_same q (q ⊕ f) (Some block) l (λ n c at. sym (⊕-at q f n c ∙ sum_left (q n c) (f n c) (none n (at ∙ e) c))) (all_of.here l e))
        | inr other ↦ other_block m b block f (q ⊕ f) l other (λ n c at. sym (⊕-at q f n c ∙ sum_right (q n c) (f n c) (all_of.elsewhere n (λ z. other (sym at ∙ z)) c))) (fit l)
      ];
    }

-- of what is all owned nothing is left
module _ (q f p : Part) (m : Memory) (sums : IsSum q f p) (fit : Fits p m) where
  left_none : (l : Location) → HasNone p l → HasNone f l
  left_none l h c = elim (nought_or_positive (f l c)) [ inl e ↦ e | inr y ↦ absurd (not_nought (p l c) (h c) (in_right q f p sums l c y)) ]

  left_of_there : (l : Location) (o : Option Content) → HasThere q l o → HasThere p l o → HasNone f l
  left_of_there l None h k = left_none l k
  left_of_there l (Some d) h k = beside q f p l m d sums fit h.here

  left_of_mutex : (b : ℕ) (block : Block) → IsNotHeld block → FitsMutex q b (Some block) → FitsMutex p b (Some block) → HasNone f (MutexAt b)
  left_of_mutex b (Mutex None) n h k = beside q f p (MutexAt b) m _ sums fit (h.1).here
  left_of_mutex b (Mutex (Some t)) n h k = absurd n
  left_of_mutex b (Struct g cells) n h k = left_none (MutexAt b) k
  left_of_mutex b (Ints cells) n h k = left_none (MutexAt b) k
  left_of_mutex b (Handle t r a) n h k = left_none (MutexAt b) k

  left_of_held : (b : ℕ) (block : Block) → IsNotHeld block → FitsHeld q b (Some block) → FitsHeld p b (Some block) → HasNone f (HeldAt b)
  left_of_held b (Mutex None) n h k = left_none (HeldAt b) k
  left_of_held b (Mutex (Some t)) n h k = absurd n
  left_of_held b (Struct g cells) n h k = left_none (HeldAt b) k
  left_of_held b (Ints cells) n h k = left_none (HeldAt b) k
  left_of_held b (Handle t r a) n h k = left_none (HeldAt b) k

  left_of_handle : (b : ℕ) (block : Block) → FitsHandle q b (Some block) → FitsHandle p b (Some block) → HasNone f (HandleAt b)
  left_of_handle b (Handle t r a) h k = beside q f p (HandleAt b) m _ sums fit (h.1).here
  left_of_handle b (Mutex o) h k = left_none (HandleAt b) k
  left_of_handle b (Struct g cells) h k = left_none (HandleAt b) k
  left_of_handle b (Ints cells) h k = left_none (HandleAt b) k

  nothing_left : (block : Block) (l : Location) → IsNotHeld block → FitsAt q (Some block) l → FitsAt p (Some block) l → HasNone f l
  nothing_left block (FieldCell b g i) n h k = left_of_there (FieldCell b g i) _ h k
  nothing_left block (IndexCell b i) n h k = left_of_there (IndexCell b i) _ h k
  nothing_left block (StructBlock b g) n h k = left_of_there (StructBlock b g) _ h k
  nothing_left block (IntBlock b) n h k = left_of_there (IntBlock b) _ h k
  nothing_left block (MutexAt b) n h k = left_of_mutex b block n h k
  nothing_left block (HeldAt b) n h k = left_of_held b block n h k
  nothing_left block (HandleAt b) n h k = left_of_handle b block h k

pub blocks_are_freed : BlocksAreFreed
blocks_are_freed m b block q f h is unheld all_of l =
    elim (cases_eq (block_of l) b) [
      | inl e ↦ subst (λ o. FitsAt f o l) (sym (ap (block_at (finite.remove m b)) e ∙ removed_here m b))
          (none_there f l (nothing_left q f h.all m h.sums h.fits block l unheld (all_of.here l e) (subst (λ o. FitsAt h.all o l) (ap (block_at m) e ∙ is) (h.fits l))))
      | inr other ↦ subst (λ o. FitsAt f o l) (sym (removed_elsewhere m b (block_of l) other))
          (fit_same h.all f (block_at m (block_of l)) l (λ n c at. sum_at q f h.all h.sums n c ∙ sum_right (q n c) (f n c) (all_of.elsewhere n (λ z. other (sym at ∙ z)) c)) (h.fits l))
    ]

-- ---- a mutex is acquired, and released
mutex_block : (b : ℕ) (l : Location) → block_of l ≡ b → (l ≢ MutexAt b) → (l ≢ HeldAt b) → (p q : Part) (h k : Option ℕ) → ((c : Content) → p l c ≡ q l c) → FitsAt p (Some (Mutex h)) l → FitsAt q (Some (Mutex k)) l
mutex_block b (FieldCell d g i) e n o p q h k same fit = none_same p q (FieldCell d g i) same fit
mutex_block b (IndexCell d i) e n o p q h k same fit = none_same p q (IndexCell d i) same fit
mutex_block b (StructBlock d g) e n o p q h k same fit = none_same p q (StructBlock d g) same fit
mutex_block b (IntBlock d) e n o p q h k same fit = none_same p q (IntBlock d) same fit
mutex_block b (MutexAt d) e n o p q h k same fit = absurd (n (ap MutexAt e))
mutex_block b (HeldAt d) e n o p q h k same fit = absurd (o (ap HeldAt e))
mutex_block b (HandleAt d) e n o p q h k same fit = none_same p q (HandleAt d) same fit

mutex_held : {b c : ℕ} → MutexAt b ≡ HeldAt c → ⊥
mutex_held e = cc

mutex_content : {q r : Value} → MutexOf q ≡ MutexOf r → q ≡ r
mutex_content e = cc

-- what is owned beside one location, where that is all that another part owns
module _ (l : Location) (c : Content) (x : Dyadic) (f all : Part) (sums : IsSum (single l c x) f all) where
  beside_other : (k : Location) (d : Content) → k ≢ l → f k d ≡ all k d
  beside_other k d h = sym (sum_at (single l c x) f all sums k d ∙ sum_right (single l c x k d) (f k d) (single_nought l k c d x h))

  beside_content : (d : Content) → d ≢ c → f l d ≡ all l d
  beside_content d h = sym (sum_at (single l c x) f all sums l d ∙ sum_right (single l c x l d) (f l d) ((singles_have_just_that l c x).0.else d h))

  beside_here : sum x (f l c) ≡ all l c
  beside_here = sym (sum_at (single l c x) f all sums l c ∙ ap (λ z. sum z (f l c)) (single_here l c x))

pub mutexes_are_acquired : MutexesAreAcquired
mutexes_are_acquired m b t q x f positive is h =
    let l = MutexAt b in
    let all = h.all in
    let free : FitsMutex all b (Some (Mutex None)) = subst (λ o. FitsMutex all b o) is (h.fits l) in
    let unheld : HasNone all (HeldAt b) = subst (λ o. FitsHeld all b o) is (h.fits (HeldAt b)) in
    let mine : IsPositive (single l (MutexOf q) x l (MutexOf q)) = subst IsPositive (sym (single_here l (MutexOf q) x)) positive in
    let same_q : MutexOf q ≡ MutexOf free.0 = just_one all l (MutexOf free.0) whole free.1 (MutexOf q) (in_left (single l (MutexOf q) x) f all h.sums l (MutexOf q) mine) in
    let own : HasJust all l (MutexOf q) whole = subst (λ z. HasJust all l z whole) (sym same_q) free.1 in
    let none : HasNone f (HeldAt b) = λ c. beside_other l (MutexOf q) x f all h.sums (HeldAt b) c (λ e. mutex_held (sym e)) ∙ unheld c in
    let held = HeldOf q t x in
    let new = single (HeldAt b) held whole ⊕ f in
    let new_l : (c : Content) → new l c ≡ f l c = λ c. ⊕-at (single (HeldAt b) held whole) f l c ∙ sum_right (single (HeldAt b) held whole l c) (f l c) (single_nought (HeldAt b) l held c whole mutex_held) in
    let holds : HoldsMutex new b t = record {
      invariant = q;
      given = x;
      left = f l (MutexOf q);
      positive = positive;
      parted = sum_commutes (f l (MutexOf q)) x ∙ beside_here l (MutexOf q) x f all h.sums ∙ own.here;
      held = new_just (HeldAt b) held whole f none;
      mutex = record { here = new_l (MutexOf q); else = λ d other. new_l d ∙ beside_content l (MutexOf q) x f all h.sums d other ∙ own.else d other };
    } in
    record {
      all = new;
      sums = new_sum (HeldAt b) held whole f none;
      fits = λ k. elim (cases_eq (block_of k) b) [
        | inl e ↦ subst (λ o. FitsAt new o k) (sym (ap (block_at (finite.insert m b (Mutex (Some t)))) e ∙ block_here m b (Mutex (Some t))))
            (elim (same_or_other k l) [
              | inl at ↦ subst (λ z. FitsAt new (Some (Mutex (Some t))) z) (sym at) holds
              | inr other ↦ elim (same_or_other k (HeldAt b)) [
                | inl at ↦ subst (λ z. FitsAt new (Some (Mutex (Some t))) z) (sym at) holds
                | inr further ↦ mutex_block b k e other further all new None (Some t) (λ c. exchanged l (HeldAt b) (MutexOf q) held x whole f all h.sums k c other further)
                    (subst (λ o. FitsAt all o k) (ap (block_at m) e ∙ is) (h.fits k))
              ]
            ])
        | inr other ↦ other_block m b (Mutex (Some t)) all new k other
            (λ n c at. exchanged l (HeldAt b) (MutexOf q) held x whole f all h.sums n c (λ z. other (sym at ∙ ap block_of z)) (λ z. other (sym at ∙ ap block_of z))) (h.fits k)
      ];
    }

held_content : {q r : Value} {t u : ℕ} {x y : Dyadic} → HeldOf q t x ≡ HeldOf r u y → (q ≡ r) × (x ≡ y)
held_content e = (cc, cc)

pub mutexes_are_released : MutexesAreReleased
mutexes_are_released m b t q x f h =
    let l = HeldAt b in
    let all = h.all in
    let held = HeldOf q t x in
    let mine : single l held whole l held ≡ whole = single_here l held whole in
    let is : block_at m b ≡ Some (Mutex (Some t)) = held_are_there all m b t q x h.fits (in_left (single l held whole) f all h.sums l held (subst IsPositive (sym mine) positive_whole)) in
    let holds : HoldsMutex all b t = subst (λ o. FitsHeld all b o) is (h.fits l) in
    let same_held = held_content (just_one all l (HeldOf holds.invariant t holds.given) whole holds.held held (in_left (single l held whole) f all h.sums l held (subst IsPositive (sym mine) positive_whole))) in
    let mutex : HasJust all (MutexAt b) (MutexOf q) holds.left = subst (λ z. HasJust all (MutexAt b) (MutexOf z) holds.left) (sym same_held.0) holds.mutex in
    let none : HasNone f l = beside (single l held whole) f all l m held h.sums h.fits mine in
    let beside_mutex : (c : Content) → f (MutexAt b) c ≡ all (MutexAt b) c = λ c. beside_other l held whole f all h.sums (MutexAt b) c mutex_held in
    let back = single (MutexAt b) (MutexOf q) x in
    let new = back ⊕ f in
    let total : sum x (f (MutexAt b) (MutexOf q)) ≡ whole =
    ap (sum x) (beside_mutex (MutexOf q) ∙ mutex.here) ∙ sum_commutes x holds.left ∙ ap (sum holds.left) same_held.1 ∙ holds.parted in
    let own = (singles_have_just_that (MutexAt b) (MutexOf q) x).0 in
    let free : HasJust new (MutexAt b) (MutexOf q) whole = record {
      here = ⊕-at back f (MutexAt b) (MutexOf q) ∙ ap (λ z. sum z (f (MutexAt b) (MutexOf q))) own.here ∙ total;
      else = λ d other. ⊕-at back f (MutexAt b) d ∙ sum_right (back (MutexAt b) d) (f (MutexAt b) d) (own.else d other) ∙ beside_mutex d ∙ mutex.else d other;
    } in
    let unheld : HasNone new l = λ c. ⊕-at back f l c ∙ sum_right (back l c) (f l c) (single_nought (MutexAt b) l (MutexOf q) c x (λ e. mutex_held (sym e))) ∙ none c in
    record {
      all = new;
      sums = record {
        agree = λ k c d y z.
            let at = single_only (MutexAt b) (MutexOf q) x k c y in
            let there_too : IsPositive (all (MutexAt b) d) = subst IsPositive (beside_mutex d) (subst (λ n. IsPositive (f n d)) at.0 z) in
            at.1 ∙ sym (just_one all (MutexAt b) (MutexOf q) holds.left mutex d there_too);
        adds = refl;
      };
      fits = λ k. elim (cases_eq (block_of k) b) [
        | inl e ↦ subst (λ o. FitsAt new o k) (sym (ap (block_at (finite.insert m b (Mutex None))) e ∙ block_here m b (Mutex None)))
            (elim (same_or_other k (MutexAt b)) [
              | inl at ↦ subst (λ z. FitsAt new (Some (Mutex None)) z) (sym at) (q, free)
              | inr other ↦ elim (same_or_other k l) [
                | inl at ↦ subst (λ z. FitsAt new (Some (Mutex None)) z) (sym at) unheld
                | inr further ↦ mutex_block b k e other further all new (Some t) None (λ c. exchanged l (MutexAt b) held (MutexOf q) whole x f all h.sums k c further other)
                    (subst (λ o. FitsAt all o k) (ap (block_at m) e ∙ is) (h.fits k))
              ]
            ])
        | inr other ↦ other_block m b (Mutex None) all new k other
            (λ n c at. exchanged l (MutexAt b) held (MutexOf q) whole x f all h.sums n c (λ z. other (sym at ∙ ap block_of z)) (λ z. other (sym at ∙ ap block_of z))) (h.fits k)
      ];
    }
  where
    positive_whole : IsPositive whole
    positive_whole = omega arith
