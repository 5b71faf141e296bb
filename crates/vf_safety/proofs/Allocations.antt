-- Structs are allocated and freed.
use Rattle.std.proofs.Common.{◌≡◌, ℕ, zero, suc, ◌<◌, ◌≤◌, Bool, true, false, List, [], ◌∷◌, length, slice_get, Option, Some, None, refl, sym, ap, subst, subst₂, ◌∙◌, inl, inr, arith}
use Rattle.std.specs.Prelude.{IsFalse, is_some}
use Rattle.std.specs.FinMap as finite
use Rattle.std.proofs.lemmas.Bool.{false≢true, cases_Bool, cases_eq}
use Rattle.vf_base.specs.declared.place.Place.{Place}
use Rattle.vf_tree.specs.Core.{Identity, ExpressionTree, Free, ProgramTree}
use Rattle.vf_model.specs.Values.{Dyadic, Value, same_identity}
use Rattle.vf_model.specs.Values as values
use Rattle.vf_model.specs.Memory.{Memory, Block, Struct, Cell, block_at, cells_at, granted_block, unset_cells}
use Rattle.vf_model.specs.State.{Frame, Thread, State, Turn, at_step, with_frames, over_memory, goes_on}
use Rattle.vf_model.specs.Evaluation.{Gives, evaluate}
use Rattle.vf_model.specs.Acts.{Goes, Touches, given}
use Rattle.vf_model.specs.Accesses.{field_count, new_struct, frees_block, frees}
use Rattle.vf_model.specs.Memory.{is_struct_block}
use Rattle.vf_model.specs.Races.{TouchesCell}
use Rattle.vf_model.specs.Steps.{act_of}
use Rattle.vf_model.proofs.FreeBlocks.{wanted_granted, least_granted}
use Rattle.vf_meaning.specs.Fractions.{nought, whole, IsPositive}
use Rattle.vf_meaning.specs.Valuations.{Valuation}
use Rattle.vf_meaning.specs.Assertions.{BlockOf, Environment}
use Rattle.vf_meaning.specs.Parts.{Location, FieldCell, IndexCell, StructBlock, IntBlock, MutexAt, HeldAt, HandleAt, Content, CellOf, Bare, Part, nothing, single, ◌⊕◌, IsSum, HasNone}
use Rattle.vf_meaning.specs.Fits.{Fits}
use Rattle.vf_meaning.specs.FitLaws.{FitTogether, IsAllOf}
use Rattle.vf_meaning.specs.Chunks.{start_of}
use Rattle.vf_meaning.specs.ShareOuts.{location_in, OwnsFor}
use Rattle.vf_meaning.proofs.Parts.{sums_turn, sums_regroup, nothing_is_neutral, not_nought, nought_or_positive, in_left, in_either, sum_at, whole_is_alone}
use Rattle.vf_meaning.proofs.FitSteps.{fields_are_there, structs_are_there, blocks_are_added, block_here, block_elsewhere, removed_here, removed_elsewhere, own_identity, new_sum, sum_left}
use Rattle.vf_rules.specs.Terms.{Term}
use Rattle.vf_rules.specs.States.{Fact, CellOf, Of, SymbolicChunk, value_in, Meets, HeadMeans, ChunkMeans, ChunksMean}
use Rattle.vf_rules.specs.States as states
use Rattle.vf_rules.specs.Types.{IsTypedPart}
use Rattle.vf_rules.specs.Accept.{all_of_it, field_at, new_chunks, TakesFields}
use Rattle.vf_rules.proofs.Takes.{same_value, takes_parted}
use Rattle.vf_safety.specs.Safe.{IsShared, IsSharedPlace, IsShaped}
use Rattle.vf_safety.proofs.Steps.{turn_of, typed_sum, typed_single}
use Rattle.vf_safety.proofs.Structs.{OwnsStruct, owns_block, owns_cell, all_of_struct}

positive_whole : IsPositive whole
positive_whole = omega arith

some_same : {A : Type 0} {x y : A} → Some x ≡ Some y → x ≡ y
some_same e = cc

fraction_same : {x y : Dyadic} → values.Fraction x ≡ values.Fraction y → x ≡ y
fraction_same e = cc

start_same : {b c : ℕ} → start_of b ≡ start_of c → b ≡ c
start_same e = cc

-- ---- the chunks of a new struct
pub record NewStruct (e : Environment) (p : ProgramTree) (v : Valuation) (t : Term) (b : ℕ) (g : Identity) (i n : ℕ) : Type 0 where
  pub part : Part
  pub owns : OwnsStruct (λ h. h ≡ None) part b g i n
  pub typed : IsTypedPart e p part
  pub means : ChunksMean e v (new_chunks g t i n) part

block_same : {b c : ℕ} {g h : Identity} {i : ℕ} {A : Type 0} → FieldCell b g i ≡ StructBlock c h → A
block_same e = cc

index_same : {b i j : ℕ} {g : Identity} → FieldCell b g i ≡ FieldCell b g j → i ≡ j
index_same e = cc

pub new_struct_means : (e : Environment) (p : ProgramTree) (v : Valuation) (t : Term) (b : ℕ) (g : Identity) (i n : ℕ) → value_in e v t ≡ start_of b → NewStruct e p v t b g i n
new_struct_means e p v t b g i zero is =
    let q = single (StructBlock b g) Bare whole in
    record {
      part = q;
      owns = owns_block (λ h. h ≡ None) q b g i refl;
      typed = typed_single e p (StructBlock b g) Bare whole tt;
      means = (q, nothing, sums_turn nothing q q (nothing_is_neutral q), record { fraction = whole; share = refl; positive = positive_whole; head = (0, record { block = b; meet = (sym is, tt); owns = refl }) }, refl);
    }
new_struct_means e p v t b g i (suc n) is =
    let r = new_struct_means e p v t b g (suc i) n is in
    let cell = single (FieldCell b g i) (CellOf None) whole in
    let none : HasNone r.part (FieldCell b g i) = (r.owns).elsewhere (FieldCell b g i) (λ z. block_same z) (λ j a k z. above i j a (index_same z)) in
    let sums = new_sum (FieldCell b g i) (CellOf None) whole r.part none in
    record {
      part = cell ⊕ r.part;
      owns = owns_cell (λ h. h ≡ None) (cell ⊕ r.part) cell r.part b g i n None refl refl sums r.owns;
      typed = typed_sum e p cell r.part (cell ⊕ r.part) sums (typed_single e p (FieldCell b g i) (CellOf None) whole tt) r.typed;
      means = (cell, r.part, sums, record { fraction = whole; share = refl; positive = positive_whole; head = record { block = b; begins = is; holds = None; meets = tt; owns = refl } }, r.means);
    }
  where
    above : (i j : ℕ) → suc i ≤ j → i ≡ j → ⊥
    above i j a z = omega (arith, a, z)

-- ---- the chunks of a struct that is taken whole
pub record TakenStruct (e : Environment) (v : Valuation) (t : Term) (g : Identity) (i n : ℕ) (ds : List SymbolicChunk) (p : Part) : Type 0 where
  pub block : ℕ
  pub is : value_in e v t ≡ start_of block
  pub part : Part
  pub left : Part
  pub sums : IsSum part left p
  pub owns : OwnsStruct (λ h. Unit {0}) part block g i n
  pub means : ChunksMean e v ds left

pub takes_fields : (e : Environment) (v : Valuation) (path : List Fact) (g : Identity) (t : Term) (i n : ℕ) (cs ds : List SymbolicChunk) → TakesFields e path g t i n cs ds → Meets e v path → (p : Part) → ChunksMean e v cs p
    → TakenStruct e v t g i n ds p
takes_fields e v path g t i zero cs ds (c, u, taken, head, arguments, equal) m p k =
    let o = takes_parted e v path all_of_it c taken m p k in
    let all : (o.chunk).fraction ≡ whole = fraction_same (sym (o.chunk).share) in
    let means = subst (λ x. HeadMeans e v x (Of (BlockOf g)) (Some u ∷ []) o.off) all (subst₂ (λ h as0. HeadMeans e v (o.chunk).fraction h as0 o.off) head arguments (o.chunk).head) in
    let b = (means.1).block in
    record {
      block = b;
      is = same_value e v t u (equal.by v m) ∙ sym ((means.1).meet).0;
      part = o.off;
      left = o.left;
      sums = o.sums;
      owns = owns_block (λ h. Unit {0}) o.off b g i (means.1).owns;
      means = o.chunks_mean;
    }
takes_fields e v path g t i (suc n) cs ds (c, mid, u, content, taken, head, arguments, equal, rest) m p k =
    let o = takes_parted e v path all_of_it c taken m p k in
    let all : (o.chunk).fraction ≡ whole = fraction_same (sym (o.chunk).share) in
    let means = subst (λ x. HeadMeans e v x (states.CellOf (field_at g i)) (Some u ∷ content ∷ []) o.off) all (subst₂ (λ h as0. HeadMeans e v (o.chunk).fraction h as0 o.off) head arguments (o.chunk).head) in
    let r = takes_fields e v path g t (suc i) n mid ds rest m o.left o.chunks_mean in
    let same_block : means.block ≡ r.block = start_same (sym means.begins ∙ sym (same_value e v t u (equal.by v m)) ∙ r.is) in
    let owned : o.off ≡ single (FieldCell r.block g i) (CellOf means.holds) whole = means.owns ∙ ap (λ z. single (FieldCell z g i) (CellOf means.holds) whole) same_block in
    let other = sums_regroup r.left r.part o.left o.off p (sums_turn r.part r.left o.left r.sums) (sums_turn o.off o.left p o.sums) in
    record {
      block = r.block;
      is = r.is;
      part = other.0;
      left = r.left;
      sums = sums_turn r.left other.0 p other.2;
      owns = owns_cell (λ h. Unit {0}) other.0 o.off r.part r.block g i n means.holds tt owned (sums_turn r.part o.off other.0 other.1) r.owns;
      means = r.means;
    }

-- ---- a new block's number is free
nothing_there : (o : Option Block) → is_some o ≡ false → o ≡ None
nothing_there None h = refl
nothing_there (Some b) h = absurd (false≢true (sym h))

key_none : (m : Memory) (b : ℕ) → IsFalse (finite.contains_key m b) → block_at m b ≡ None
key_none m b h = nothing_there (block_at m b) h

pub granted_free : (m : Memory) (grant : ℕ) → block_at m (granted_block m grant) ≡ None
granted_free m grant =
    elim (cases_Bool (finite.contains_key m grant)) [
      | inl taken ↦ key_none m (granted_block m grant) (least_granted m grant taken).free
      | inr free ↦ ap (block_at m) (wanted_granted m grant free) ∙ key_none m grant free
    ]

-- ---- allocation
pub struct_shaped : (p : ProgramTree) (m : Memory) (b : ℕ) (g : Identity) → IsShaped p m → IsShaped p (finite.insert m b (new_struct p g))
struct_shaped p m b g h d k cells is =
    elim (cases_eq d b) [
      | inl e ↦ own (some_same (sym (block_here m b (new_struct p g)) ∙ ap (block_at (finite.insert m b (new_struct p g))) (sym e) ∙ is))
      | inr other ↦ h d k cells (sym (block_elsewhere m b d (new_struct p g) other) ∙ is)
    ]
  where
    own : new_struct p g ≡ Struct k cells → length cells ≡ field_count p k
    own e = ap length (sym (same_cells e)) ∙ long (field_count p g) ∙ ap (field_count p) (same_name e)
      where
        same_cells : Struct g (unset_cells (field_count p g)) ≡ Struct k cells → unset_cells (field_count p g) ≡ cells
        same_cells e = cc

        same_name : Struct g (unset_cells (field_count p g)) ≡ Struct k cells → g ≡ k
        same_name e = cc

        long : (n : ℕ) → length (unset_cells n) ≡ n
        long zero = refl
        long (suc n) = ap suc (long n)

pub struct_unshared : (p : ProgramTree) (m : Memory) (b : ℕ) (g : Identity) (d : ℕ) → IsShared (block_at (finite.insert m b (new_struct p g)) d) → block_at (finite.insert m b (new_struct p g)) d ≡ block_at m d
struct_unshared p m b g d shared =
    elim (cases_eq d b) [
      | inl e ↦ absurd (subst IsShared (ap (block_at (finite.insert m b (new_struct p g))) e ∙ block_here m b (new_struct p g)) shared)
      | inr other ↦ block_elsewhere m b d (new_struct p g) other
    ]

pub struct_unmoved : (p : ProgramTree) (m : Memory) (b : ℕ) (g : Identity) → block_at m b ≡ None → (d : ℕ) → IsShared (block_at m d) → block_at (finite.insert m b (new_struct p g)) d ≡ block_at m d
struct_unmoved p m b g free d shared =
    elim (cases_eq d b) [
      | inl e ↦ absurd (subst IsShared (ap (block_at m) e ∙ free) shared)
      | inr other ↦ block_elsewhere m b d (new_struct p g) other
    ]

mutex_block : {b c : ℕ} {g : Identity} → MutexAt b ≡ StructBlock c g → ⊥
mutex_block e = cc

handle_block : {b c : ℕ} {g : Identity} → HandleAt b ≡ StructBlock c g → ⊥
handle_block e = cc

mutex_field : {b c i : ℕ} {g : Identity} → MutexAt b ≡ FieldCell c g i → ⊥
mutex_field e = cc

handle_field : {b c i : ℕ} {g : Identity} → HandleAt b ≡ FieldCell c g i → ⊥
handle_field e = cc

-- a struct has no place that is shared
struct_none : {P : Option Value → Type 0} (q : Part) (b : ℕ) (g : Identity) (i n : ℕ) (k : Location) (c : Content) → IsSharedPlace k → OwnsStruct P q b g i n → q k c ≡ nought
struct_none q b g i n (MutexAt d) c shared owns = owns.elsewhere (MutexAt d) mutex_block (λ j a l. mutex_field) c
struct_none q b g i n (HandleAt d) c shared owns = owns.elsewhere (HandleAt d) handle_block (λ j a l. handle_field) c
struct_none q b g i n (FieldCell d h j) c shared owns = absurd shared
struct_none q b g i n (IndexCell d j) c shared owns = absurd shared
struct_none q b g i n (StructBlock d h) c shared owns = absurd shared
struct_none q b g i n (IntBlock d) c shared owns = absurd shared
struct_none q b g i n (HeldAt d) c shared owns = absurd shared

pub known_struct : {P : Option Value → Type 0} (q : Part) (b : ℕ) (g : Identity) (i n : ℕ) (f all : Part) (k : Location) (c : Content) → IsSharedPlace k → OwnsStruct P q b g i n → IsSum q f all → IsPositive (all k c) → IsPositive (f k c)
known_struct q b g i n f all k c shared owns sums h = elim (in_either q f all sums k c h) [ inl y ↦ absurd (not_nought (q k c) (struct_none q b g i n k c shared owns) y) | inr y ↦ y ]

unset_at : (n j : ℕ) → j < n → slice_get (unset_cells n) j ≡ Some None
unset_at zero j l = absurd (no j l)
  where
    no : (j : ℕ) → j < 0 → ⊥
    no j l = omega arith
unset_at (suc n) zero l = refl
unset_at (suc n) (suc j) l = unset_at n j (omega (arith, l))

unset_long : (n : ℕ) → length (unset_cells n) ≡ n
unset_long zero = refl
unset_long (suc n) = ap suc (unset_long n)

-- a new struct fits beside what there is
pub struct_added : (p : ProgramTree) (m : Memory) (b : ℕ) (g : Identity) (q f : Part) → Fits f m → block_at m b ≡ None → OwnsStruct (λ h. h ≡ None) q b g 0 (field_count p g) → FitTogether q f (finite.insert m b (new_struct p g))
struct_added p m b g q f fit free owns =
    blocks_are_added m b (new_struct p g) q f fit free
    (all_of_struct (λ h. h ≡ None) q b g (field_count p g) (unset_cells (field_count p g)) owns (unset_long (field_count p g))
    (λ j held l is just. unset_at (field_count p g) j l ∙ ap Some (sym is)))

-- ---- release
-- a struct that is owned is there, with its cells
pub record StructThere (p : ProgramTree) (m : Memory) (b : ℕ) (g : Identity) (q : Part) : Type 0 where
  pub cells : List (Option Value)
  pub block : block_at m b ≡ Some (Struct g cells)
  pub number : length cells ≡ field_count p g
  pub all_of : IsAllOf b (Struct g cells) q

pub struct_there : (p : ProgramTree) (m : Memory) (b : ℕ) (g : Identity) (q f all : Part) → IsSum q f all → Fits all m → IsShaped p m → OwnsStruct (λ h. Unit {0}) q b g 0 (field_count p g) → StructThere p m b g q
struct_there p m b g q f all sums fit shaped owns =
    let found = structs_are_there all m b g Bare fit (in_left q f all sums (StructBlock b g) Bare (subst IsPositive (sym (owns.block).here) positive_whole)) in
    let cells = found.0 in
    let number = shaped b g cells found.1 in
    record {
      cells = cells;
      block = found.1;
      number = number;
      all_of = all_of_struct (λ h. Unit {0}) q b g (field_count p g) cells owns number (λ j held l any0 just.
          let cell = fields_are_there all m b j g held fit (in_left q f all sums (FieldCell b g j) (CellOf held) (subst IsPositive (sym just.here) positive_whole)) in
          ap (λ z. slice_get z j) (same_cells (sym found.1 ∙ cell.1)) ∙ cell.2);
    }
  where
    same_cells : {xs ys : List (Option Value)} → Some (Struct g xs) ≡ Some (Struct g ys) → xs ≡ ys
    same_cells e = cc

freed_block : (turn : Turn) (b : ℕ) (place : Place) (next : ℕ) (test : Bool) → test ≡ true → frees_block turn (start_of b) place next test
    ≡ Touches (record { block = b; cell = None; writes = true; place = place }) (goes_on (over_memory turn (finite.remove turn.state.memory b)) next)
freed_block turn b place next test h = ap (frees_block turn (start_of b) place next) h

-- the act of a release
pub free_act : (p : ProgramTree) (s : State) (t : ℕ) (frame : Frame) (callers : Thread) (a : ExpressionTree) (g : Identity) (place : Place) (next b : ℕ) (cells : List (Option Value)) → evaluate frame.locals a ≡ Gives (start_of b)
    → block_at s.memory b ≡ Some (Struct g cells)
    → act_of p (turn_of s t frame callers) (Free a g place next)
    ≡ Touches (record { block = b; cell = None; writes = true; place = place }) (with_frames (over_memory (turn_of s t frame callers) (finite.remove s.memory b)) (at_step frame next ∷ callers))
free_act p s t frame callers a g place next b cells value is =
    let turn = turn_of s t frame callers in
    ap (λ r. given r (λ v. frees turn v place next (is_struct_block g))) value
    ∙ freed_block turn b place next (is_struct_block g (block_at s.memory b)) (ap (is_struct_block g) is ∙ own_identity g)

-- freeing null does nothing
pub free_null_act : (p : ProgramTree) (s : State) (t : ℕ) (frame : Frame) (callers : Thread) (a : ExpressionTree) (g : Identity) (place : Place) (next : ℕ) → evaluate frame.locals a ≡ Gives values.Null
    → act_of p (turn_of s t frame callers) (Free a g place next) ≡ Goes (with_frames (turn_of s t frame callers) (at_step frame next ∷ callers))
free_null_act p s t frame callers a g place next value = ap (λ r. given r (λ v. frees (turn_of s t frame callers) v place next (is_struct_block g))) value

pub removed_shaped : (p : ProgramTree) (m : Memory) (b : ℕ) → IsShaped p m → IsShaped p (finite.remove m b)
removed_shaped p m b h d k cells is =
    elim (cases_eq d b) [
      | inl e ↦ none_some (sym (removed_here m b) ∙ ap (block_at (finite.remove m b)) (sym e) ∙ is)
      | inr other ↦ h d k cells (sym (removed_elsewhere m b d other) ∙ is)
    ]
  where
    none_some : {A B : Type 0} {x : A} → None ≡ Some x → B
    none_some e = cc

pub removed_unshared : (m : Memory) (b d : ℕ) → IsShared (block_at (finite.remove m b) d) → block_at (finite.remove m b) d ≡ block_at m d
removed_unshared m b d shared =
    elim (cases_eq d b) [
      | inl e ↦ absurd (subst IsShared (ap (block_at (finite.remove m b)) e ∙ removed_here m b) shared)
      | inr other ↦ removed_elsewhere m b d other
    ]

pub removed_unmoved : (m : Memory) (b : ℕ) {g : Identity} {cells : List (Option Value)} → block_at m b ≡ Some (Struct g cells) → (d : ℕ) → IsShared (block_at m d) → block_at (finite.remove m b) d ≡ block_at m d
removed_unmoved m b there d shared =
    elim (cases_eq d b) [
      | inl e ↦ absurd (subst IsShared (ap (block_at m) e ∙ there) shared)
      | inr other ↦ removed_elsewhere m b d other
    ]

-- the whole of each cell of a struct that is freed is owned
located : {b i : ℕ} {g : Identity} {l : Location} → Some (FieldCell b g i) ≡ Some l → FieldCell b g i ≡ l
located e = cc

pub freed_owned : (p : ProgramTree) (m : Memory) (b : ℕ) (g : Identity) (q r own rest all : Part) (place : Place) → IsSum q r own → IsSum own rest all → Fits all m → OwnsStruct (λ h. Unit {0}) q b g 0 (field_count p g)
    → (h : StructThere p m b g q) → (c : Cell) (l : Location) → TouchesCell m (record { block = b; cell = None; writes = true; place = place }) c → location_in (block_at m c.block) c ≡ Some l
    → OwnsFor (record { block = b; cell = None; writes = true; place = place }) own l
freed_owned p m b g q r own rest all place inner outer fit owns h c l covers at =
    let here : block_at m c.block ≡ Some (Struct g h.cells) = ap (block_at m) (sym covers.block) ∙ h.block in
    let within : c.index < field_count p g = subst (λ n. c.index < n) h.number (subst (λ o. c.index < length (cells_at o)) here covers.there) in
    let cell = owns.cells c.index (omega arith) (omega (arith, within)) in
    let place_is : FieldCell b g c.index ≡ l = ap (λ z. FieldCell z g c.index) covers.block ∙ located (sym (ap (λ o. location_in o c) here) ∙ at) in
    let beyond = sums_regroup q r own rest all inner outer in
    let none : HasNone r (FieldCell b g c.index) = λ d. elim (nought_or_positive (r (FieldCell b g c.index) d)) [
      | inl e ↦ e
      | inr y ↦ absurd (not_nought (beyond.0 (FieldCell b g c.index) d) (whole_is_alone q beyond.0 all m (FieldCell b g c.index) (CellOf cell.0) d beyond.2 fit (cell.2).here) (in_left r rest beyond.0 beyond.1 (FieldCell b g c.index) d y))
    ] in
    (CellOf cell.0, subst (λ z. own z (CellOf cell.0) ≡ whole) place_is (sum_at q r own inner (FieldCell b g c.index) (CellOf cell.0) ∙ sum_left _ _ (none (CellOf cell.0)) ∙ (cell.2).here))
