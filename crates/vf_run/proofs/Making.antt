-- Steps that make nothing.
use Rattle.std.proofs.Common.{◌≡◌, ℕ, zero, suc, ◌+◌, ◌-◌, ◌<◌, ◌≤◌, Bool, true, false, cond, ◌==◌, List, [], ◌∷◌, ◌++◌, length, Option, Some, None, IsSome, is_some, slice_get, ℤ, pos, negsuc, refl, sym, ap, subst, ◌∙◌, arith, eq-eqb, int_eq}
use Rattle.std.specs.FinMap as finite
use Rattle.std.specs.Option.{option_map}
use Rattle.std.specs.Ordering.{nat_cmp}
use Rattle.std.specs.BTreeMap as tree
use Rattle.std.specs.Fmt.{signed_decimal}
use Rattle.std.proofs.lemmas.Bool.{false≢true, eqb-true}
use Rattle.std.proofs.lemmas.List.{length-append}
use Rattle.vf_base.specs.declared.place.Place.{Place}
use Rattle.vf_tree.specs.Core.{Identity, ExpressionTree, FunctionTree, StepTree, ProgramTree, Set, Load, Store, Allocate, Free, Offset, LoadAt, StoreAt, AllocateInts, FreeInts, Call, CallPointer, If, Return}
use Rattle.vf_model.specs.declared.words.Event.{Event}
use Rattle.vf_model.specs.Values as values
use Rattle.vf_model.specs.Values.{number_of}
use Rattle.vf_model.specs.Memory.{Memory, Block, Struct, Ints, Mutex, Handle, Cell, content, written, granted_block, pointed_at, block_number, block_at, is_place_in, is_struct_block, is_int_block, field_cell, element_cell}
use Rattle.vf_model.specs.PreludeFunctions.{PreludeFunction, Abort, PutChar, PrintInt, ThreadStart, ThreadStartJoinable, ThreadJoin, CreateMutex, MutexAcquire, MutexRelease, MutexDispose, prelude_named}
use Rattle.vf_model.specs.State.{Frame, Thread, State, Turn, End, Aborted, Returned, at_step, with_local, with_frames, over_memory, ended, goes_on, sets}
use Rattle.vf_model.specs.Evaluation.{Evaluated, Gives, Fails}
use Rattle.vf_model.specs.Acts.{Act, Goes, Touches, Allocates, Waits, Faults, given}
use Rattle.vf_model.specs.Accesses.{loads, loads_content, stores, frees, frees_block, offsets, offset_from, offset_within}
use Rattle.vf_model.specs.Calls.{argument, acquires, releases, disposes, joins, has_ended, has_signature, calls, calls_named, calls_pointer, returns, returns_to, returned_number}
use Rattle.vf_model.specs.Steps.{value, all_values, act_of, act_in, act_at, act_by}
use Rattle.vf_model.specs.Runs.{happens, after, after_unended}
use Rattle.vf_run.specs.declared.counts.Counts.{Counts}
use Rattle.vf_run.specs.Counts.{HasCounts, MemoryCounts, int_cells, frame_count}
use Rattle.vf_run.specs.Making.{HasNoMore, MakesNothing, IsQuietFunction, IsQuiet, StandsAt, QuietStepsMakeNothing}
use Rattle.vf_run.proofs.Counting.{OnTurn, stepped, went, left, written_counts, block_gone, mutex_old}
use Rattle.vf_run.proofs.Sums.{remove_absent}

-- the counts of a state
abbrev pub counts_of : State → Counts
counts_of s = record { blocks = finite.len s.memory; threads = length s.threads; frames = frame_count s.threads; cells = int_cells s.memory }

-- a state has its counts
pub has_own : (s : State) → HasCounts s (counts_of s)
has_own s = record { blocks = refl; threads = refl; frames = refl; cells = refl }

-- a state has no more than itself
pub as_before : (s : State) → HasNoMore s s
as_before s = record { blocks = omega arith; cells = omega arith; threads = omega arith; frames = omega arith; output = omega arith }

-- the end of the run makes nothing
pub as_ended : (s : State) (end : End) → HasNoMore s (ended s end)
as_ended s end = record { blocks = omega arith; cells = omega arith; threads = omega arith; frames = omega arith; output = omega arith }

-- the counts say that there is no more
no_more : (s t : State) (d : Counts) → HasCounts t d → d.blocks ≤ finite.len s.memory → d.cells ≤ int_cells s.memory → d.threads ≡ length s.threads
    → d.frames ≤ frame_count s.threads → t.output ≡ s.output → HasNoMore s t
no_more s t d has blocks cells threads frames output = record {
  blocks = let h = has.blocks in omega (arith, h, blocks);
  cells = let h = has.cells in omega (arith, h, cells);
  threads = let h = has.threads in omega (arith, h, threads);
  frames = let h = has.frames in omega (arith, h, frames);
  output = let h = ap length output in omega (arith, h);
}

-- an act makes nothing, whatever is granted
abbrev Quiet : Turn → Act → Type 0
Quiet turn act = (grant : ℕ) → HasNoMore turn.state (happens turn.state grant act)

-- the thread's frame changes
quiet_frame : (turn : Turn) (g : Frame) → OnTurn turn → HasNoMore turn.state (with_frames turn (g ∷ turn.callers))
quiet_frame turn g on =
    no_more turn.state _ (counts_of turn.state) (went turn g (counts_of turn.state) on (has_own turn.state)) (omega arith) (omega arith) refl (omega arith) refl

-- the thread's frame changes, over a memory that has no more
quiet_memory : (turn : Turn) (m : Memory) (g : Frame) → OnTurn turn → finite.len m ≤ finite.len turn.state.memory → int_cells m ≤ int_cells turn.state.memory
    → HasNoMore turn.state (with_frames (over_memory turn m) (g ∷ turn.callers))
quiet_memory turn m g on blocks cells =
    let d : Counts = record { blocks = finite.len m; threads = length turn.state.threads; frames = frame_count turn.state.threads; cells = int_cells m } in
    no_more turn.state _ d (stepped turn m g (counts_of turn.state) d on (has_own turn.state) (refl, refl) (refl, refl)) blocks cells refl (omega arith) refl

given_quiet : {A : Type 0} (turn : Turn) (r : Evaluated A) (act : A → Act) → ((v : A) → r ≡ Gives v → Quiet turn (act v)) → Quiet turn (given r act)
given_quiet turn (Gives v) act h = h v refl
given_quiet turn (Fails kind place) act h = λ grant. as_ended turn.state _

content_quiet : (turn : Turn) (x : ℕ) (c : Cell) (place : Place) (next : ℕ) (o : Option (Option values.Value)) → OnTurn turn → Quiet turn (loads_content turn x c place next o)
content_quiet turn x c place next (Some (Some v)) on = λ grant. quiet_frame turn (at_step (with_local turn.frame x v) next) on
content_quiet turn x c place next (Some None) on = λ grant. as_ended turn.state _
content_quiet turn x c place next None on = λ grant. as_ended turn.state _

loads_quiet : (turn : Turn) (x : ℕ) (place : Place) (next : ℕ) (o : Option Cell) → OnTurn turn → Quiet turn (loads turn x place next o)
loads_quiet turn x place next None on = λ grant. as_ended turn.state _
loads_quiet turn x place next (Some c) on = content_quiet turn x c place next (content turn.state.memory c) on

stores_quiet : (turn : Turn) (v : values.Value) (place : Place) (next : ℕ) (o : Option Cell) → OnTurn turn → Quiet turn (stores turn v place next o)
stores_quiet turn v place next None on = λ grant. as_ended turn.state _
stores_quiet turn v place next (Some c) on = λ grant.
    let same = written_counts turn.state.memory c v (counts_of turn.state) (refl, refl) in
    let blocks = same.0 in
    let cells = same.1 in
    quiet_memory turn (written turn.state.memory c v) (at_step turn.frame next) on (omega (arith, blocks)) (omega (arith, cells))

-- without a block there are no more
fewer_by : (m : Memory) (k : ℕ) (o : Option Block) → finite.get m k ≡ o → (finite.len (finite.remove m k) ≤ finite.len m) × (int_cells (finite.remove m k) ≤ int_cells m)
fewer_by m k None is = subst (λ n. (finite.len n ≤ finite.len m) × (int_cells n ≤ int_cells m)) (sym (remove_absent m k is)) (omega arith, omega arith)
fewer_by m k (Some w) is =
    let gone = block_gone m k w (record { blocks = finite.len m; threads = 0; frames = 0; cells = int_cells m }) is (refl, refl) in
    let blocks = gone.0 in
    let cells = gone.1 in
    (omega (arith, blocks), omega (arith, cells))

fewer : (m : Memory) (k : ℕ) → (finite.len (finite.remove m k) ≤ finite.len m) × (int_cells (finite.remove m k) ≤ int_cells m)
fewer m k = fewer_by m k (finite.get m k) refl

quiet_removal : (turn : Turn) (k next : ℕ) → OnTurn turn → HasNoMore turn.state (goes_on (over_memory turn (finite.remove turn.state.memory k)) next)
quiet_removal turn k next on =
    let few = fewer turn.state.memory k in
    quiet_memory turn (finite.remove turn.state.memory k) (at_step turn.frame next) on few.0 few.1

-- with a mutex where a block is there are no more
quiet_mutex : (turn : Turn) (k next : ℕ) (holder : Option ℕ) (w : Block) → OnTurn turn → finite.get turn.state.memory k ≡ Some w
    → HasNoMore turn.state (goes_on (over_memory turn (finite.insert turn.state.memory k (Mutex holder))) next)
quiet_mutex turn k next holder w on is =
    let m = turn.state.memory in
    let put = mutex_old m k holder w (record { blocks = finite.len m; threads = 0; frames = 0; cells = int_cells m }) is (refl, refl) in
    let blocks = put.0 in
    let cells = put.1 in
    quiet_memory turn (finite.insert m k (Mutex holder)) (at_step turn.frame next) on (omega (arith, blocks)) (omega (arith, cells))

freed_quiet : (turn : Turn) (v : values.Value) (place : Place) (next : ℕ) (b : Bool) → OnTurn turn → Quiet turn (frees_block turn v place next b)
freed_quiet turn v place next false on = λ grant. as_ended turn.state _
freed_quiet turn v place next true on = λ grant. quiet_removal turn (block_number v) next on

frees_quiet : (turn : Turn) (v : values.Value) (place : Place) (next : ℕ) (test : Option Block → Bool) → OnTurn turn → Quiet turn (frees turn v place next test)
frees_quiet turn values.Null place next test on = λ grant. quiet_frame turn (at_step turn.frame next) on
frees_quiet turn (values.Number z) place next test on = freed_quiet turn (values.Number z) place next (test (pointed_at turn.state.memory (values.Number z))) on
frees_quiet turn (values.Truth b) place next test on = freed_quiet turn (values.Truth b) place next (test (pointed_at turn.state.memory (values.Truth b))) on
frees_quiet turn (values.Constructed g ws) place next test on = freed_quiet turn (values.Constructed g ws) place next (test (pointed_at turn.state.memory (values.Constructed g ws))) on
frees_quiet turn (values.Predicate g ws) place next test on = freed_quiet turn (values.Predicate g ws) place next (test (pointed_at turn.state.memory (values.Predicate g ws))) on
frees_quiet turn (values.Fraction q) place next test on = freed_quiet turn (values.Fraction q) place next (test (pointed_at turn.state.memory (values.Fraction q))) on
frees_quiet turn (values.Pointer b o) place next test on = freed_quiet turn (values.Pointer b o) place next (test (pointed_at turn.state.memory (values.Pointer b o))) on
frees_quiet turn (values.Function g) place next test on = freed_quiet turn (values.Function g) place next (test (pointed_at turn.state.memory (values.Function g))) on

within_quiet : (turn : Turn) (x b : ℕ) (o : ℤ) (place : Place) (next : ℕ) (inside : Bool) → OnTurn turn → Quiet turn (offset_within turn x b o place next inside)
within_quiet turn x b o place next true on = λ grant. quiet_frame turn (at_step (with_local turn.frame x (values.Pointer b o)) next) on
within_quiet turn x b o place next false on = λ grant. as_ended turn.state _

from_quiet : (turn : Turn) (x : ℕ) (v : values.Value) (i : ℤ) (place : Place) (next : ℕ) → OnTurn turn → Quiet turn (offset_from turn x v i place next)
from_quiet turn x (values.Pointer b o) i place next on = within_quiet turn x b _ place next _ on
from_quiet turn x values.Null i place next on = λ grant. as_ended turn.state _
from_quiet turn x (values.Number z) i place next on = λ grant. as_ended turn.state _
from_quiet turn x (values.Truth b) i place next on = λ grant. as_ended turn.state _
from_quiet turn x (values.Constructed g ws) i place next on = λ grant. as_ended turn.state _
from_quiet turn x (values.Predicate g ws) i place next on = λ grant. as_ended turn.state _
from_quiet turn x (values.Fraction q) i place next on = λ grant. as_ended turn.state _
from_quiet turn x (values.Function g) i place next on = λ grant. as_ended turn.state _

cond_quiet : (turn : Turn) (b : Bool) (x y : Act) → Quiet turn x → Quiet turn y → Quiet turn (cond b x y)
cond_quiet turn true x y h k = h
cond_quiet turn false x y h k = k

offsets_quiet : (turn : Turn) (x : ℕ) (v : values.Value) (i : ℤ) (place : Place) (next : ℕ) → OnTurn turn → Quiet turn (offsets turn x v i place next)
offsets_quiet turn x v i place next on =
    cond_quiet turn (int_eq i (pos 0)) _ _ (λ grant. quiet_frame turn (at_step (with_local turn.frame x v) next) on) (from_quiet turn x v i place next on)

-- the block that a value points to is the one of its number
at_number : (m : Memory) (v : values.Value) (w : Block) → pointed_at m v ≡ Some w → finite.get m (block_number v) ≡ Some w
at_number m (values.Pointer b (pos zero)) w h = h
at_number m (values.Pointer b (pos (suc n))) w h = absurd (false≢true (ap is_some h))
at_number m (values.Pointer b (negsuc n)) w h = absurd (false≢true (ap is_some h))
at_number m values.Null w h = absurd (false≢true (ap is_some h))
at_number m (values.Number z) w h = absurd (false≢true (ap is_some h))
at_number m (values.Truth b) w h = absurd (false≢true (ap is_some h))
at_number m (values.Constructed g ws) w h = absurd (false≢true (ap is_some h))
at_number m (values.Predicate g ws) w h = absurd (false≢true (ap is_some h))
at_number m (values.Fraction q) w h = absurd (false≢true (ap is_some h))
at_number m (values.Function g) w h = absurd (false≢true (ap is_some h))

acquires_quiet : (turn : Turn) (v : values.Value) (place : Place) (next : ℕ) (o : Option Block) → OnTurn turn → pointed_at turn.state.memory v ≡ o → Quiet turn (acquires turn v place next o)
acquires_quiet turn v place next (Some (Mutex None)) on is = λ grant. quiet_mutex turn (block_number v) next (Some turn.thread) (Mutex None) on (at_number turn.state.memory v (Mutex None) is)
acquires_quiet turn v place next (Some (Mutex (Some holder))) on is = λ grant. as_before turn.state
acquires_quiet turn v place next (Some (Struct g cells)) on is = λ grant. as_ended turn.state _
acquires_quiet turn v place next (Some (Ints cells)) on is = λ grant. as_ended turn.state _
acquires_quiet turn v place next (Some (Handle thread run given)) on is = λ grant. as_ended turn.state _
acquires_quiet turn v place next None on is = λ grant. as_ended turn.state _

releases_quiet : (turn : Turn) (v : values.Value) (place : Place) (next : ℕ) (o : Option Block) → OnTurn turn → pointed_at turn.state.memory v ≡ o → Quiet turn (releases turn v place next o)
releases_quiet turn v place next (Some (Mutex (Some holder))) on is =
    cond_quiet turn (holder == turn.thread) _ _
    (λ grant. quiet_mutex turn (block_number v) next None (Mutex (Some holder)) on (at_number turn.state.memory v (Mutex (Some holder)) is)) (λ grant. as_ended turn.state _)
releases_quiet turn v place next (Some (Mutex None)) on is = λ grant. as_ended turn.state _
releases_quiet turn v place next (Some (Struct g cells)) on is = λ grant. as_ended turn.state _
releases_quiet turn v place next (Some (Ints cells)) on is = λ grant. as_ended turn.state _
releases_quiet turn v place next (Some (Handle thread run given)) on is = λ grant. as_ended turn.state _
releases_quiet turn v place next None on is = λ grant. as_ended turn.state _

disposes_quiet : (turn : Turn) (v : values.Value) (place : Place) (next : ℕ) (o : Option Block) → OnTurn turn → Quiet turn (disposes turn v place next o)
disposes_quiet turn v place next (Some (Mutex None)) on = λ grant. quiet_removal turn (block_number v) next on
disposes_quiet turn v place next (Some (Mutex (Some holder))) on = λ grant. as_ended turn.state _
disposes_quiet turn v place next (Some (Struct g cells)) on = λ grant. as_ended turn.state _
disposes_quiet turn v place next (Some (Ints cells)) on = λ grant. as_ended turn.state _
disposes_quiet turn v place next (Some (Handle thread run given)) on = λ grant. as_ended turn.state _
disposes_quiet turn v place next None on = λ grant. as_ended turn.state _

joins_quiet : (turn : Turn) (v : values.Value) (place : Place) (next : ℕ) (o : Option Block) → OnTurn turn → Quiet turn (joins turn v place next o)
joins_quiet turn v place next (Some (Handle thread run given)) on =
    cond_quiet turn (has_ended (slice_get turn.state.threads thread)) _ _ (λ grant. quiet_removal turn (block_number v) next on) (λ grant. as_before turn.state)
joins_quiet turn v place next (Some (Mutex holder)) on = λ grant. as_ended turn.state _
joins_quiet turn v place next (Some (Struct g cells)) on = λ grant. as_ended turn.state _
joins_quiet turn v place next (Some (Ints cells)) on = λ grant. as_ended turn.state _
joins_quiet turn v place next None on = λ grant. as_ended turn.state _

called_quiet : (p : ProgramTree) (turn : Turn) (target : Option ℕ) (g : Identity) (vs : List values.Value) (place : Place) (next : ℕ) (o : Option PreludeFunction)
    → OnTurn turn → IsQuietFunction o → Quiet turn (calls_named p turn target g vs place next o)
called_quiet p turn target g vs place next (Some Abort) on quiet = λ grant. as_ended turn.state _
called_quiet p turn target g vs place next (Some ThreadJoin) on quiet = joins_quiet turn (argument vs 0) place next (pointed_at turn.state.memory (argument vs 0)) on
called_quiet p turn target g vs place next (Some MutexAcquire) on quiet = acquires_quiet turn (argument vs 0) place next (pointed_at turn.state.memory (argument vs 0)) on refl
called_quiet p turn target g vs place next (Some MutexRelease) on quiet = releases_quiet turn (argument vs 0) place next (pointed_at turn.state.memory (argument vs 0)) on refl
called_quiet p turn target g vs place next (Some MutexDispose) on quiet = disposes_quiet turn (argument vs 0) place next (pointed_at turn.state.memory (argument vs 0)) on
called_quiet p turn target g vs place next (Some PutChar) on quiet = absurd quiet
called_quiet p turn target g vs place next (Some PrintInt) on quiet = absurd quiet
called_quiet p turn target g vs place next (Some ThreadStart) on quiet = absurd quiet
called_quiet p turn target g vs place next (Some ThreadStartJoinable) on quiet = absurd quiet
called_quiet p turn target g vs place next (Some CreateMutex) on quiet = absurd quiet
called_quiet p turn target g vs place next None on quiet = absurd quiet

pointer_quiet : (p : ProgramTree) (turn : Turn) (target : Option ℕ) (v : values.Value) (want : _) (vs : List values.Value) (place : Place) (next : ℕ)
    → OnTurn turn → ((g : Identity) → v ≡ values.Function g → IsQuietFunction (prelude_named g)) → Quiet turn (calls_pointer p turn target v want vs place next)
pointer_quiet p turn target (values.Function g) want vs place next on quiet =
    cond_quiet turn (has_signature p g want (prelude_named g)) _ _ (called_quiet p turn target g vs place next (prelude_named g) on (quiet g refl)) (λ grant. as_ended turn.state _)
pointer_quiet p turn target values.Null want vs place next on quiet = λ grant. as_ended turn.state _
pointer_quiet p turn target (values.Number z) want vs place next on quiet = λ grant. as_ended turn.state _
pointer_quiet p turn target (values.Truth b) want vs place next on quiet = λ grant. as_ended turn.state _
pointer_quiet p turn target (values.Constructed g ws) want vs place next on quiet = λ grant. as_ended turn.state _
pointer_quiet p turn target (values.Predicate g ws) want vs place next on quiet = λ grant. as_ended turn.state _
pointer_quiet p turn target (values.Fraction q) want vs place next on quiet = λ grant. as_ended turn.state _
pointer_quiet p turn target (values.Pointer b o) want vs place next on quiet = λ grant. as_ended turn.state _

returned_output : (turn : Turn) (v : Option values.Value) (cs : List Frame) → (returns_to turn v cs).output ≡ turn.state.output
returned_output turn v (x ∷ xs) = refl
returned_output turn v [] =
    let over = with_frames turn [] in
    elim (turn.thread == 0) as (λ b. (cond b (ended over (Returned (returned_number v))) over).output ≡ turn.state.output) [
      | true ↦ refl
      | false ↦ refl
    ]

returns_quiet : (turn : Turn) (v : Option values.Value) → OnTurn turn → HasNoMore turn.state (returns turn v)
returns_quiet turn v on =
    let c = counts_of turn.state in
    let d : Counts = record { blocks = c.blocks; threads = c.threads; frames = c.frames - 1; cells = c.cells } in
    no_more turn.state _ d (left turn v c d on (has_own turn.state) refl refl (λ n one. omega (arith, one)) refl) (omega arith) (omega arith) refl (omega arith) (returned_output turn v turn.callers)

returned_quiet : (turn : Turn) (e : Option ExpressionTree) (p : ProgramTree) → OnTurn turn → Quiet turn (act_of p turn (Return e))
returned_quiet turn None p on = λ grant. returns_quiet turn None on
returned_quiet turn (Some e) p on = given_quiet turn (value turn e) _ (λ v is grant. returns_quiet turn (Some v) on)

-- a quiet step makes nothing
quiet_act : (p : ProgramTree) (turn : Turn) (step : StepTree) → OnTurn turn → IsQuiet turn.frame step → Quiet turn (act_of p turn step)
quiet_act p turn (Set x e next) on quiet = given_quiet turn (value turn e) _ (λ v is grant. quiet_frame turn (at_step (with_local turn.frame x v) next) on)
quiet_act p turn (Load x e f place next) on quiet =
    given_quiet turn (value turn e) _ (λ v is. loads_quiet turn x place next (field_cell turn.state.memory v f) on)
quiet_act p turn (Store e f new place next) on quiet =
    given_quiet turn (value turn e) _ (λ v is. given_quiet turn (value turn new) _ (λ w has. stores_quiet turn w place next (field_cell turn.state.memory v f) on))
quiet_act p turn (Allocate x g next) on quiet = absurd quiet
quiet_act p turn (Free e g place next) on quiet = given_quiet turn (value turn e) _ (λ v is. frees_quiet turn v place next (is_struct_block g) on)
quiet_act p turn (Offset x e i place next) on quiet =
    given_quiet turn (value turn e) _ (λ v is. given_quiet turn (value turn i) _ (λ n has. offsets_quiet turn x v (number_of n) place next on))
quiet_act p turn (LoadAt x e i place next) on quiet =
    given_quiet turn (value turn e) _ (λ v is. given_quiet turn (value turn i) _ (λ n has. loads_quiet turn x place next (element_cell turn.state.memory v (number_of n)) on))
quiet_act p turn (StoreAt e i new place next) on quiet =
    given_quiet turn (value turn e) _
    (λ v is. given_quiet turn (value turn i) _ (λ n has. given_quiet turn (value turn new) _ (λ w gives. stores_quiet turn w place next (element_cell turn.state.memory v (number_of n)) on)))
quiet_act p turn (AllocateInts x n place next) on quiet = absurd quiet
quiet_act p turn (FreeInts e place next) on quiet = given_quiet turn (value turn e) _ (λ v is. frees_quiet turn v place next is_int_block on)
quiet_act p turn (Call target g es place next) on quiet =
    given_quiet turn (all_values turn es) _ (λ vs is. called_quiet p turn target g vs place next (prelude_named g) on quiet)
quiet_act p turn (CallPointer target e want es place next) on quiet =
    given_quiet turn (value turn e) _
    (λ v is. given_quiet turn (all_values turn es) _ (λ vs has. pointer_quiet p turn target v want vs place next on (λ g same. quiet g (is ∙ ap Gives same))))
quiet_act p turn (If comparison left right so_step else_step) on quiet =
    given_quiet turn (value turn left) _ (λ v is. given_quiet turn (value turn right) _ (λ w has grant. quiet_frame turn (at_step turn.frame _) on))
quiet_act p turn (Return e) on quiet = returned_quiet turn e p on

quiet_by : (p : ProgramTree) (s : State) (e : Event) (o : Option End) → HasNoMore s (happens s e.grant (act_by p s e.thread (slice_get s.threads e.thread))) → HasNoMore s (after_unended p s e o)
quiet_by p s e (Some end) h = as_before s
quiet_by p s e None h = h

-- quiet steps make nothing
pub quiet_steps : QuietStepsMakeNothing
quiet_steps p s e frame step at quiet =
    let turn : Turn = record { state = s; thread = e.thread; frame = frame; callers = at.callers } in
    let is : act_by p s e.thread (slice_get s.threads e.thread) ≡ act_of p turn step =
    ap (act_by p s e.thread) at.thread ∙ ap (act_in p turn) at.function ∙ ap (act_at p turn (at.f).closing) at.at in
    quiet_by p s e s.end (subst (λ a. HasNoMore s (happens s e.grant a)) (sym is) (quiet_act p turn step at.thread quiet e.grant))
