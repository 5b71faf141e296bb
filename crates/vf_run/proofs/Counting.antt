-- The counts of states after steps.
use Rattle.std.proofs.Common.{◌≡◌, ℕ, zero, suc, ◌+◌, ◌-◌, ◌≤◌, nat_lt, true, false, cond, ◌==◌, List, [], ◌∷◌, ◌++◌, length, Option, Some, None, is_some, slice_get, slice_set, refl, sym, ap, subst, ◌∙◌, ⊎_elim, arith}
use Rattle.std.specs.Option.{option_map}
use Rattle.std.specs.FinMap as finite
use Rattle.std.specs.Cmp.{nat_cmp_total}
use Rattle.std.proofs.lemmas.Bool.{cases_Bool, cond-true, cond-false, le-ltb}
use Rattle.std.proofs.lemmas.Option.{slice_get-map}
use Rattle.std.proofs.lemmas.List.{length-set, length-append}
use Rattle.std.proofs.lemmas.List.{nil_from_length}
use Rattle.std.proofs.lemmas.List.Sums.{sum_by-append, sum_by-cons}
use Rattle.std.specs.Ordering.{nat_cmp}
use Rattle.vf_tree.specs.Core.{Identity, ProgramTree}
use Rattle.vf_model.specs.Runs.{main_frames, opening}
use Rattle.vf_model.specs.Values as values
use Rattle.vf_model.specs.Memory.{Memory, Block, Struct, Ints, Mutex, Handle, Cell, block_at, cells_of, with_cells, written, written_in, granted_block}
use Rattle.vf_model.specs.State.{Frame, State, Turn, with_frames, over_memory, after_start, ended, Returned, with_result}
use Rattle.vf_model.specs.Calls.{returns, returns_to, returned_number}
use Rattle.vf_model.proofs.FreeBlocks.{wanted_granted, least_granted}
use Rattle.vf_engine.specs.States.{turn_of, thread_of, frames_with, callers_of}
use Rattle.vf_engine.specs.declared.state.Frame as code
use Rattle.vf_engine.specs.declared.state.Thread.{Thread}
use Rattle.vf_engine.specs.declared.state.Running.{Running}
use Rattle.vf_run.specs.declared.counts.Counts.{Counts}
use Rattle.vf_run.specs.Counts.{HasCounts, MemoryCounts, SameThreads, Within, ints_in, int_cells, frame_count, first_passed}
use Rattle.vf_run.proofs.Sums.{total, sum_insert, sum_remove, sum_replace, sum_set, remove_absent}

-- the turn is that of a thread of its state
abbrev pub OnTurn : Turn → Type 0
OnTurn turn = slice_get turn.state.threads turn.thread ≡ Some (turn.frame ∷ turn.callers)

pub on_turn : (names : List Identity) (r : Running) (thread : ℕ) (of : Thread) (frame : code.Frame) → slice_get r.threads.items thread ≡ Some of → of.frame ≡ Some frame
    → OnTurn (turn_of names r thread frame (callers_of names of.callers.items))
on_turn names r thread of frame at framed =
    slice_get-map (thread_of names) r.threads.items thread ∙ ap (option_map (thread_of names)) at ∙ ap (λ f. Some (frames_with names f of.callers.items)) framed

same_frames : (turn : Turn) (g : Frame) → OnTurn turn → frame_count (slice_set turn.state.threads turn.thread (g ∷ turn.callers)) ≡ frame_count turn.state.threads
same_frames turn g on = let h = sum_set length turn.state.threads turn.thread (turn.frame ∷ turn.callers) (g ∷ turn.callers) on in omega (arith, h)

more_frames : (turn : Turn) (f g : Frame) → OnTurn turn → frame_count (slice_set turn.state.threads turn.thread (f ∷ g ∷ turn.callers)) ≡ frame_count turn.state.threads + 1
more_frames turn f g on = let h = sum_set length turn.state.threads turn.thread (turn.frame ∷ turn.callers) (f ∷ g ∷ turn.callers) on in omega (arith, h)

fewer_frames : (turn : Turn) (cs : List Frame) → OnTurn turn → length cs ≡ length turn.callers → frame_count (slice_set turn.state.threads turn.thread cs) + 1 ≡ frame_count turn.state.threads
fewer_frames turn cs on same = let h = sum_set length turn.state.threads turn.thread (turn.frame ∷ turn.callers) cs on in omega (arith, h, same)

-- what stands for the same memory and threads has the same counts
pub same_counts : (s t : State) (c : Counts) → t.memory ≡ s.memory → t.threads ≡ s.threads → HasCounts s c → HasCounts t c
same_counts s t c memory threads has = record {
  blocks = ap finite.len memory ∙ has.blocks;
  threads = ap length threads ∙ has.threads;
  frames = ap frame_count threads ∙ has.frames;
  cells = ap int_cells memory ∙ has.cells;
}

-- a step that changes its frame and the memory
pub stepped : (turn : Turn) (m : Memory) (g : Frame) (c d : Counts) → OnTurn turn → HasCounts turn.state c → MemoryCounts m d → SameThreads c d
    → HasCounts (with_frames (over_memory turn m) (g ∷ turn.callers)) d
stepped turn m g c d on has counts same = record {
  blocks = counts.0;
  threads = length-set turn.state.threads turn.thread (g ∷ turn.callers) ∙ has.threads ∙ sym same.0;
  frames = same_frames turn g on ∙ has.frames ∙ sym same.1;
  cells = counts.1;
}

-- a step that changes its frame alone
pub went : (turn : Turn) (g : Frame) (c : Counts) → OnTurn turn → HasCounts turn.state c → HasCounts (with_frames turn (g ∷ turn.callers)) c
went turn g c on has = record {
  blocks = has.blocks;
  threads = length-set turn.state.threads turn.thread (g ∷ turn.callers) ∙ has.threads;
  frames = same_frames turn g on ∙ has.frames;
  cells = has.cells;
}

-- a call
pub called : (turn : Turn) (f g : Frame) (c : Counts) → OnTurn turn → HasCounts turn.state c
    → HasCounts (with_frames turn (f ∷ g ∷ turn.callers)) (record { blocks = c.blocks; threads = c.threads; frames = c.frames + 1; cells = c.cells })
called turn f g c on has = record {
  blocks = has.blocks;
  threads = length-set turn.state.threads turn.thread (f ∷ g ∷ turn.callers) ∙ has.threads;
  frames = more_frames turn f g on ∙ ap (λ n. n + 1) has.frames;
  cells = has.cells;
}

left_by : (turn : Turn) (value : Option values.Value) (c d : Counts) (cs : List Frame) → turn.callers ≡ cs → OnTurn turn → HasCounts turn.state c
    → d.blocks ≡ c.blocks → d.threads ≡ c.threads → ((left : ℕ) → left + 1 ≡ c.frames → d.frames ≡ left) → d.cells ≡ c.cells → HasCounts (returns_to turn value cs) d
left_by turn value c d [] is on has blocks threads frames cells =
    let over = with_frames turn [] in
    let gone : HasCounts over d = record {
      blocks = has.blocks ∙ sym blocks;
      threads = length-set turn.state.threads turn.thread [] ∙ has.threads ∙ sym threads;
      frames = sym (frames _ (fewer_frames turn [] on (ap length (sym is)) ∙ has.frames));
      cells = has.cells ∙ sym cells;
    } in
    elim (turn.thread == 0) as (λ b. HasCounts (cond b (ended over (Returned (returned_number value))) over) d) [
      | true ↦ same_counts over (ended over (Returned (returned_number value))) d refl refl gone
      | false ↦ gone
    ]
left_by turn value c d (x ∷ xs) is on has blocks threads frames cells = record {
  blocks = has.blocks ∙ sym blocks;
  threads = length-set turn.state.threads turn.thread (with_result x turn.frame.target value ∷ xs) ∙ has.threads ∙ sym threads;
  frames = sym (frames _ (fewer_frames turn (with_result x turn.frame.target value ∷ xs) on (ap length (sym is)) ∙ has.frames));
  cells = has.cells ∙ sym cells;
}

-- a return
pub left : (turn : Turn) (value : Option values.Value) (c d : Counts) → OnTurn turn → HasCounts turn.state c
    → d.blocks ≡ c.blocks → d.threads ≡ c.threads → ((left : ℕ) → left + 1 ≡ c.frames → d.frames ≡ left) → d.cells ≡ c.cells → HasCounts (returns turn value) d
left turn value c d on has blocks threads frames cells = left_by turn value c d turn.callers refl on has blocks threads frames cells

there_before : {A : Type 0} (xs ys : List A) (i : ℕ) (x : A) → slice_get xs i ≡ Some x → slice_get (xs ++ ys) i ≡ Some x
there_before [] ys i x h = cc
there_before (y ∷ xs) ys zero x h = h
there_before (y ∷ xs) ys (suc i) x h = there_before xs ys i x h

-- a start of a thread, with a change of the memory
pub started : (turn : Turn) (m : Memory) (f g : Frame) (c d : Counts) → OnTurn turn → HasCounts turn.state c → MemoryCounts m d
    → d.threads ≡ length turn.state.threads + 1 → d.frames ≡ c.frames + 1 → HasCounts (with_frames (over_memory (after_start turn f) m) (g ∷ turn.callers)) d
started turn m f g c d on has counts threads frames =
    let ts = turn.state.threads in
    let more = ts ++ (f ∷ []) ∷ [] in
    let one = sum_by-append length ts ((f ∷ []) ∷ []) in
    let same = same_frames (after_start turn f) g (there_before ts ((f ∷ []) ∷ []) turn.thread (turn.frame ∷ turn.callers) on) in
    let long = length-append ts ((f ∷ []) ∷ []) in
    record {
      blocks = counts.0;
      threads = length-set more turn.thread (g ∷ turn.callers) ∙ long ∙ sym threads;
      frames = same ∙ one ∙ ap (λ n. n + 1) has.frames ∙ sym frames;
      cells = counts.1;
    }

-- the number that is granted is free
pub free_granted : (m : Memory) (grant : ℕ) → finite.contains_key m (granted_block m grant) ≡ false
free_granted m grant =
    ⊎_elim
    (λ taken. (least_granted m grant taken).free)
    (λ free. ap (finite.contains_key m) (wanted_granted m grant free) ∙ free)
    (cases_Bool (finite.contains_key m grant))

-- one more block
pub block_more : (m : Memory) (k : ℕ) (v : Block) → finite.contains_key m k ≡ false
    → (finite.len (finite.insert m k v) ≡ finite.len m + 1) × (int_cells (finite.insert m k v) ≡ ints_in v + int_cells m)
block_more m k v new = (finite.len-insert nat_cmp_total m k v ∙ cond-false _ (finite.len m) (finite.len m + 1) new, sum_insert ints_in m k v new)

is_none : (m : Memory) (k : ℕ) → finite.get m k ≡ None → finite.contains_key m k ≡ false
is_none m k h = ap is_some h

-- one block less
pub block_gone : (m : Memory) (k : ℕ) (w : Block) (c : Counts) → finite.get m k ≡ Some w → MemoryCounts m c
    → (finite.len (finite.remove m k) ≡ c.blocks - 1) × (int_cells (finite.remove m k) ≡ c.cells - ints_in w)
block_gone m k w c some counts =
    let size : finite.len (finite.remove m k) ≡ finite.len m - 1 = finite.len-remove nat_cmp_total m k ∙ cond-true _ (finite.len m - 1) (finite.len m) (ap is_some some) in
    let sum = sum_remove ints_in m k w some in
    let cells = counts.1 in
    (size ∙ ap (λ n. n - 1) counts.0, omega (arith, sum, cells))

-- no block less
pub none_gone : (m : Memory) (k : ℕ) (c : Counts) → finite.get m k ≡ None → MemoryCounts m c → MemoryCounts (finite.remove m k) c
none_gone m k c none counts = subst (λ n. MemoryCounts n c) (sym (remove_absent m k none)) counts

-- a mutex where there was no block
pub mutex_new : (m : Memory) (k : ℕ) (holder : Option ℕ) (c : Counts) → finite.get m k ≡ None → MemoryCounts m c
    → (finite.len (finite.insert m k (Mutex holder)) ≡ c.blocks + 1) × (int_cells (finite.insert m k (Mutex holder)) ≡ c.cells)
mutex_new m k holder c none counts =
    let more = block_more m k (Mutex holder) (is_none m k none) in
    let cells = more.1 in
    let all = counts.1 in
    (more.0 ∙ ap (λ n. n + 1) counts.0, omega (arith, cells, all))

-- a mutex where there was a block
pub mutex_old : (m : Memory) (k : ℕ) (holder : Option ℕ) (w : Block) (c : Counts) → finite.get m k ≡ Some w → MemoryCounts m c
    → (finite.len (finite.insert m k (Mutex holder)) ≡ c.blocks) × (int_cells (finite.insert m k (Mutex holder)) ≡ c.cells - ints_in w)
mutex_old m k holder w c some counts =
    let size = finite.len-insert nat_cmp_total m k (Mutex holder) ∙ cond-true _ (finite.len m) (finite.len m + 1) (ap is_some some) in
    let sum = sum_replace ints_in m k (Mutex holder) w some in
    let all = counts.1 in
    (size ∙ counts.0, omega (arith, sum, all))

as_long : (w : Block) (i : ℕ) (x : Option values.Value) → ints_in (with_cells w (slice_set (cells_of w) i x)) ≡ ints_in w
as_long (Struct g cells) i x = refl
as_long (Ints cells) i x = length-set cells i x
as_long (Mutex holder) i x = refl
as_long (Handle thread run given) i x = refl

written_by : (m : Memory) (cell : Cell) (v : values.Value) (c : Counts) (o : Option Block) → block_at m cell.block ≡ o → MemoryCounts m c → MemoryCounts (written_in m cell v o) c
written_by m cell v c None is counts = counts
written_by m cell v c (Some w) is counts =
    let new = with_cells w (slice_set (cells_of w) cell.index (Some v)) in
    let size = finite.len-insert nat_cmp_total m cell.block new ∙ cond-true _ (finite.len m) (finite.len m + 1) (ap is_some is) in
    let sum = sum_replace ints_in m cell.block new w is in
    let same = as_long w cell.index (Some v) in
    let all = counts.1 in
    (size ∙ counts.0, omega (arith, sum, same, all))

-- a write of a cell
pub written_counts : (m : Memory) (cell : Cell) (v : values.Value) (c : Counts) → MemoryCounts m c → MemoryCounts (written m cell v) c
written_counts m cell v c counts = written_by m cell v c (block_at m cell.block) refl counts

not_over : (n k : ℕ) → n ≤ k → nat_lt k n ≡ false
not_over n k h = le-ltb k n h

-- a state whose counts are within the limits passes none
pub within_passes : (s : State) (c : Counts) → HasCounts s c → Within c → first_passed s ≡ None
within_passes s c has within =
    cond-false _ _ _ (not_over _ 1048576 (subst (λ n. n ≤ 1048576) (sym has.blocks) within.blocks))
    ∙ cond-false _ _ _ (not_over _ 1024 (subst (λ n. n ≤ 1024) (sym has.threads) within.threads))
    ∙ cond-false _ _ _ (not_over _ 65536 (subst (λ n. n ≤ 65536) (sym has.frames) within.frames))
    ∙ cond-false _ _ _ (not_over _ 4194304 (subst (λ n. n ≤ 4194304) (sym has.cells) within.cells))

-- the counts of the opening state
pub opened : (p : ProgramTree) (n : ℕ) → n ≡ length (main_frames p.main (slice_get p.functions p.main)) → HasCounts (opening p) (record { blocks = 0; threads = 1; frames = n; cells = 0 })
opened p n is =
    let main = main_frames p.main (slice_get p.functions p.main) in
    let all = sum_by-cons length main [] in
    record {
      blocks = finite.len-empty nat_cmp Block;
      threads = omega arith;
      frames = omega (arith, all, is);
      cells = ap (total ints_in) (nil_from_length _ (sym (finite.len-entries (finite.empty {X = Block} {R = nat_cmp})) ∙ finite.len-empty nat_cmp Block));
    }
