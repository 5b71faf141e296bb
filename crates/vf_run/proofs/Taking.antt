-- Effects that take no memory: those of steps that make nothing.
use Rattle.std.proofs.Common.{◌≡◌, ℕ, ◌+◌, ◌≤◌, Bool, true, false, cond, ◌==◌, List, [], ◌∷◌, ◌++◌, length, Option, Some, None, IsSome, is_some, slice_get, pos, unsigned_abs, refl, sym, ap, subst, ◌∙◌, arith}
use Rattle.std.specs.FinMap as finite
use Rattle.std.specs.Fmt.{signed_decimal}
use Rattle.std.proofs.lemmas.Bool.{false≢true, eqb-true}
use Rattle.std.proofs.lemmas.List.{length-append}
use Rattle.vf_tree.specs.Core.{Identity, FunctionTree, ProgramTree}
use Rattle.vf_model.specs.Values as values
use Rattle.vf_model.specs.Memory.{Memory, Block, Mutex, Handle, Ints, unset_cells, granted_block}
use Rattle.vf_model.specs.State.{State, Turn, Aborted, entered, ended, receives, sets, over_memory, after_start}
use Rattle.vf_model.specs.Acts.{Allocates}
use Rattle.vf_model.specs.Accesses.{allocates, new_struct}
use Rattle.vf_model.specs.Steps.{all_values}
use Rattle.vf_model.specs.Runs.{happens}
use Rattle.vf_core.specs.Shown.{identity_of, expressions_of}
use Rattle.vf_engine.specs.Values.{value_of}
use Rattle.vf_engine.specs.Memories.{memory_of}
use Rattle.vf_engine.specs.States.{state_of}
use Rattle.vf_engine.specs.Effects.{act_of_effect, joinable_found, values_or_none}
use Rattle.vf_engine.proofs.Shelves.{memory_key}
use Rattle.vf_engine.specs.declared.blocks.Blocks.{Blocks}
use Rattle.vf_engine.specs.declared.state.Frame as code
use Rattle.vf_engine.specs.declared.state.Thread.{Thread}
use Rattle.vf_engine.specs.declared.state.Running.{Running}
use Rattle.vf_engine.specs.declared.effect.Effect.{Effect}
use Rattle.vf_engine.specs.declared.effect.Effect.TheVariants as effects
use Rattle.vf_effects.specs.Rooms.{TakesNone}
use Rattle.vf_run.specs.declared.counts.Counts.{Counts}
use Rattle.vf_run.specs.Acting.{IsKnown}
use Rattle.vf_run.specs.Counts.{HasCounts, Within}
use Rattle.vf_run.specs.Making.{HasNoMore}
use Rattle.vf_run.proofs.Counting.{on_turn, free_granted, block_more, mutex_new}
use Rattle.vf_run.proofs.Effects.{the_turn, entered_found, started_found}
use Rattle.vf_run.proofs.Making.{counts_of, has_own}

-- what is granted is a block more
denied_by : (s : State) (grant : ℕ) (denied : State) (granted : ℕ → State)
    → ((k : ℕ) → finite.contains_key s.memory k ≡ false → finite.len (granted k).memory ≡ finite.len s.memory + 1)
    → HasNoMore s (happens s grant (Allocates denied granted)) → grant ≡ 0
denied_by s grant denied granted more h =
    elim (grant == 0) as (λ b. grant == 0 ≡ b → HasNoMore s (cond b denied (granted (granted_block s.memory grant))) → grant ≡ 0) [
      | true ↦ λ is k. eqb-true grant 0 is
      | false ↦ λ is k. let one = more (granted_block s.memory grant) (free_granted s.memory grant) in let few = k.blocks in absurd (omega (arith, one, few))
    ] refl h

denied_block : (turn : Turn) (x : ℕ) (block : Block) (next grant : ℕ) → HasNoMore turn.state (happens turn.state grant (allocates turn x block next)) → grant ≡ 0
denied_block turn x block next grant h =
    let m = turn.state.memory in
    denied_by turn.state grant (sets turn x values.Null next) (λ b. sets (over_memory turn (finite.insert m b block)) x (values.Pointer b (pos 0)) next)
    (λ k free. (block_more m k block free).0) h

denied_mutex : (turn : Turn) (target : Option ℕ) (next grant : ℕ)
    → HasNoMore turn.state (happens turn.state grant (Allocates (ended turn.state Aborted) (λ b. receives (over_memory turn (finite.insert turn.state.memory b (Mutex None))) target (values.Pointer b (pos 0)) next)))
    → grant ≡ 0
denied_mutex turn target next grant h =
    let m = turn.state.memory in
    denied_by turn.state grant (ended turn.state Aborted) (λ b. receives (over_memory turn (finite.insert m b (Mutex None))) target (values.Pointer b (pos 0)) next)
    (λ k free. (block_more m k (Mutex None) free).0) h

denied_handle : (turn : Turn) (run : ℕ) (target : Option ℕ) (given : values.Value) (next grant : ℕ) (o : Option FunctionTree) → IsSome o
    → HasNoMore turn.state (happens turn.state grant (joinable_found turn run target given next o)) → grant ≡ 0
denied_handle turn run target given next grant None known h = absurd (false≢true known)
denied_handle turn run target given next grant (Some f) known h =
    let m = turn.state.memory in
    let handle = Handle (length turn.state.threads) f.identity given in
    denied_by turn.state grant (ended turn.state Aborted)
    (λ b. receives (over_memory (after_start turn (entered run f (given ∷ []) None)) (finite.insert m b handle)) target (values.Pointer b (pos 0)) next)
    (λ k free. (block_more m k handle free).0) h

mutex_by : (m : Memory) (k : ℕ) (holder : Option ℕ) (o : Option Block) → finite.get m k ≡ o → finite.len (finite.insert m k (Mutex holder)) ≤ finite.len m → IsSome (finite.get m k)
mutex_by m k holder (Some w) is few = ap is_some is
mutex_by m k holder None is few =
    let one = (mutex_new m k holder (record { blocks = finite.len m; threads = 0; frames = 0; cells = _ }) is (refl, refl)).0 in
    absurd (omega (arith, one, few))

-- a mutex that is no block more has replaced a block
mutex_there : (names : List Identity) (blocks : Blocks) (k : ℕ) (holder : Option ℕ)
    → finite.len (finite.insert (memory_of names blocks) k (Mutex holder)) ≤ finite.len (memory_of names blocks) → IsSome (finite.get (memory_of [] blocks) k)
mutex_there names blocks k holder few =
    let m = memory_of names blocks in
    memory_key [] blocks k
    ∙ sym (memory_key names blocks k)
    ∙ mutex_by m k holder (finite.get m k) refl few

-- an effect takes no memory where the state after it has no more
pub takes_none : (names : List Identity) (p : ProgramTree) (r : Running) (thread grant : ℕ) (of : Thread) (frame : code.Frame) (e : Effect)
    → slice_get r.threads.items thread ≡ Some of → of.frame ≡ Some frame → IsKnown p e
    → HasNoMore (state_of names r) (happens (state_of names r) grant (act_of_effect names p (the_turn names r thread of frame) e)) → TakesNone r grant e
takes_none names p r thread grant of frame (effects.Goto next) at framed known h = tt
takes_none names p r thread grant of frame (effects.Set x v next) at framed known h = tt
takes_none names p r thread grant of frame (effects.Load x v cell place next) at framed known h = tt
takes_none names p r thread grant of frame (effects.Store cell v place next) at framed known h = tt
takes_none names p r thread grant of frame (effects.Allocate x name next) at framed known h =
    denied_block (the_turn names r thread of frame) x (new_struct p (identity_of names name)) next grant h
takes_none names p r thread grant of frame (effects.AllocateInts x n next) at framed known h =
    denied_block (the_turn names r thread of frame) x (Ints (unset_cells (unsigned_abs n))) next grant h
takes_none names p r thread grant of frame (effects.Free b place next) at framed known h = tt
takes_none names p r thread grant of frame (effects.Enter number target arguments next) at framed known h =
    let turn = the_turn names r thread of frame in
    let one = (entered_found turn number target (values_or_none (all_values turn (expressions_of names arguments.now))) next grant (slice_get p.functions number) (counts_of turn.state) known (on_turn names r thread of frame at framed) (has_own turn.state)).frames in
    let few = h.frames in
    absurd (omega (arith, one, few))
takes_none names p r thread grant of frame (effects.Return value) at framed known h = tt
takes_none names p r thread grant of frame effects.Abort at framed known h = tt
takes_none names p r thread grant of frame (effects.PutChar byte target next) at framed known h =
    let long = length-append (state_of names r).output (byte ∷ []) in
    let few = h.output in
    absurd (omega (arith, long, few))
takes_none names p r thread grant of frame (effects.PrintInt z next) at framed known h =
    let long = length-append (state_of names r).output (signed_decimal z ++ 10 ∷ []) in
    let line = length-append (signed_decimal z) (10 ∷ []) in
    let few = h.output in
    absurd (omega (arith, long, line, few))
takes_none names p r thread grant of frame (effects.Start run given next) at framed known h =
    let turn = the_turn names r thread of frame in
    let one = (started_found turn run (value_of names given) next grant (slice_get p.functions run) (counts_of turn.state) known (on_turn names r thread of frame at framed) (has_own turn.state)).threads in
    let few = h.threads in
    absurd (omega (arith, one, few))
takes_none names p r thread grant of frame (effects.StartJoinable run given target next) at framed known h =
    denied_handle (the_turn names r thread of frame) run target (value_of names given) next grant (slice_get p.functions run) known h
takes_none names p r thread grant of frame (effects.Remove b next) at framed known h = tt
takes_none names p r thread grant of frame (effects.CreateMutex target next) at framed known h = denied_mutex (the_turn names r thread of frame) target next grant h
takes_none names p r thread grant of frame (effects.Acquire b next) at framed known h = mutex_there names r.blocks b (Some thread) h.blocks
takes_none names p r thread grant of frame (effects.Release b next) at framed known h = mutex_there names r.blocks b None h.blocks
takes_none names p r thread grant of frame effects.Wait at framed known h = tt

-- the limits hold of a state that has no more than one of which they hold
pub still_within : (s t : State) (c d : Counts) → HasCounts s c → HasCounts t d → HasNoMore s t → Within c → Within d
still_within s t c d has new few within = record {
  blocks = let a = has.blocks in let b = new.blocks in let f = few.blocks in let w = within.blocks in omega (arith, a, b, f, w);
  threads = let a = has.threads in let b = new.threads in let f = few.threads in let w = within.threads in omega (arith, a, b, f, w);
  frames = let a = has.frames in let b = new.frames in let f = few.frames in let w = within.frames in omega (arith, a, b, f, w);
  cells = let a = has.cells in let b = new.cells in let f = few.cells in let w = within.cells in omega (arith, a, b, f, w);
}
