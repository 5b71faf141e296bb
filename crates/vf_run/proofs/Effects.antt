-- The counts of the state after each effect.
use Rattle.std.proofs.Common.{◌≡◌, ℕ, ◌+◌, ◌≢◌, true, false, cond, List, [], ◌∷◌, ◌==◌, length, Option, Some, None, IsSome, pos, refl, sym, subst, ◌∙◌, eq-eqb}
use Rattle.std.specs.FinMap as finite
use Rattle.std.proofs.lemmas.Bool.{false≢true, eqb-true}
use Rattle.vf_tree.specs.Core.{Identity, FunctionTree, ProgramTree}
use Rattle.vf_model.specs.Values as values
use Rattle.vf_model.specs.Memory.{Memory, Block, Mutex, Handle, granted_block}
use Rattle.vf_model.specs.State.{State, Turn, Aborted, at_step, with_local, with_result, sets, receives, over_memory, after_start, ended, entered}
use Rattle.vf_model.specs.Acts.{Allocates}
use Rattle.vf_model.specs.Accesses.{allocates}
use Rattle.vf_model.specs.Runs.{happens}
use Rattle.vf_engine.specs.States.{turn_of, callers_of}
use Rattle.vf_engine.specs.Effects.{enters_found, starts_found, joinable_found}
use Rattle.vf_engine.specs.declared.state.Frame as code
use Rattle.vf_engine.specs.declared.state.Thread.{Thread}
use Rattle.vf_engine.specs.declared.state.Running.{Running}
use Rattle.vf_engine.specs.declared.effect.Effect.{Effect}
use Rattle.vf_run.specs.declared.counts.Counts.{Counts}
use Rattle.vf_run.specs.Counts.{HasCounts, MemoryCounts, SameThreads, ints_in}
use Rattle.vf_run.specs.Changes.{CountsAfter}
use Rattle.vf_run.proofs.Counting.{OnTurn, same_counts, called, started, stepped, went, free_granted}

-- counts after an effect are those after the effect that it is
pub as_effect : (names : List Identity) (p : ProgramTree) (r : Running) (thread grant : ℕ) (e f : Effect) (c : Counts)
    → e ≡ f → CountsAfter names p r thread grant f c → CountsAfter names p r thread grant e c
as_effect names p r thread grant e f c is h = subst (λ x. CountsAfter names p r thread grant x c) (sym is) h

-- the turn of a thread in its frame
abbrev pub the_turn : List Identity → Running → ℕ → Thread → code.Frame → Turn
the_turn names r thread of frame = turn_of names r thread frame (callers_of names of.callers.items)

-- an allocation by a grant: what is denied has the same counts, and what is granted has a block more
pub allocated : (s : State) (grant : ℕ) (denied : State) (granted : ℕ → State) (c d : Counts)
    → (grant ≡ 0 → HasCounts denied d) → (grant ≢ 0 → HasCounts (granted (granted_block s.memory grant)) d)
    → HasCounts (happens s grant (Allocates denied granted)) d
allocated s grant denied granted c d when_denied when_granted =
    elim (grant == 0) as (λ b. grant == 0 ≡ b → HasCounts (cond b denied (granted (granted_block s.memory grant))) d) [
      | true ↦ λ h. when_denied (eqb-true grant 0 h)
      | false ↦ λ h. when_granted (λ e. false≢true (sym h ∙ eq-eqb grant 0 e))
    ] refl

-- a call of a function that the program has
pub entered_found : (turn : Turn) (number : ℕ) (target : Option ℕ) (vs : List values.Value) (next grant : ℕ) (o : Option FunctionTree) (c : Counts) → IsSome o
    → OnTurn turn → HasCounts turn.state c
    → HasCounts (happens turn.state grant (enters_found turn number target vs next o)) (record { blocks = c.blocks; threads = c.threads; frames = c.frames + 1; cells = c.cells })
entered_found turn number target vs next grant None c h on has = absurd (false≢true h)
entered_found turn number target vs next grant (Some f) c h on has = called turn (entered number f vs target) (at_step turn.frame next) c on has

-- a start of a thread in a function that the program has
pub started_found : (turn : Turn) (number : ℕ) (given : values.Value) (next grant : ℕ) (o : Option FunctionTree) (c : Counts) → IsSome o
    → OnTurn turn → HasCounts turn.state c
    → HasCounts (happens turn.state grant (starts_found turn number given next o)) (record { blocks = c.blocks; threads = length turn.state.threads + 1; frames = c.frames + 1; cells = c.cells })
started_found turn number given next grant None c h on has = absurd (false≢true h)
started_found turn number given next grant (Some f) c h on has =
    let d : Counts = record { blocks = c.blocks; threads = length turn.state.threads + 1; frames = c.frames + 1; cells = c.cells } in
    let counts : MemoryCounts turn.state.memory d = (has.blocks, has.cells) in
    let there = started turn turn.state.memory (entered number f (given ∷ []) None) (at_step turn.frame next) c d on has counts refl refl in
    record { blocks = there.blocks; threads = there.threads; frames = there.frames; cells = there.cells }

-- the same with a handle, where it is granted
pub joinable_there : (turn : Turn) (number : ℕ) (target : Option ℕ) (given : values.Value) (next grant : ℕ) (o : Option FunctionTree) (c d : Counts) → IsSome o
    → OnTurn turn → HasCounts turn.state c → (grant ≡ 0 → d ≡ c)
    → (grant ≢ 0 → (m : Memory) (k : ℕ) (block : Block) → finite.contains_key m k ≡ false → ints_in block ≡ 0 → finite.len m ≡ finite.len turn.state.memory → MemoryCounts m c → MemoryCounts (finite.insert m k block) d)
    → (grant ≢ 0 → d.threads ≡ length turn.state.threads + 1) → (grant ≢ 0 → d.frames ≡ c.frames + 1)
    → HasCounts (happens turn.state grant (joinable_found turn number target given next o)) d
joinable_there turn number target given next grant None c d h on has same memory threads frames = absurd (false≢true h)
joinable_there turn number target given next grant (Some f) c d h on has same memory threads frames =
    let m = turn.state.memory in
    let b = granted_block m grant in
    let new = entered number f (given ∷ []) None in
    let handle = Handle (length turn.state.threads) f.identity given in
    allocated turn.state grant (ended turn.state Aborted) (λ k. receives (over_memory (after_start turn new) (finite.insert m k handle)) target (values.Pointer k (pos 0)) next) c d
    (λ zeroth. subst (HasCounts (ended turn.state Aborted)) (sym (same zeroth)) (same_counts turn.state (ended turn.state Aborted) c refl refl has))
    (λ other. let there = started turn (finite.insert m b handle) new (at_step (with_result turn.frame target (Some (values.Pointer b (pos 0)))) next) c d on has
    (memory other m b handle (free_granted m grant) refl refl (has.blocks, has.cells)) (threads other) (frames other) in
    record { blocks = there.blocks; threads = there.threads; frames = there.frames; cells = there.cells })

-- an allocation of a block whose number goes into a local
pub allocates_counts : (turn : Turn) (x : ℕ) (block : Block) (next grant : ℕ) (c d : Counts) → OnTurn turn → HasCounts turn.state c → (grant ≡ 0 → d ≡ c) → SameThreads c d
    → (grant ≢ 0 → (k : ℕ) → finite.contains_key turn.state.memory k ≡ false → MemoryCounts (finite.insert turn.state.memory k block) d)
    → HasCounts (happens turn.state grant (allocates turn x block next)) d
allocates_counts turn x block next grant c d on has same threads memory =
    let m = turn.state.memory in
    let b = granted_block m grant in
    allocated turn.state grant (sets turn x values.Null next) (λ k. sets (over_memory turn (finite.insert m k block)) x (values.Pointer k (pos 0)) next) c d
    (λ zeroth. subst (HasCounts (sets turn x values.Null next)) (sym (same zeroth)) (went turn (at_step (with_local turn.frame x values.Null) next) c on has))
    (λ other. stepped turn (finite.insert m b block) (at_step (with_local turn.frame x (values.Pointer b (pos 0))) next) c d on has (memory other b (free_granted m grant)) threads)

-- a new mutex
pub creates_counts : (turn : Turn) (target : Option ℕ) (next grant : ℕ) (c d : Counts) → OnTurn turn → HasCounts turn.state c → (grant ≡ 0 → d ≡ c) → SameThreads c d
    → (grant ≢ 0 → (k : ℕ) → finite.contains_key turn.state.memory k ≡ false → MemoryCounts (finite.insert turn.state.memory k (Mutex None)) d)
    → HasCounts (happens turn.state grant (Allocates (ended turn.state Aborted) (λ b. receives (over_memory turn (finite.insert turn.state.memory b (Mutex None))) target (values.Pointer b (pos 0)) next))) d
creates_counts turn target next grant c d on has same threads memory =
    let m = turn.state.memory in
    let b = granted_block m grant in
    allocated turn.state grant (ended turn.state Aborted) (λ k. receives (over_memory turn (finite.insert m k (Mutex None))) target (values.Pointer k (pos 0)) next) c d
    (λ zeroth. subst (HasCounts (ended turn.state Aborted)) (sym (same zeroth)) (same_counts turn.state (ended turn.state Aborted) c refl refl has))
    (λ other. stepped turn (finite.insert m b (Mutex None)) (at_step (with_result turn.frame target (Some (values.Pointer b (pos 0)))) next) c d on has (memory other b (free_granted m grant)) threads)
