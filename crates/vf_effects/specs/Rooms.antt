-- What an effect needs room for, and which effects take no memory.
use Rattle.std.specs.Prelude.{ℕ, ◌≡◌, ◌<◌, ◌≤◌, ◌≢◌, IsSome, List, [], length, unsigned_abs}
use Rattle.std.specs.FinMap as map
use Rattle.vf_tree.specs.Core.{Identity}
use Rattle.vf_engine.specs.Memories.{memory_of}
use Rattle.vf_engine.specs.declared.state.Running.{Running}
use Rattle.vf_engine.specs.declared.effect.Effect.{Effect}
use Rattle.vf_engine.specs.declared.effect.Effect.TheVariants as effects

-- there is room for one more block
abbrev pub RoomForBlock : Running → Type 0
RoomForBlock r = (names : List Identity) → map.len (memory_of names r.blocks) < 1048576

-- an effect that allocates, and is not denied, has room for what it makes
abbrev pub Fits : Running → ℕ → Effect → Type 0
Fits r grant (effects.Allocate x name next) = grant ≢ 0 → RoomForBlock r
Fits r grant (effects.AllocateInts x n next) = grant ≢ 0 → RoomForBlock r × (unsigned_abs n ≤ 4194304)
Fits r grant (effects.CreateMutex target next) = grant ≢ 0 → RoomForBlock r
Fits r grant (effects.StartJoinable run given target next) = grant ≢ 0 → RoomForBlock r × (length r.threads.items < 1024)
Fits r grant _ = Unit {0}

-- an effect that allocates no block
abbrev pub AllocatesNone : Effect → Type 0
AllocatesNone (effects.Allocate x name next) = ⊥
AllocatesNone (effects.AllocateInts x n next) = ⊥
AllocatesNone (effects.CreateMutex target next) = ⊥
AllocatesNone (effects.StartJoinable run given target next) = ⊥
AllocatesNone _ = Unit {0}

-- an effect that makes no block, frame, thread or output, and changes no mutex
abbrev pub IsInPlace : Effect → Type 0
IsInPlace (effects.Goto next) = Unit {0}
IsInPlace (effects.Set x v next) = Unit {0}
IsInPlace (effects.Load x v cell place next) = Unit {0}
IsInPlace (effects.Store cell v place next) = Unit {0}
IsInPlace (effects.Free b place next) = Unit {0}
IsInPlace (effects.Remove b next) = Unit {0}
IsInPlace (effects.Return value) = Unit {0}
IsInPlace effects.Abort = Unit {0}
IsInPlace effects.Wait = Unit {0}
IsInPlace _ = ⊥

-- an effect that takes no memory: it makes no block, frame, thread or output, and the mutex that it changes is there
abbrev pub TakesNone : Running → ℕ → Effect → Type 0
TakesNone r grant (effects.Allocate x name next) = grant ≡ 0
TakesNone r grant (effects.AllocateInts x n next) = grant ≡ 0
TakesNone r grant (effects.CreateMutex target next) = grant ≡ 0
TakesNone r grant (effects.StartJoinable run given target next) = grant ≡ 0
TakesNone r grant (effects.Enter number target arguments next) = ⊥
TakesNone r grant (effects.Start run given next) = ⊥
TakesNone r grant (effects.PutChar byte target next) = ⊥
TakesNone r grant (effects.PrintInt z next) = ⊥
TakesNone r grant (effects.Acquire b next) = IsSome (map.get (memory_of [] r.blocks) b)
TakesNone r grant (effects.Release b next) = IsSome (map.get (memory_of [] r.blocks) b)
TakesNone r grant _ = Unit {0}
