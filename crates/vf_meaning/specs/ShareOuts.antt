-- How a state's memory is shared out: among its threads, its free mutexes, and what was leaked.
use Rattle.std.specs.Prelude.{◌≡◌, ◌≢◌, ℕ, List, [], ◌∷◌, ◌++◌, map, length, slice_get, Option, Some, None, IsTrue, codes}
use Rattle.std.specs.Bool.{MatchBool}
use Rattle.std.specs.List.{range_with_len}
use Rattle.std.specs.FinMap as finite
use Rattle.vf_tree.specs.Core.{Identity, ProgramTree}
use Rattle.vf_model.specs.Values.{Value}
use Rattle.vf_model.specs.Values as values
use Rattle.vf_model.specs.Memory.{Memory, Block, Struct, Ints, Mutex, Handle, block_at}
use Rattle.vf_model.specs.Memory as memory
use Rattle.vf_model.specs.State.{State}
use Rattle.vf_model.specs.Calls.{has_ended}
use Rattle.vf_model.specs.Acts.{Touch}
use Rattle.vf_model.specs.Races.{next_touch, TouchesCell}
use Rattle.vf_meaning.specs.Fractions.{whole, IsPositive}
use Rattle.vf_meaning.specs.Assertions.{Instance, Environment}
use Rattle.vf_meaning.specs.Parts.{Location, FieldCell, IndexCell, MutexAt, HandleAt, Content, MutexOf, HandleOf, Part, nothing, IsSum}
use Rattle.vf_meaning.specs.Fits.{Fits}
use Rattle.vf_meaning.specs.Chunks.{Just}
use Rattle.vf_meaning.specs.Satisfaction.{SatisfiesBody, SatisfiesValue, MeansAt}

-- a part for each thread by its number, one for each mutex by its block, and the leaked one
pub record ShareOut : Type 0 where
  pub threads : ℕ → Part
  pub mutexes : ℕ → Part
  pub leaked : Part

-- a part is the sum of several
abbrev pub SumsTo : List Part → Part → Type 0
SumsTo [] p = p ≡ nothing
SumsTo (q ∷ qs) p = (r : Part) × SumsTo qs r × IsSum q r p

-- the parts that a state has: the leaked one, one for each thread that was started, and one for each block
abbrev pub parts_of : State → ShareOut → List Part
parts_of s o = o.leaked ∷ (map o.threads (range_with_len 0 (length s.threads)) ++ map o.mutexes (finite.keys s.memory))

-- a thread has ended
abbrev pub Ended : State → ℕ → Type 0
Ended s t = IsTrue (has_ended (slice_get s.threads t))

-- a block is the handle of a thread
abbrev pub IsHandleOf : State → ℕ → ℕ → Type 0
IsHandleOf s b t = (run : Identity) × (argument : Value) × (block_at s.memory b ≡ Some (Handle t run argument))

-- a part satisfies a predicate value that has all its arguments
abbrev pub SatisfiesInvariant : Environment → Value → Part → Type 0
SatisfiesInvariant e q p = (n : ℕ) × SatisfiesValue (MeansAt e n) whole q [] p

-- a part satisfies what a joinable thread leaves: the instance of the family `thread_run_post` at its function, with its argument and its information
abbrev pub SatisfiesPost : Environment → Identity → Value → Value → Part → Type 0
SatisfiesPost e run argument info p = (n : ℕ) × SatisfiesBody (MeansAt e n) whole (Instance (codes "<threading.h>#thread_run_post") run) (Just argument ∷ Just info ∷ []) p

-- the location of a cell, by its block
abbrev pub location_in : Option Block → memory.Cell → Option Location
location_in (Some (Struct g cells)) c = Some (FieldCell c.block g c.index)
location_in (Some (Ints cells)) c = Some (IndexCell c.block c.index)
location_in _ c = None

-- a fraction of a location is owned, and the whole where it is written or freed
abbrev pub OwnsFor : Touch → Part → Location → Type 0
OwnsFor touch p l = (c : Content) × MatchBool touch.writes (p l c ≡ whole) (IsPositive (p l c))

-- A share-out of a state: the parts sum to all of its memory; a thread other than main that has ended and has no handle has no part, since it was joined or was to leave nothing, and of the mutexes only the free ones have one;
-- the part of a free mutex satisfies the mutex's predicate value; the part of a thread that has ended and has its handle satisfies what that thread was to leave;
-- and a thread that can step owns what its next step touches
pub record IsShareOut (e : Environment) (p : ProgramTree) (s : State) (o : ShareOut) : Type 0 where
  pub all : Part
  pub sums : SumsTo (parts_of s o) all
  pub fits : Fits all s.memory
  pub joined : (t : ℕ) → t ≢ 0 → Ended s t → ((b : ℕ) → IsHandleOf s b t → ⊥) → o.threads t ≡ nothing
  pub held : (b : ℕ) → block_at s.memory b ≢ Some (Mutex None) → o.mutexes b ≡ nothing
  pub free : (b : ℕ) (q : Value) → block_at s.memory b ≡ Some (Mutex None) → IsPositive (all (MutexAt b) (MutexOf q)) → SatisfiesInvariant e q (o.mutexes b)
  pub left : (b t : ℕ) (run : Identity) (argument info : Value)
      → block_at s.memory b ≡ Some (Handle t run argument) → Ended s t → IsPositive (all (HandleAt b) (HandleOf (values.Function run) argument info))
      → SatisfiesPost e run argument info (o.threads t)
  pub access : (t : ℕ) (touch : Touch) (c : memory.Cell) (l : Location)
      → next_touch p s t ≡ Some touch → TouchesCell s.memory touch c → location_in (block_at s.memory c.block) c ≡ Some l → OwnsFor touch (o.threads t) l
