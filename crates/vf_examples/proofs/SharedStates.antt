-- The states that main of the example with everything comes to, up to its list.
use Rattle.std.proofs.Common.{ℕ, pos, true, List, [], ◌∷◌, ◌++◌, Option, Some, None, refl}
use Rattle.vf_tree.specs.Core as core
use Rattle.vf_model.specs.Values.{Odd}
use Rattle.vf_meaning.specs.Fractions.{whole}
use Rattle.vf_meaning.specs.Ghost.{Pointers, Numbered, Null, Number, Truth, Function, Fraction, Share, Compare, Not}
use Rattle.vf_meaning.specs.Assertions.{Named}
use Rattle.vf_rules.specs.Terms.{Term, Store, stored}
use Rattle.vf_rules.specs.States.{Fact, Holds, OfSort, Of, SymbolicChunk, SymbolicState, facts_of_thread}
use Rattle.vf_rules.specs.Fresh.{symbol, IsFreshIn}
use Rattle.vf_rules.specs.Take.{same}
use Rattle.vf_rules.specs.Predicates.{store_of}
use Rattle.vf_rules.specs.Threads.{thread_name}
use Rattle.vf_rules.specs.Accept.{all_of_it, call_store, cell_chunk, block_chunk}
use Rattle.vf_examples.specs.Sharing.{counter_name, count_field, mutex_field, tick_name}
use Rattle.vf_examples.proofs.NewSymbols.{fresh_call}
use Rattle.vf_examples.proofs.SharedTick.{written_share, half_at, guarded_by, field_chunk, mutex_chunk, held_chunk}

-- ---- until the thread is joined
abbrev pub path1 : List Fact
path1 = facts_of_thread ++ Holds (Truth true) ∷ OfSort (symbol 0) Pointers ∷ Holds (Compare core.NotEqual (symbol 0) Null) ∷ Holds (Not (Compare core.Equal (symbol 0) Null)) ∷ []

abbrev pub path2 : List Fact
path2 = path1 ++ OfSort (symbol 1) Pointers ∷ []

abbrev pub path3 : List Fact
path3 = path2 ++ OfSort (symbol 2) Pointers ∷ []

abbrev pub path4 : List Fact
path4 = path3 ++ Holds (Compare core.NotEqual (symbol 0) Null) ∷ []

abbrev pub path5 : List Fact
path5 = path4 ++ OfSort (symbol 6) Pointers ∷ Holds (Compare core.NotEqual (symbol 0) Null) ∷ OfSort (symbol 6) Pointers ∷ []

abbrev pub q : Term
q = guarded_by (symbol 0)

abbrev pub path6 : List Fact
path6 = path5 ++ same (symbol 1) (symbol 6) ∷ []

abbrev pub path7 : List Fact
path7 = path6 ++ same q q ∷ []

abbrev pub path8 : List Fact
path8 = path7 ++ Holds (Compare core.NotEqual (symbol 0) Null) ∷ []

abbrev pub at : List (Option Term) → List Fact → List SymbolicChunk → SymbolicState
at locals path chunks = record { locals = locals; names = call_store []; chunks = chunks; path = path }

-- the information of the second thread
abbrev pub info : Term
info = Number (pos 0)

-- half of a cell or a mutex, what is left where the other half was taken
abbrev pub half_left : Term
half_left = Fraction (Odd 0 0)

abbrev pub block : SymbolicChunk
block = block_chunk counter_name (symbol 0)

abbrev pub cell_half : SymbolicChunk
cell_half = field_chunk half_left mutex_field (symbol 0) (Some (symbol 1))

abbrev pub cell_all : SymbolicChunk
cell_all = cell_chunk mutex_field (symbol 0) (Some (symbol 1))

abbrev pub thread_chunk : SymbolicChunk
thread_chunk = record { share = written_share; head = Of (Named thread_name); arguments = Some (symbol 2) ∷ Some (Function tick_name) ∷ Some (symbol 0) ∷ Some info ∷ [] }

abbrev pub held : SymbolicChunk
held = held_chunk (symbol 1) q half_left

abbrev pub opened_cell : SymbolicChunk
opened_cell = field_chunk (Share written_share (Fraction whole)) count_field (symbol 0) None

abbrev pub mutex_back : SymbolicChunk
mutex_back = mutex_chunk (Share all_of_it (Share (Fraction whole) half_left)) (symbol 1) q

pub fresh : (y : ℕ) → IsFreshIn y (call_store [])
fresh y = fresh_call y [] refl

-- ---- until the mutex is disposed
abbrev pub mutex_all : SymbolicChunk
mutex_all = mutex_chunk all_of_it (symbol 1) q

abbrev pub dispose_store : Store
dispose_store = stored (call_store (symbol 1 ∷ [])) (Numbered 1) q

abbrev pub mutex_joined : SymbolicChunk
mutex_joined = mutex_chunk (half_at written_share) (symbol 6) q

abbrev pub post_store : Store
post_store = stored (store_of (symbol 0 ∷ info ∷ [])) (Numbered 2) (symbol 6)

abbrev pub join_store : Store
join_store = stored (stored (stored (call_store (symbol 2 ∷ [])) (Numbered 1) (Function tick_name)) (Numbered 2) (symbol 0)) (Numbered 3) info
