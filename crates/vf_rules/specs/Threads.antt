-- The contracts of the prelude's functions for threads and of its function types, and what a call of one of its functions that concern mutexes and threads needs.
use Rattle.std.specs.Prelude.{◌≡◌, ℕ, IsTrue, [], ◌∷◌, slice_get, Some, None, codes}
use Rattle.vf_tree.specs.Core.{Identity, Signature, FunctionTree, ProgramTree}
use Rattle.vf_model.specs.State.{function_named}
use Rattle.vf_model.specs.PreludeFunctions.{PreludeFunction, ThreadStart, ThreadStartJoinable, ThreadJoin, CreateMutex, MutexAcquire, MutexRelease, MutexDispose, prelude_named, run_signature}
use Rattle.vf_meaning.specs.Ghost.{Pointers, Anything, Numbered, Result, This, Variable, Claims}
use Rattle.vf_meaning.specs.Assertions.{Is, Names, Named, Family, Pure, Empty, Both, Chunk, ContractTree, Plain, Environment}
use Rattle.vf_rules.specs.Mutexes.{full, name, create_mutex_ghost_arg_name, ghost_arg_body, creation, acquisition, release, disposal}

-- the predicate of a thread's handle
abbrev pub thread_name : Identity
thread_name = codes "<threading.h>#thread"

-- the family of what a thread begins with that nobody joins
abbrev pub thread_run_data : Identity
thread_run_data = codes "<threading.h>#thread_run_data"

-- the family of what a thread begins with that is joined
abbrev pub thread_run_pre : Identity
thread_run_pre = codes "<threading.h>#thread_run_pre"

-- the family of what such a thread leaves
abbrev pub thread_run_post : Identity
thread_run_post = codes "<threading.h>#thread_run_post"

-- the function type of the functions in which threads are started that nobody joins
abbrev pub thread_run : Identity
thread_run = codes "<threading.h>#thread_run"

-- the function type of those in which threads are started that are joined
abbrev pub thread_run_joinable : Identity
thread_run_joinable = codes "<threading.h>#thread_run_joinable"

-- `thread_run(d)`: requires thread_run_data(this)(d); ensures true
abbrev pub run : ContractTree
run = record {
  sorts = Pointers ∷ [];
  parameters = 1;
  result = None;
  requires_this = Chunk full (Family thread_run_data (Variable This)) (Is (name 0) ∷ []);
  ensures_this = Empty;
}

-- `thread_run_joinable(d)`: requires thread_run_pre(this)(d, ?info); ensures thread_run_post(this)(d, info)
abbrev pub run_joinable : ContractTree
run_joinable = record {
  sorts = Pointers ∷ Anything ∷ [];
  parameters = 1;
  result = None;
  requires_this = Chunk full (Family thread_run_pre (Variable This)) (Is (name 0) ∷ Names (Numbered 1) ∷ []);
  ensures_this = Chunk full (Family thread_run_post (Variable This)) (Is (name 0) ∷ Is (name 1) ∷ []);
}

-- `thread_start(run, d)`: requires is_thread_run(run) == true &*& thread_run_data(run)(d); ensures true
abbrev pub start : ContractTree
start = record {
  sorts = Pointers ∷ Pointers ∷ [];
  parameters = 2;
  result = None;
  requires_this = Both (Pure (Claims thread_run (name 0))) (Chunk full (Family thread_run_data (name 0)) (Is (name 1) ∷ []));
  ensures_this = Empty;
}

-- `thread_start_joinable(run, d)`: requires is_thread_run_joinable(run) == true &*& thread_run_pre(run)(d, ?info); ensures thread(result, run, d, info)
abbrev pub start_joinable : ContractTree
start_joinable = record {
  sorts = Pointers ∷ Pointers ∷ Anything ∷ [];
  parameters = 2;
  result = Some Pointers;
  requires_this = Both (Pure (Claims thread_run_joinable (name 0))) (Chunk full (Family thread_run_pre (name 0)) (Is (name 1) ∷ Names (Numbered 2) ∷ []));
  ensures_this = Chunk full (Named thread_name) (Is (Variable Result) ∷ Is (name 0) ∷ Is (name 1) ∷ Is (name 2) ∷ []);
}

-- `thread_join(t)`: requires thread(t, ?run, ?d, ?info); ensures thread_run_post(run)(d, info)
abbrev pub join : ContractTree
join = record {
  sorts = Pointers ∷ Pointers ∷ Pointers ∷ Anything ∷ [];
  parameters = 1;
  result = None;
  requires_this = Chunk full (Named thread_name) (Is (name 0) ∷ Names (Numbered 1) ∷ Names (Numbered 2) ∷ Names (Numbered 3) ∷ []);
  ensures_this = Chunk full (Family thread_run_post (name 1)) (Is (name 2) ∷ Is (name 3) ∷ []);
}

-- a function of the program that is no prelude function has a signature
pub record HasSignature (p : ProgramTree) (g : Identity) (signature : Signature) : Type 0 where
  pub outside : prelude_named g ≡ None
  pub number : ℕ
  pub function : FunctionTree
  pub named : function_named p g ≡ Some number
  pub is : slice_get p.functions number ≡ Some function
  pub signature_is : function.signature ≡ signature

-- a function type is the prelude's, with this contract, and each function that claims it is one in which a thread can be started
pub record IsRunType (e : Environment) (p : ProgramTree) (type : Identity) (contract : ContractTree) : Type 0 where
  pub of_type : e.types type ≡ Some contract
  pub claimants : (g : Identity) → IsTrue (e.claims g type) → HasSignature p g run_signature

-- which contract each of the prelude's functions for mutexes and threads has; a mutex is created where the predicate that names its predicate value has the prelude's body, which owns nothing, and a thread is started where its function type is the prelude's
pub data HasPreludeContract (e : Environment) (p : ProgramTree) : PreludeFunction → ContractTree → Type 0 where
  creates : e.bodies (Plain create_mutex_ghost_arg_name) ≡ Some ghost_arg_body → HasPreludeContract e p CreateMutex creation
  acquires : HasPreludeContract e p MutexAcquire acquisition
  releases : HasPreludeContract e p MutexRelease release
  disposes : HasPreludeContract e p MutexDispose disposal
  starts : IsRunType e p thread_run run → HasPreludeContract e p ThreadStart start
  starts_joinable : IsRunType e p thread_run_joinable run_joinable → HasPreludeContract e p ThreadStartJoinable start_joinable
  joins : HasPreludeContract e p ThreadJoin join
