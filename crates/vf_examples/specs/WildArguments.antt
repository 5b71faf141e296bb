-- Two functions whose preconditions leave an argument open: one acquires a mutex of any predicate value and releases it, one joins a thread with any information.
use Rattle.std.specs.Prelude.{false, cond, List, [], ◌∷◌, Some, None, codes}
use Rattle.vf_tree.specs.Core.{Identity, TypeTree, PointerToVoid, Void, Read, StepTree, Return, FunctionTree, ProgramTree}
use Rattle.vf_model.specs.Values.{same_identity}
use Rattle.vf_model.specs.PreludeFunctions.{MutexAcquire, MutexRelease, ThreadJoin, identity_of}
use Rattle.vf_meaning.specs.Fractions.{whole}
use Rattle.vf_meaning.specs.Ghost.{Pointers, Fractions, Numbered}
use Rattle.vf_meaning.specs.Assertions.{Times, Taken, Is, Wild, Named, Family, Chunk, ContractTree, Environment}
use Rattle.vf_rules.specs.Mutexes.{full, name, mutex_name}
use Rattle.vf_rules.specs.Threads.{thread_name, thread_run_post}
use Rattle.vf_rules.specs.Accept.{IsAcceptedFunction}
use Rattle.vf_examples.specs.BoxProgram.{somewhere}
use Rattle.vf_examples.specs.Sharing.{does}

-- a function without a result, of pointers
abbrev pub procedure : Identity → List TypeTree → List StepTree → FunctionTree
procedure g parameters steps = record { identity = g; signature = record { result = Void; parameters = parameters }; locals = parameters; steps = steps; closing = somewhere }

-- `void pass(struct mutex *m) { mutex_acquire(m); mutex_release(m); }`
abbrev pub pass : FunctionTree
pass = procedure (codes "one.c#pass") (PointerToVoid ∷ []) (does (identity_of MutexAcquire) (Read 0 somewhere ∷ []) 1 ∷ does (identity_of MutexRelease) (Read 0 somewhere ∷ []) 2 ∷ Return None ∷ [])

-- `requires [?f]mutex(m, _); ensures [f]mutex(m, _);`
abbrev pub pass_contract : ContractTree
pass_contract = record {
  sorts = Pointers ∷ Fractions ∷ [];
  parameters = 1;
  result = None;
  requires_this = Chunk (Taken (Numbered 1)) (Named mutex_name) (Is (name 0) ∷ Wild ∷ []);
  ensures_this = Chunk (Times whole (Numbered 1 ∷ [])) (Named mutex_name) (Is (name 0) ∷ Wild ∷ []);
}

-- `void wait(struct thread *t, void *run, void *d) { thread_join(t); }`
abbrev pub wait : FunctionTree
wait = procedure (codes "one.c#wait") (PointerToVoid ∷ PointerToVoid ∷ PointerToVoid ∷ []) (does (identity_of ThreadJoin) (Read 0 somewhere ∷ []) 1 ∷ Return None ∷ [])

-- `requires thread(t, run, d, _); ensures thread_run_post(run)(d, _);`
abbrev pub wait_contract : ContractTree
wait_contract = record {
  sorts = Pointers ∷ Pointers ∷ Pointers ∷ [];
  parameters = 3;
  result = None;
  requires_this = Chunk full (Named thread_name) (Is (name 0) ∷ Is (name 1) ∷ Is (name 2) ∷ Wild ∷ []);
  ensures_this = Chunk full (Family thread_run_post (name 1)) (Is (name 2) ∷ Wild ∷ []);
}

-- both functions
abbrev pub wild_program : ProgramTree
wild_program = record { functions = pass ∷ wait ∷ []; structs = []; main = 0 }

-- what is declared: their contracts
abbrev pub wild_environment : Environment
wild_environment = record {
  constructors = λ c. None;
  fixpoints = [];
  claims = λ g t. false;
  predicates = λ q. None;
  bodies = λ b. None;
  functions = λ g. cond (same_identity g (codes "one.c#pass")) (Some pass_contract) (cond (same_identity g (codes "one.c#wait")) (Some wait_contract) None);
  prototypes = λ g. None;
  types = λ t. None;
  called = λ g n. None;
  leaks = λ text. false;
  calls = λ text g. false;
}

-- a function whose precondition has a mutex of any predicate value acquires it, and releases it with that value
abbrev pub PassingIsAccepted : Type 0
PassingIsAccepted = IsAcceptedFunction wild_environment wild_program pass pass_contract

-- a function whose precondition has a thread with any information joins it
abbrev pub WaitingIsAccepted : Type 0
WaitingIsAccepted = IsAcceptedFunction wild_environment wild_program wait wait_contract
