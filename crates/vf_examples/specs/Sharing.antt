-- What a program has in which two threads write a struct's field under one mutex: the second thread, the contracts, the predicates, and what the families are at the function of the second thread.
use Rattle.std.specs.Prelude.{ℕ, Bool, pos, false, cond, ◌&&◌, List, [], ◌∷◌, Option, Some, None, codes}
use Rattle.vf_base.specs.declared.int_type.IntType.TheVariants as types
use Rattle.vf_tree.specs.Core.{Identity, Field, TypeTree, StructTree, Integer, PointerToVoid, Read, StepTree, Load, Store, Call, Return, FunctionTree, ProgramTree}
use Rattle.vf_tree.specs.Core as core
use Rattle.vf_model.specs.Values.{Odd, same_identity}
use Rattle.vf_model.specs.PreludeFunctions.{MutexAcquire, MutexRelease, identity_of, pointer_to_mutex, run_signature}
use Rattle.vf_meaning.specs.Ghost.{Pointers, Anything, Numbered, GhostExpression, Function, PredicateValue, and_expression, no_expressions}
use Rattle.vf_meaning.specs.Assertions.{ShareTree, Times, Is, Names, Wild, Named, Family, Both, Cell, Chunk, BodyName, Plain, Instance, BodyTree, PredicateTree, ContractTree, GhostText, Environment}
use Rattle.vf_rules.specs.Mutexes.{full, name, mutex_name, create_mutex_ghost_arg_name, ghost_arg_body}
use Rattle.vf_rules.specs.Threads.{thread_run_pre, thread_run_post, thread_run_joinable, run_joinable}
use Rattle.vf_examples.specs.BoxProgram.{somewhere, main_name, box_contract}

-- the identity of a struct with a field of type int and one that points to a mutex
abbrev pub counter_name : Identity
counter_name = codes "one.c#counter"

-- its first field, which the mutex guards
abbrev pub count_field : Field
count_field = record { structure = counter_name; index = 0 }

-- its second field
abbrev pub mutex_field : Field
mutex_field = record { structure = counter_name; index = 1 }

-- the identity of the function of the second thread
abbrev pub tick_name : Identity
tick_name = codes "one.c#tick"

-- the identity of the constructor of the mutex's predicate
abbrev pub guarded_name : Identity
guarded_name = codes "one.c#guarded"

-- a call of a prelude function of no interest for its result
abbrev pub does : Identity → List core.ExpressionTree → ℕ → StepTree
does g operands next = Call None g operands somewhere next

-- `struct mutex *m = c->mutex; mutex_acquire(m); c->count = 7; mutex_release(m);`
abbrev pub tick : FunctionTree
tick = record {
  identity = tick_name;
  signature = run_signature;
  locals = PointerToVoid ∷ pointer_to_mutex ∷ [];
  steps =
      Load 1 (Read 0 somewhere) mutex_field somewhere 1
      ∷ does (identity_of MutexAcquire) (Read 1 somewhere ∷ []) 2
      ∷ Store (Read 0 somewhere) count_field (core.Number (pos 7)) somewhere 3
      ∷ does (identity_of MutexRelease) (Read 1 somewhere ∷ []) 4
      ∷ Return None
      ∷ [];
  closing = somewhere;
}

-- What a program has beside the mutex, its struct, its predicates and the second thread: the locals and steps of main, further structs, further predicates with their bodies, and where a leak stands
pub record Beside : Type 0 where
  pub locals : List TypeTree
  pub steps : List StepTree
  pub structs : List StructTree
  pub predicates : Identity → Option PredicateTree
  pub bodies : Identity → Option BodyTree
  pub leaks : GhostText → Bool

-- main of such a program
abbrev pub main_beside : Beside → FunctionTree
main_beside beside = record { identity = main_name; signature = record { result = Integer types.Int; parameters = [] }; locals = beside.locals; steps = beside.steps; closing = somewhere }

-- a program with the second thread, beside other things
abbrev pub program_beside : Beside → ProgramTree
program_beside beside = record { functions = main_beside beside ∷ tick ∷ []; structs = record { identity = counter_name; fields = Integer types.Int ∷ pointer_to_mutex ∷ [] } ∷ beside.structs; main = 0 }

-- the share one half
abbrev pub half_share : ShareTree
half_share = Times (Odd 0 0) []

-- `guarded(c)`, where a name is the pointer to the struct
abbrev pub guarded : ℕ → GhostExpression
guarded k = PredicateValue guarded_name (and_expression (name k) no_expressions)

-- `predicate_ctor guarded(struct counter *c)() = c->count |-> _;`
abbrev pub guarded_body : BodyTree
guarded_body = record { sorts = Pointers ∷ []; parameters = 1; assertion = Cell full (name 0) count_field Wild }

-- `[1/2]c->mutex |-> ?m &*& [1/2]mutex(m, guarded(c))`, which the second thread begins with and leaves
abbrev pub shared_body : BodyTree
shared_body = record {
  sorts = Pointers ∷ Anything ∷ Pointers ∷ [];
  parameters = 2;
  assertion = Both (Cell half_share (name 0) mutex_field (Names (Numbered 2))) (Chunk half_share (Named mutex_name) (Is (name 2) ∷ Is (guarded 0) ∷ []));
}

-- `requires thread_run_pre(tick)(d, ?info); ensures thread_run_post(tick)(d, info);`
abbrev pub tick_contract : ContractTree
tick_contract = record {
  sorts = Pointers ∷ Anything ∷ [];
  parameters = 1;
  result = None;
  requires_this = Chunk full (Family thread_run_pre (Function tick_name)) (Is (name 0) ∷ Names (Numbered 1) ∷ []);
  ensures_this = Chunk full (Family thread_run_post (Function tick_name)) (Is (name 0) ∷ Is (name 1) ∷ []);
}

-- the bodies of the predicates and of the families' instances
abbrev pub bodies_beside : Beside → BodyName → Option BodyTree
bodies_beside beside (Plain q) = cond (same_identity q guarded_name) (Some guarded_body) (cond (same_identity q create_mutex_ghost_arg_name) (Some ghost_arg_body) (beside.bodies q))
bodies_beside beside (Instance q g) = cond (same_identity g tick_name && same_identity q thread_run_pre) (Some shared_body) (cond (same_identity g tick_name && same_identity q thread_run_post) (Some shared_body) None)

-- the function of the second thread claims the prelude's type of functions of threads that are joined
abbrev pub environment_beside : Beside → Environment
environment_beside beside = record {
  constructors = λ c. None;
  fixpoints = [];
  claims = λ g t. same_identity g tick_name && same_identity t thread_run_joinable;
  predicates = λ q. cond (same_identity q guarded_name) (Some (record { first = Pointers ∷ []; others = [] })) (beside.predicates q);
  bodies = bodies_beside beside;
  functions = λ g. cond (same_identity g tick_name) (Some tick_contract) (Some box_contract);
  prototypes = λ g. None;
  types = λ t. cond (same_identity t thread_run_joinable) (Some run_joinable) None;
  called = λ g n. None;
  leaks = beside.leaks;
  calls = λ text g. false;
}
