-- A program with a loop, a heap, a recursive predicate and a mutex that two threads share, all in one, with its contracts and predicates: main builds a list once the thread is joined.
use Rattle.std.specs.Prelude.{pos, cond, List, [], ◌∷◌, Some, None, codes}
use Rattle.vf_base.specs.declared.int_type.IntType.TheVariants as types
use Rattle.vf_tree.specs.Core.{Identity, Field, Integer, PointerToStruct, Read, Add, Less, Equal, StepTree, Set, Store, Allocate, Free, If, Call, Return, FunctionTree, ProgramTree}
use Rattle.vf_tree.specs.Core as core
use Rattle.vf_model.specs.Values.{same_identity}
use Rattle.vf_model.specs.PreludeFunctions.{Abort, ThreadStartJoinable, ThreadJoin, CreateMutex, MutexAcquire, MutexRelease, MutexDispose, identity_of, pointer_to_mutex, pointer_to_thread}
use Rattle.vf_meaning.specs.Ghost.{Pointers, Numbered, Null, Compare}
use Rattle.vf_meaning.specs.Assertions.{Is, Names, BlockOf, Named, Assertion, Empty, Both, Choose, Cell, Chunk, BodyTree, Environment}
use Rattle.vf_rules.specs.Mutexes.{full, name}
use Rattle.vf_safety.specs.Laws.{IsAcceptedProgram}
use Rattle.vf_examples.specs.BoxProgram.{somewhere, main_name, only_before}
use Rattle.vf_examples.specs.Sharing.{counter_name, count_field, mutex_field, tick_name, does, Beside, main_beside, program_beside, environment_beside}

-- the identity of a struct with one field, which points to the next one
abbrev pub node_name : Identity
node_name = codes "one.c#node"

-- its field
abbrev pub next_field : Field
next_field = record { structure = node_name; index = 0 }

-- the identity of the predicate of a list of them
abbrev pub nodes_name : Identity
nodes_name = codes "one.c#nodes"

-- `struct node *h = 0; int i = 0; while (i < 3) { struct node *n = malloc(sizeof(struct node)); if (n == 0) abort(); n->next = h; h = n; i = i + 1; } return 7;`, from step 12 on
abbrev pub list_steps : List StepTree
list_steps =
    Set 3 core.Null 13
    ∷ Set 5 (core.Number (pos 0)) 14
    ∷ If Less (Read 5 somewhere) (core.Number (pos 3)) 15 21
    ∷ Allocate 4 node_name 16
    ∷ If Equal (Read 4 somewhere) core.Null 17 18
    ∷ does (identity_of Abort) [] 18
    ∷ Store (Read 4 somewhere) next_field (Read 3 somewhere) somewhere 19
    ∷ Set 3 (Read 4 somewhere) 20
    ∷ Set 5 (core.Arithmetic Add types.Int (Read 5 somewhere) (core.Number (pos 1)) somewhere) 14
    ∷ Return (Some (core.Number (pos 7)))
    ∷ []

-- `struct counter *c = malloc(sizeof(struct counter)); if (c == 0) abort(); struct mutex *m = create_mutex(); c->mutex = m; struct thread *t = thread_start_joinable(tick, c); mutex_acquire(m); c->count = 5; mutex_release(m); thread_join(t); mutex_dispose(m); free(c);`, and then the list
abbrev pub everything_steps : List StepTree
everything_steps =
    Allocate 0 counter_name 1
    ∷ If Equal (Read 0 somewhere) core.Null 2 3
    ∷ does (identity_of Abort) [] 3
    ∷ Call (Some 1) (identity_of CreateMutex) [] somewhere 4
    ∷ Store (Read 0 somewhere) mutex_field (Read 1 somewhere) somewhere 5
    ∷ Call (Some 2) (identity_of ThreadStartJoinable) (core.Function tick_name ∷ Read 0 somewhere ∷ []) somewhere 6
    ∷ does (identity_of MutexAcquire) (Read 1 somewhere ∷ []) 7
    ∷ Store (Read 0 somewhere) count_field (core.Number (pos 5)) somewhere 8
    ∷ does (identity_of MutexRelease) (Read 1 somewhere ∷ []) 9
    ∷ does (identity_of ThreadJoin) (Read 2 somewhere ∷ []) 10
    ∷ does (identity_of MutexDispose) (Read 1 somewhere ∷ []) 11
    ∷ Free (Read 0 somewhere) counter_name somewhere 12
    ∷ list_steps

-- `predicate nodes(struct node *p) = p == 0 ? emp : p->next |-> ?q &*& malloc_block_node(p) &*& nodes(q);`
abbrev pub nodes_body : BodyTree
nodes_body = record {
  sorts = Pointers ∷ Pointers ∷ [];
  parameters = 1;
  assertion = Choose (Compare Equal (name 0) Null) Empty (Both (Cell full (name 0) next_field (Names (Numbered 1))) (Both (Chunk full (BlockOf node_name) (Is (name 0) ∷ [])) (Chunk full (Named nodes_name) (Is (name 1) ∷ []))));
}

-- `nodes(h)`, the loop's invariant, in which the local has number 0
abbrev pub nodes_of_head : Assertion
nodes_of_head = Chunk full (Named nodes_name) (Is (name 0) ∷ [])

-- What the example has beside the mutex and the second thread: the locals `c`, `m`, `t`, `h`, `n` and `i` of main and its steps, the struct and the predicate of a list, and a leak of the list before the last step of main
abbrev pub with_list : Beside
with_list = record {
  locals = PointerToStruct counter_name ∷ pointer_to_mutex ∷ pointer_to_thread ∷ PointerToStruct node_name ∷ PointerToStruct node_name ∷ Integer types.Int ∷ [];
  steps = everything_steps;
  structs = record { identity = node_name; fields = PointerToStruct node_name ∷ [] } ∷ [];
  predicates = λ q. cond (same_identity q nodes_name) (Some (record { first = []; others = Pointers ∷ [] })) None;
  bodies = λ q. cond (same_identity q nodes_name) (Some nodes_body) None;
  leaks = only_before main_name 21;
}

-- main of the example
abbrev pub everything_main : FunctionTree
everything_main = main_beside with_list

-- the program of the example
abbrev pub everything_program : ProgramTree
everything_program = program_beside with_list

-- what is declared in the example
abbrev pub everything_environment : Environment
everything_environment = environment_beside with_list

-- the example is accepted
abbrev pub EverythingIsAccepted : Type 0
EverythingIsAccepted = IsAcceptedProgram everything_environment everything_program
