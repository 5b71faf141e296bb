-- Two programs that no environment accepts: one returns a local that was not set, and in the other two threads write one field.
use Rattle.std.specs.Prelude.{pos, List, [], ◌∷◌, Some, None, codes}
use Rattle.vf_base.specs.declared.int_type.IntType.TheVariants as types
use Rattle.vf_tree.specs.Core.{Identity, Field, Integer, PointerToStruct, PointerToVoid, Read, Number, Function, StepTree, Store, Allocate, Call, Return, FunctionTree, ProgramTree}
use Rattle.vf_model.specs.declared.words.Event.{Event}
use Rattle.vf_model.specs.declared.words.FaultKind.TheVariants as faults
use Rattle.vf_model.specs.PreludeFunctions.{run_signature}
use Rattle.vf_model.specs.Runs.{reach, Fault}
use Rattle.vf_model.specs.Races.{Race}
use Rattle.vf_meaning.specs.Assertions.{Environment}
use Rattle.vf_safety.specs.Laws.{IsAcceptedProgram}
use Rattle.vf_examples.specs.BoxProgram.{somewhere}

-- `int x; return x;`
abbrev pub unset_program : ProgramTree
unset_program = record {
  functions = record {
    identity = codes "three.c#main";
    signature = record { result = Integer types.Int; parameters = [] };
    locals = Integer types.Int ∷ [];
    steps = Return (Some (Read 0 somewhere)) ∷ [];
    closing = somewhere;
  } ∷ [];
  structs = [];
  main = 0;
}

-- the struct that two threads write
abbrev pub shared_name : Identity
shared_name = codes "four.c#s"

-- its field
abbrev pub shared_field : Field
shared_field = record { structure = shared_name; index = 0 }

-- `p->f = 1;`, where p is the first local
abbrev pub write_step : StepTree
write_step = Store (Read 0 somewhere) shared_field (Number (pos 1)) somewhere 3

-- `struct s *p = malloc(sizeof(struct s)); thread_start(run, p); p->f = 1; return 0;`
abbrev pub racing_main : FunctionTree
racing_main = record {
  identity = codes "four.c#main";
  signature = record { result = Integer types.Int; parameters = [] };
  locals = PointerToStruct shared_name ∷ [];
  steps = Allocate 0 shared_name 1
      ∷ Call None (codes "<threading.h>#thread_start") (Function (codes "four.c#run") ∷ Read 0 somewhere ∷ []) somewhere 2
      ∷ write_step
      ∷ Return (Some (Number (pos 0)))
      ∷ [];
  closing = somewhere;
}

-- `void run(void *p) { p->f = 1; }`
abbrev pub racing_run : FunctionTree
racing_run = record { identity = codes "four.c#run"; signature = run_signature; locals = PointerToVoid ∷ []; steps = write_step ∷ []; closing = somewhere }

-- main starts a thread, and both write the field
abbrev pub racing_program : ProgramTree
racing_program = record { functions = racing_main ∷ racing_run ∷ []; structs = record { identity = shared_name; fields = Integer types.Int ∷ [] } ∷ []; main = 0 }

-- the struct is allocated, and the thread is started
abbrev pub racing_events : List Event
racing_events = record { thread = 0; grant = 1 } ∷ record { thread = 0; grant = 1 } ∷ []

-- the first program comes to a fault and the second one to a race, and there are no environments in which they are accepted
pub record UnsafeAreRefused : Type 0 where
  pub fault : Fault unset_program (reach unset_program []) 0 faults.Unset somewhere
  pub race : Race racing_program (reach racing_program racing_events)
  pub unset_refused : (e : Environment) → IsAcceptedProgram e unset_program → ⊥
  pub racing_refused : (e : Environment) → IsAcceptedProgram e racing_program → ⊥
