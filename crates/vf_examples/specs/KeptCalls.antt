-- A small program whose run calls through a pointer and starts a thread, with what it keeps.
use Rattle.std.specs.Prelude.{◌≡◌, ℕ, true, false, Bool, ◌||◌, ◌&&◌, cond, pos, List, [], ◌∷◌, Option, Some, None, codes}
use Rattle.vf_base.specs.declared.place.Place.{Place}
use Rattle.vf_base.specs.declared.int_type.IntType.TheVariants as types
use Rattle.vf_tree.specs.Core.{Identity, Void, Integer, PointerToVoid, Call, CallPointer, Return, FunctionTree, ProgramTree}
use Rattle.vf_tree.specs.Core as core
use Rattle.vf_model.specs.declared.words.Event.{Event}
use Rattle.vf_model.specs.declared.words.Outcome.TheVariants as outcomes
use Rattle.vf_model.specs.Values.{same_identity}
use Rattle.vf_model.specs.Values as values
use Rattle.vf_model.specs.PreludeFunctions.{ThreadStart, identity_of, run_signature, taking}
use Rattle.vf_model.specs.Runs.{reach, outcome_of}
use Rattle.vf_meaning.specs.Ghost as ghost
use Rattle.vf_meaning.specs.Assertions.{Pure, ContractTree, Environment}
use Rattle.vf_meaning.specs.Kept.{Promise, before, CallsPointer, StartsThread, ReturnsFrom, Kept}

-- a place in the file
abbrev pub at : ℕ → ℕ → Place
at line column = record { file = 0; line = line; column = column }

-- the function type `void callback(void)`
abbrev pub callback : Identity
callback = codes "two.c#callback"

-- the function type that threads run
abbrev pub thread_run : Identity
thread_run = codes "<threading.h>#thread_run"

-- a function of that type
abbrev pub called_function : FunctionTree
called_function = record { identity = codes "two.c#called"; signature = taking Void []; locals = []; steps = Return None ∷ []; closing = at 3 1 }

-- a function that a thread is started in
abbrev pub run_function : FunctionTree
run_function = record { identity = codes "two.c#run"; signature = run_signature; locals = PointerToVoid ∷ []; steps = Return None ∷ []; closing = at 6 1 }

-- `int main() { (&called)(); thread_start(&run, 0); return 0; }`
abbrev pub main_function : FunctionTree
main_function = record {
  identity = codes "two.c#main";
  signature = taking (Integer types.Int) [];
  locals = [];
  steps = CallPointer None (core.Function (codes "two.c#called")) (taking Void []) [] (at 9 3) 1
      ∷ Call None (identity_of ThreadStart) (core.Function (codes "two.c#run") ∷ core.Null ∷ []) (at 10 3) 2
      ∷ Return (Some (core.Number (pos 0)))
      ∷ [];
  closing = at 12 1;
}

-- the program
abbrev pub program : ProgramTree
program = record { functions = main_function ∷ called_function ∷ run_function ∷ []; structs = []; main = 0 }

-- a contract that asks nothing and promises nothing, of so many pointers
abbrev pub truth : List ghost.Sort → ℕ → Option ghost.Sort → ContractTree
truth sorts parameters result = record { sorts = sorts; parameters = parameters; result = result; requires_this = Pure (ghost.Truth true); ensures_this = Pure (ghost.Truth true) }

-- called claims callback, and run claims thread_run
abbrev pub claims : Identity → Identity → Bool
claims g t = (same_identity g called_function.identity && same_identity t callback) || (same_identity g run_function.identity && same_identity t thread_run)

-- its environment
abbrev pub environment : Environment
environment = record {
  constructors = λ c. None;
  fixpoints = [];
  claims = claims;
  predicates = λ q. None;
  bodies = λ b. None;
  functions = λ g. Some (truth [] 0 (Some ghost.Integers));
  prototypes = λ g. None;
  types = λ t. cond (same_identity t callback) (Some (truth [] 0 None)) (Some (truth (ghost.Pointers ∷ []) 1 None));
  called = λ g n. Some callback;
  leaks = λ text. false;
  calls = λ text g. false;
}

-- main calls, the call returns, main starts a thread, the thread ends, and main returns
abbrev pub events : List Event
events =
    record { thread = 0; grant = 1 } ∷ record { thread = 0; grant = 1 } ∷ record { thread = 0; grant = 1 }
    ∷ record { thread = 1; grant = 1 } ∷ record { thread = 0; grant = 1 } ∷ []

-- the call through the pointer
abbrev pub the_call : Promise
the_call = record { thread = 0; callee = values.Function called_function.identity; type = callback; arguments = values.none; below = 1 }

-- the thread that is started
abbrev pub the_start : Promise
the_start = record { thread = 1; callee = values.Function run_function.identity; type = thread_run; arguments = values.more values.Null values.none; below = 0 }

-- the run keeps what it owes; its first event is a call through a pointer, from which its second returns; its third starts a thread, which its fourth ends; and main returns 0
pub record CallsAreKept : Type 0 where
  pub kept : Kept environment program events
  pub calls : CallsPointer environment program (before program events 0) (record { thread = 0; grant = 1 }) the_call
  pub returns : ReturnsFrom program events 0 the_call 1 None
  pub starts : StartsThread program (before program events 2) (record { thread = 0; grant = 1 }) the_start
  pub ends : ReturnsFrom program events 2 the_start 3 None
  pub outcome : outcome_of program (reach program events) ≡ outcomes.Returned (pos 0)
