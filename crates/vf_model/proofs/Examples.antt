-- Worked examples, by computation.
use Rattle.std.proofs.Common.{◌≡◌, ℕ, true, false, List, [], ◌∷◌, Some, None, ℤ, pos, negsuc, refl, ap, ◌++◌, arith}
use Rattle.std.proofs.lemmas.Fmt.{decimal_digit}
use Rattle.std.specs.Prelude.{codes}
use Rattle.vf_base.specs.declared.place.Place.{Place}
use Rattle.vf_base.specs.declared.int_type.IntType.TheVariants as types
use Rattle.vf_tree.specs.Core.{Identity, TypeTree, Void, Integer, PointerToVoid, Add, Divide, Remainder, Equal, Signature, StepTree, Set, Allocate, Call, CallPointer, If, Return, FunctionTree, ProgramTree}
use Rattle.vf_tree.specs.Core as core
use Rattle.vf_model.specs.declared.words.Event.{Event}
use Rattle.vf_model.specs.declared.words.FaultKind.TheVariants as faults
use Rattle.vf_model.specs.declared.words.Outcome.TheVariants as outcomes
use Rattle.vf_model.specs.Integers.{arithmetic}
use Rattle.vf_model.specs.Calls.{byte_of}
use Rattle.vf_model.specs.PreludeFunctions.{run_signature}
use Rattle.std.specs.FinMap as map
use Rattle.std.specs.Cmp.{nat_cmp_total}
use Rattle.vf_model.specs.Values as values
use Rattle.vf_model.specs.Memory.{Memory, Struct, Ints, Mutex, Cell, block_at}
use Rattle.vf_model.specs.State.{Frame, State}
use Rattle.vf_model.specs.Acts.{Touch, Faults}
use Rattle.vf_model.specs.Steps.{next_act}
use Rattle.vf_model.specs.Races.{next_touch, TouchesCell, Race}
use Rattle.vf_model.specs.Runs.{after, reach, outcome_of}

at : ℕ → ℕ → Place
at line column = record { file = 0; line = line; column = column }

by_thread : ℕ → Event
by_thread t = record { thread = t; grant = 1 }

denied : ℕ → Event
denied t = record { thread = t; grant = 0 }

main_of : List TypeTree → List StepTree → FunctionTree
main_of locals steps = record {
  identity = codes "one.c#main";
  signature = record { result = Integer types.Int; parameters = [] };
  locals = locals;
  steps = steps;
  closing = at 9 1;
}

-- x = 3; x = x + n; return x;
sums : ℤ → ProgramTree
sums n = record {
  functions = main_of (Integer types.Int ∷ [])
      (Set 0 (core.Number (pos 3)) 1
      ∷ Set 0 (core.Arithmetic Add types.Int (core.Read 0 (at 6 7)) (core.Number n) (at 6 9)) 2
      ∷ Return (Some (core.Read 0 (at 7 10))) ∷ []) ∷ [];
  structs = [];
  main = 0;
}

three_steps : outcome_of (sums (pos 4)) (reach (sums (pos 4)) (by_thread 0 ∷ by_thread 0 ∷ by_thread 0 ∷ by_thread 0 ∷ [])) ≡ outcomes.Returned (pos 7)
unfolding sums main_of at by_thread
three_steps = refl

two_steps : outcome_of (sums (pos 4)) (reach (sums (pos 4)) (by_thread 0 ∷ by_thread 1 ∷ by_thread 0 ∷ [])) ≡ outcomes.Running
unfolding sums main_of at by_thread
two_steps = refl

too_large : outcome_of (sums (pos 2147483645)) (reach (sums (pos 2147483645)) (by_thread 0 ∷ by_thread 0 ∷ [])) ≡ outcomes.Fault faults.Range (at 6 9)
unfolding sums main_of at by_thread
too_large = refl

large_enough : outcome_of (sums (pos 2147483644)) (reach (sums (pos 2147483644)) (by_thread 0 ∷ by_thread 0 ∷ by_thread 0 ∷ [])) ≡ outcomes.Returned (pos 2147483647)
unfolding sums main_of at by_thread
large_enough = refl

-- return x; with x unset
unset : ProgramTree
unset = record {
  functions = main_of (Integer types.Int ∷ []) (Return (Some (core.Read 0 (at 3 10))) ∷ []) ∷ [];
  structs = [];
  main = 0;
}

unset_fault : outcome_of unset (reach unset (by_thread 0 ∷ [])) ≡ outcomes.Fault faults.Unset (at 3 10)
unfolding unset main_of at by_thread
unset_fault = refl

-- p = malloc(..); if (p == 0) return 1; owing a value else
allocation : ProgramTree
allocation = record {
  functions = main_of (PointerToVoid ∷ [])
      (Allocate 0 (codes "one.c#s") 1
      ∷ If Equal (core.Read 0 (at 3 7)) core.Null 2 3
      ∷ Return (Some (core.Number (pos 1))) ∷ []) ∷ [];
  structs = [];
  main = 0;
}

denial : outcome_of allocation (reach allocation (denied 0 ∷ by_thread 0 ∷ by_thread 0 ∷ [])) ≡ outcomes.Returned (pos 1)
unfolding allocation main_of at by_thread denied
denial = refl

grant : outcome_of allocation (reach allocation (by_thread 0 ∷ by_thread 0 ∷ by_thread 0 ∷ [])) ≡ outcomes.Fault faults.NoReturn (at 9 1)
unfolding allocation main_of at by_thread denied
grant = refl

-- main starts `run`, which prints -5, calls abort through a pointer of the wrong signature, and then main returns
threads : Signature → ProgramTree
threads want = record {
  functions = main_of [] (Call None (codes "<threading.h>#thread_start") (core.Function (codes "one.c#run") ∷ core.Null ∷ []) (at 3 3) 1 ∷ Return (Some (core.Number (pos 0))) ∷ [])
      ∷ record {
        identity = codes "one.c#run";
        signature = run_signature;
        locals = PointerToVoid ∷ [];
        steps = Call None (codes "<vf_output.h>#print_int") (core.Number (negsuc 4) ∷ []) (at 8 3) 1
            ∷ CallPointer None (core.Function (codes "<stdlib.h>#abort")) want [] (at 9 3) 2 ∷ Return None ∷ [];
        closing = at 10 1;
      } ∷ [];
  structs = [];
  main = 0;
}

printed : (reach (threads run_signature) (by_thread 1 ∷ by_thread 0 ∷ by_thread 1 ∷ [])).output ≡ codes "-5\n"
unfolding threads main_of at by_thread
printed = ap (λ digits. 45 ∷ (digits ++ 10 ∷ [])) (decimal_digit 5 (omega arith))

wrong_pointer : outcome_of (threads run_signature) (reach (threads run_signature) (by_thread 0 ∷ by_thread 1 ∷ by_thread 1 ∷ [])) ≡ outcomes.Fault faults.Pointer (at 9 3)
unfolding threads main_of at by_thread
wrong_pointer = refl

aborted : outcome_of (threads (record { result = Void; parameters = [] })) (reach (threads (record { result = Void; parameters = [] })) (by_thread 0 ∷ by_thread 1 ∷ by_thread 1 ∷ [])) ≡ outcomes.Aborted
unfolding threads main_of at by_thread
aborted = refl

main_returns : outcome_of (threads run_signature) (reach (threads run_signature) (by_thread 0 ∷ by_thread 0 ∷ by_thread 1 ∷ [])) ≡ outcomes.Returned (pos 0)
unfolding threads main_of at by_thread
main_returns = refl

-- division truncates toward zero, the remainder has the sign of the dividend
quotient : arithmetic Divide (negsuc 6) (pos 2) ≡ negsuc 2
quotient = refl

remainder : arithmetic Remainder (negsuc 6) (pos 2) ≡ negsuc 0
remainder = refl

byte : byte_of (negsuc 0) ≡ 255
byte = refl

-- two threads are about to write the field of one struct
writers : ProgramTree
writers = record {
  functions = record {
    identity = codes "one.c#run";
    signature = run_signature;
    locals = PointerToVoid ∷ [];
    steps = core.Store (core.Read 0 (at 3 3)) (record { structure = codes "one.c#s"; index = 0 }) (core.Number (pos 1)) (at 3 4) 1 ∷ [];
    closing = at 4 1;
  } ∷ [];
  structs = record { identity = codes "one.c#s"; fields = Integer types.Int ∷ [] } ∷ [];
  main = 0;
}

writer : Frame
writer = record { function = 0; step = 0; locals = Some (values.Pointer 1 (pos 0)) ∷ []; target = None }

writing : Memory → State
writing m = record { memory = m; threads = (writer ∷ []) ∷ (writer ∷ []) ∷ []; output = []; end = None }

write_touch : Touch
write_touch = record { block = 1; cell = Some 0; writes = true; place = at 3 4 }

write_cell : Cell
write_cell = record { block = 1; index = 0 }

writes_touch : (m : Memory) → block_at m 1 ≡ Some (Struct (codes "one.c#s") (None ∷ [])) → (next_touch writers (writing m) 0 ≡ Some write_touch) × (next_touch writers (writing m) 1 ≡ Some write_touch)
unfolding writers writer writing write_touch at
writes_touch m h = (rw h refl, rw h refl)

cell_touched : (m : Memory) → block_at m 1 ≡ Some (Struct (codes "one.c#s") (None ∷ [])) → TouchesCell m write_touch write_cell
unfolding write_touch write_cell
cell_touched m h = record { there = rw h (omega arith); block = refl; covered = refl }

writers_race : (m : Memory) → block_at m 1 ≡ Some (Struct (codes "one.c#s") (None ∷ [])) → Race writers (writing m)
unfolding writing write_touch
writers_race m h = record {
  first = 0;
  second = 1;
  different = λ e. absurd (omega arith);
  first_touch = write_touch;
  second_touch = write_touch;
  first_touches = (writes_touch m h).0;
  second_touches = (writes_touch m h).1;
  cell = write_cell;
  by_first = cell_touched m h;
  by_second = cell_touched m h;
  writes = refl;
}

-- a null pointer has no cell, and neither thread may step onto it
no_cell : (m : Memory) → block_at m 1 ≡ None → next_act writers (writing m) 1 ≡ Faults faults.Access (at 3 4)
unfolding writers writer writing at
no_cell m h = rw h refl

-- one thread wants a mutex
locker : ProgramTree
locker = record {
  functions = record {
    identity = codes "one.c#run";
    signature = run_signature;
    locals = PointerToVoid ∷ [];
    steps = Call None (codes "<threading.h>#mutex_acquire") (core.Read 0 (at 3 3) ∷ []) (at 3 3) 1 ∷ [];
    closing = at 4 1;
  } ∷ [];
  structs = [];
  main = 0;
}

-- it waits while the mutex is held, by itself too
waits : (m : Memory) (holder : ℕ) → block_at m 1 ≡ Some (Mutex (Some holder)) → outcome_of locker (record (writing m) { threads = (writer ∷ []) ∷ [] }) ≡ outcomes.Blocked
unfolding locker writer writing at
waits m holder h = rw h refl

-- and else holds it
locks : (m : Memory) → block_at m 1 ≡ Some (Mutex None) → block_at (after locker (record (writing m) { threads = (writer ∷ []) ∷ [] }) (by_thread 0)).memory 1 ≡ Some (Mutex (Some 0))
unfolding locker writer writing at by_thread
locks m h = rw h (map.get-insert nat_cmp_total m 1 (Mutex (Some 0)) 1)

-- an array of two ints, the first set
array_step : StepTree → ProgramTree
array_step step = record {
  functions = record { identity = codes "one.c#run"; signature = run_signature; locals = PointerToVoid ∷ []; steps = step ∷ []; closing = at 4 1 } ∷ [];
  structs = [];
  main = 0;
}

IsArray : Memory → Type 0
IsArray m = block_at m 1 ≡ Some (Ints (Some (values.Number (pos 7)) ∷ None ∷ []))

read_at : ℤ → StepTree
read_at i = core.LoadAt 0 (core.Read 0 (at 3 3)) (core.Number i) (at 3 4) 1

past_end : (m : Memory) → IsArray m → next_act (array_step (read_at (pos 2))) (writing m) 0 ≡ Faults faults.Access (at 3 4)
unfolding array_step read_at IsArray writer writing at
past_end m h = rw h refl

before_begin : (m : Memory) → IsArray m → next_act (array_step (read_at (negsuc 0))) (writing m) 0 ≡ Faults faults.Access (at 3 4)
unfolding array_step read_at IsArray writer writing at
before_begin m h = refl

holds_nothing : (m : Memory) → IsArray m → next_act (array_step (read_at (pos 1))) (writing m) 0 ≡ Faults faults.Unset (at 3 4)
unfolding array_step read_at IsArray writer writing at
holds_nothing m h = rw (h, h) refl

holds_seven : (m : Memory) → IsArray m → next_touch (array_step (read_at (pos 0))) (writing m) 0 ≡ Some (record { block = 1; cell = Some 0; writes = false; place = at 3 4 })
unfolding array_step read_at IsArray writer writing at
holds_seven m h = rw (h, h) refl

-- the place past the last cell may be pointed to, and no other outside
one_past : (m : Memory) → IsArray m → next_act (array_step (core.Offset 0 (core.Read 0 (at 3 3)) (core.Number (pos 3)) (at 3 4) 1)) (writing m) 0 ≡ Faults faults.Access (at 3 4)
unfolding array_step read_at IsArray writer writing at
one_past m h = rw h refl

freed : (m : Memory) → IsArray m → next_touch (array_step (core.FreeInts (core.Read 0 (at 3 3)) (at 3 4) 1)) (writing m) 0 ≡ Some (record { block = 1; cell = None; writes = true; place = at 3 4 })
unfolding array_step read_at IsArray writer writing at
freed m h = rw h refl

not_that_struct : (m : Memory) → IsArray m → next_act (array_step (core.Free (core.Read 0 (at 3 3)) (codes "one.c#s") (at 3 4) 1)) (writing m) 0 ≡ Faults faults.Free (at 3 4)
unfolding array_step read_at IsArray writer writing at
not_that_struct m h = rw h refl
