-- The functions that programs call and no program has a body of: those of <stdlib.h>, <stdio.h>, <vf_output.h> and <threading.h>.
-- (malloc and free are core steps of their own.)
use Rattle.std.specs.Prelude.{List, [], ◌∷◌, Option, codes}
use Rattle.std.specs.List.{find}
use Rattle.vf_base.specs.declared.int_type.IntType.TheVariants as types
use Rattle.vf_tree.specs.Core.{Identity, TypeTree, Void, Integer, PointerToVoid, PointerToStruct, Signature}
use Rattle.vf_model.specs.Values.{same_identity}

-- each of them
pub data PreludeFunction : Type 0 where
  Abort PutChar PrintInt ThreadStart ThreadStartJoinable ThreadJoin CreateMutex MutexAcquire MutexRelease MutexDispose : PreludeFunction

-- what names a prelude function in every unit
abbrev pub identity_of : PreludeFunction → Identity
identity_of Abort = codes "<stdlib.h>#abort"
identity_of PutChar = codes "<stdio.h>#putchar"
identity_of PrintInt = codes "<vf_output.h>#print_int"
identity_of ThreadStart = codes "<threading.h>#thread_start"
identity_of ThreadStartJoinable = codes "<threading.h>#thread_start_joinable"
identity_of ThreadJoin = codes "<threading.h>#thread_join"
identity_of CreateMutex = codes "<threading.h>#create_mutex"
identity_of MutexAcquire = codes "<threading.h>#mutex_acquire"
identity_of MutexRelease = codes "<threading.h>#mutex_release"
identity_of MutexDispose = codes "<threading.h>#mutex_dispose"

-- all of them in a list
abbrev pub prelude_functions : List PreludeFunction
prelude_functions =
    Abort ∷ PutChar ∷ PrintInt ∷ ThreadStart ∷ ThreadStartJoinable ∷ ThreadJoin ∷ CreateMutex ∷ MutexAcquire ∷ MutexRelease ∷ MutexDispose ∷ []

-- the prelude function of an identity
abbrev pub prelude_named : Identity → Option PreludeFunction
prelude_named g = find (λ f. same_identity (identity_of f) g) prelude_functions

-- struct mutex *
abbrev pub pointer_to_mutex : TypeTree
pointer_to_mutex = PointerToStruct (codes "<threading.h>#mutex")

-- struct thread *
abbrev pub pointer_to_thread : TypeTree
pointer_to_thread = PointerToStruct (codes "<threading.h>#thread")

-- a signature by its parts
abbrev pub taking : TypeTree → List TypeTree → Signature
taking result parameters = record { result = result; parameters = parameters }

-- the signature of a prelude function
abbrev pub signature_of : PreludeFunction → Signature
signature_of Abort = taking Void []
signature_of PutChar = taking (Integer types.Int) (Integer types.Int ∷ [])
signature_of PrintInt = taking Void (Integer types.Int ∷ [])
signature_of ThreadStart = taking Void (PointerToVoid ∷ PointerToVoid ∷ [])
signature_of ThreadStartJoinable = taking pointer_to_thread (PointerToVoid ∷ PointerToVoid ∷ [])
signature_of ThreadJoin = taking Void (pointer_to_thread ∷ [])
signature_of CreateMutex = taking pointer_to_mutex []
signature_of MutexAcquire = taking Void (pointer_to_mutex ∷ [])
signature_of MutexRelease = taking Void (pointer_to_mutex ∷ [])
signature_of MutexDispose = taking Void (pointer_to_mutex ∷ [])

-- the signature of a function that a thread is started in: void run(void *data)
abbrev pub run_signature : Signature
run_signature = taking Void (PointerToVoid ∷ [])
