-- A program with a loop and a call through a pointer, with the contracts of its functions and of the function type.
use Rattle.std.specs.Prelude.{pos, true, false, cond, ◌&&◌, nat_eq, List, [], ◌∷◌, Some, None, codes}
use Rattle.vf_base.specs.declared.int_type.IntType.TheVariants as types
use Rattle.vf_tree.specs.Core.{Identity, Integer, PointerToFunction, Add, Less, Equal, LessEqual, Signature, StepTree, Set, If, CallPointer, Return, FunctionTree, ProgramTree}
use Rattle.vf_tree.specs.Core as core
use Rattle.vf_model.specs.Values.{same_identity}
use Rattle.vf_meaning.specs.Ghost.{Integers, Variable, Numbered, Result, Truth, Compare}
use Rattle.vf_meaning.specs.Ghost as ghost
use Rattle.vf_meaning.specs.Assertions.{Assertion, Pure, ContractTree, Environment}
use Rattle.vf_safety.specs.Laws.{IsAcceptedProgram}
use Rattle.vf_examples.specs.BoxProgram.{somewhere, main_name}

-- the identity of the function that is called through a pointer
abbrev pub seven_name : Identity
seven_name = codes "one.c#seven"

-- the identity of its function type
abbrev pub constant_name : Identity
constant_name = codes "one.c#constant"

-- `int f()`
abbrev pub int_of_nothing : Signature
int_of_nothing = record { result = Integer types.Int; parameters = [] }

-- `return 7;`
abbrev pub seven : FunctionTree
seven = record { identity = seven_name; signature = int_of_nothing; locals = []; steps = Return (Some (core.Number (pos 7))) ∷ []; closing = somewhere }

-- `int i = 0; int x; while (i < 3) { i = i + 1; } constant *f = seven; x = f(); return x;`
abbrev pub counting_steps : List StepTree
counting_steps =
    Set 0 (core.Number (pos 0)) 1
    ∷ If Less (core.Read 0 somewhere) (core.Number (pos 3)) 2 3
    ∷ Set 0 (core.Arithmetic Add types.Int (core.Read 0 somewhere) (core.Number (pos 1)) somewhere) 1
    ∷ Set 2 (core.Function seven_name) 4
    ∷ CallPointer (Some 1) (core.Read 2 somewhere) int_of_nothing [] somewhere 5
    ∷ Return (Some (core.Read 1 somewhere))
    ∷ []

-- main of the example
abbrev pub counting_main : FunctionTree
counting_main = record { identity = main_name; signature = int_of_nothing; locals = Integer types.Int ∷ Integer types.Int ∷ PointerToFunction constant_name ∷ []; steps = counting_steps; closing = somewhere }

-- the program of the example
abbrev pub counting_program : ProgramTree
counting_program = record { functions = counting_main ∷ seven ∷ []; structs = []; main = 0 }

-- `requires true; ensures result == 7;`
abbrev pub seven_contract : ContractTree
seven_contract = record { sorts = []; parameters = 0; result = Some Integers; requires_this = Pure (Truth true); ensures_this = Pure (Compare Equal (Variable Result) (ghost.Number (pos 7))) }

-- `invariant i <= 3;`, in which the local has number 0
abbrev pub at_most_three : Assertion
at_most_three = Pure (Compare LessEqual (Variable (Numbered 0)) (ghost.Number (pos 3)))

-- each function has that contract, and so has the function type, which the function claims
abbrev pub counting_environment : Environment
counting_environment = record {
  constructors = λ c. None;
  fixpoints = [];
  claims = λ g t. same_identity g seven_name && same_identity t constant_name;
  predicates = λ q. None;
  bodies = λ b. None;
  functions = λ g. Some seven_contract;
  prototypes = λ g. None;
  types = λ t. cond (same_identity t constant_name) (Some seven_contract) None;
  called = λ g n. cond (nat_eq n 4) (Some constant_name) None;
  leaks = λ text. false;
  calls = λ text g. false;
}

-- the example is accepted
abbrev pub CountingIsAccepted : Type 0
CountingIsAccepted = IsAcceptedProgram counting_environment counting_program
