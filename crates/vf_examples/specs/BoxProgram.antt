-- A program that allocates a struct, writes its field, reads it, frees it and returns what it read, with main's contract.
use Rattle.std.specs.Prelude.{ℕ, pos, Bool, true, false, cond, ◌&&◌, nat_eq, List, [], ◌∷◌, Some, None, codes}
use Rattle.vf_base.specs.declared.place.Place.{Place}
use Rattle.vf_base.specs.declared.int_type.IntType.TheVariants as types
use Rattle.vf_tree.specs.Core.{Identity, Field, Integer, PointerToStruct, Read, Number, Null, Equal, StepTree, Load, Store, Allocate, Free, If, Return, FunctionTree, ProgramTree}
use Rattle.vf_model.specs.Values.{same_identity}
use Rattle.vf_meaning.specs.Ghost.{Integers, Variable, Result, Truth, Compare}
use Rattle.vf_meaning.specs.Ghost as ghost
use Rattle.vf_meaning.specs.Assertions.{Pure, ContractTree, GhostText, BeforeStep, BodyOf, Environment}
use Rattle.vf_safety.specs.Laws.{IsAcceptedProgram}

-- the place of all of its steps
abbrev pub somewhere : Place
somewhere = record { file = 0; line = 1; column = 1 }

-- main's identity
abbrev pub main_name : Identity
main_name = codes "one.c#main"

-- the identity of a struct with one field of type int
abbrev pub box_name : Identity
box_name = codes "one.c#box"

-- the field of the struct
abbrev pub content : Field
content = record { structure = box_name; index = 0 }

-- `struct box *p = malloc(sizeof(struct box)); if (p == 0) return 7; p->content = 7; int x = p->content; free(p); return x;`
abbrev pub box_steps : List StepTree
box_steps =
    Allocate 0 box_name 1
    ∷ If Equal (Read 0 somewhere) Null 5 2
    ∷ Store (Read 0 somewhere) content (Number (pos 7)) somewhere 3
    ∷ Load 1 (Read 0 somewhere) content somewhere 4
    ∷ Free (Read 0 somewhere) box_name somewhere 6
    ∷ Return (Some (Number (pos 7)))
    ∷ Return (Some (Read 1 somewhere))
    ∷ []

-- main of the example
abbrev pub box_main : FunctionTree
box_main = record {
  identity = main_name;
  signature = record { result = Integer types.Int; parameters = [] };
  locals = PointerToStruct box_name ∷ Integer types.Int ∷ [];
  steps = box_steps;
  closing = somewhere;
}

-- the program of the example
abbrev pub box_program : ProgramTree
box_program = record { functions = box_main ∷ []; structs = record { identity = box_name; fields = Integer types.Int ∷ [] } ∷ []; main = 0 }

-- `requires true; ensures result == 7;`
abbrev pub box_contract : ContractTree
box_contract = record { sorts = []; parameters = 0; result = Some Integers; requires_this = Pure (Truth true); ensures_this = Pure (Compare Equal (Variable Result) (ghost.Number (pos 7))) }

-- before a step of a function, and nowhere else
abbrev pub only_before : Identity → ℕ → GhostText → Bool
only_before g n (BeforeStep h m) = same_identity h g && nat_eq m n
only_before g n (BodyOf h) = false

-- main has its contract, and nothing else is declared
abbrev pub box_environment : Environment
box_environment = record {
  constructors = λ c. None;
  fixpoints = [];
  claims = λ g t. false;
  predicates = λ q. None;
  bodies = λ b. None;
  functions = λ g. cond (same_identity g main_name) (Some box_contract) None;
  prototypes = λ g. None;
  types = λ t. None;
  called = λ g n. None;
  leaks = λ text. false;
  calls = λ text g. false;
}

-- the example is accepted
abbrev pub BoxIsAccepted : Type 0
BoxIsAccepted = IsAcceptedProgram box_environment box_program
