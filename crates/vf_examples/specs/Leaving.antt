-- A program that allocates a struct and leaks it.
use Rattle.std.specs.Prelude.{pos, [], ◌∷◌, Some}
use Rattle.vf_base.specs.declared.int_type.IntType.TheVariants as types
use Rattle.vf_tree.specs.Core.{Integer, PointerToStruct, Read, Number, Null, Equal, Allocate, If, Return, FunctionTree, ProgramTree}
use Rattle.vf_meaning.specs.Assertions.{BlockOf, Is, Wild, Assertion, Both, Cell, Chunk, Environment}
use Rattle.vf_rules.specs.Mutexes.{full, name}
use Rattle.vf_safety.specs.Laws.{IsAcceptedProgram}
use Rattle.vf_examples.specs.BoxProgram.{somewhere, main_name, box_name, content, only_before, box_environment}

-- `struct box *p = malloc(sizeof(struct box)); if (p == 0) return 7; /*@ leak p->content |-> _ &*& malloc_block_box(p); @*/ return 7;`
abbrev pub leaving_main : FunctionTree
leaving_main = record {
  identity = main_name;
  signature = record { result = Integer types.Int; parameters = [] };
  locals = PointerToStruct box_name ∷ [];
  steps = Allocate 0 box_name 1
      ∷ If Equal (Read 0 somewhere) Null 3 2
      ∷ Return (Some (Number (pos 7)))
      ∷ Return (Some (Number (pos 7)))
      ∷ [];
  closing = somewhere;
}

-- the program of the example
abbrev pub leaving_program : ProgramTree
leaving_program = record { functions = leaving_main ∷ []; structs = record { identity = box_name; fields = Integer types.Int ∷ [] } ∷ []; main = 0 }

-- `p->content |-> _ &*& malloc_block_box(p)`, in which `p` has number 0
abbrev pub what_is_left : Assertion
what_is_left = Both (Cell full (name 0) content Wild) (Chunk full (BlockOf box_name) (Is (name 0) ∷ []))

-- a leak stands before the first of the two returns, and all else is declared as in the program that frees its struct
abbrev pub leaving_environment : Environment
leaving_environment = record box_environment { leaks = only_before main_name 2 }

-- the example is accepted, and where no leak stands it is not
pub record LeavingIsAccepted : Type 0 where
  pub accepted : IsAcceptedProgram leaving_environment leaving_program
  pub unleaked_refused : IsAcceptedProgram box_environment leaving_program → ⊥
