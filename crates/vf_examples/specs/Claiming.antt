-- A program of which three functions claim function types: one knows its length from the row that the type has, one names what the type leaves open, and one finds its cell by a disjunction.
use Rattle.std.specs.Prelude.{ℕ, Bool, pos, true, false, cond, ◌&&◌, List, [], ◌∷◌, Option, Some, None, codes}
use Rattle.vf_base.specs.declared.int_type.IntType.TheVariants as types
use Rattle.vf_tree.specs.Core.{Identity, Field, TypeTree, Integer, PointerToInt, PointerToStruct, Equal, LessEqual, Read, StepTree, Load, Return, FunctionTree, ProgramTree}
use Rattle.vf_tree.specs.Core as core
use Rattle.vf_model.specs.Values.{same_identity}
use Rattle.vf_meaning.specs.Ghost.{Sort, Integers, Pointers, Datatype, none, Numbered, Result, ConstructorTree, GhostExpression, Variable, Number, Compare, Or}
use Rattle.vf_meaning.specs.Assertions.{PatternTree, Is, Names, Wild, Named, Assertion, Pure, Both, Cell, Chunk, BodyName, Plain, Instance, BodyTree, ContractTree, Environment}
use Rattle.vf_rules.specs.Mutexes.{full, name}
use Rattle.vf_safety.specs.Laws.{IsAcceptedProgram}
use Rattle.vf_examples.specs.BoxProgram.{somewhere, main_name, box_contract}

-- the identity of a struct with one field of type int
abbrev pub account_struct : Identity
account_struct = codes "one.c#account"

-- its field
abbrev pub balance : Field
balance = record { structure = account_struct; index = 0 }

-- the identity of a predicate over such a struct and what its field holds
abbrev pub account : Identity
account = codes "one.c#account"

-- the identity of the prelude's predicate of rows of int cells
abbrev pub ints : Identity
ints = codes "<vf_arrays.h>#ints"

-- the identity of the prelude's datatype of lists of numbers
abbrev pub ints_list : Identity
ints_list = codes "<vf_arrays.h>#ints_list"

-- the identities of the three functions
abbrev pub count_name : Identity
count_name = codes "one.c#count"

abbrev pub audit_name : Identity
audit_name = codes "one.c#audit"

abbrev pub read_name : Identity
read_name = codes "one.c#read"

-- and of their function types
abbrev pub counter_type : Identity
counter_type = codes "one.c#counter"

abbrev pub auditor_type : Identity
auditor_type = codes "one.c#auditor"

abbrev pub reader_type : Identity
reader_type = codes "one.c#reader"

-- a function that returns an int
abbrev pub returns_int : Identity → List TypeTree → List TypeTree → List StepTree → FunctionTree
returns_int g parameters others steps = record { identity = g; signature = record { result = Integer types.Int; parameters = parameters }; locals = others; steps = steps; closing = somewhere }

-- `int count(int *p, int n) { return n; }`
abbrev pub count : FunctionTree
count = returns_int count_name (PointerToInt ∷ Integer types.Int ∷ []) (PointerToInt ∷ Integer types.Int ∷ []) (Return (Some (Read 1 somewhere)) ∷ [])

-- `int audit(struct account *a) { return 7; }`
abbrev pub audit : FunctionTree
audit = returns_int audit_name (PointerToStruct account_struct ∷ []) (PointerToStruct account_struct ∷ []) (Return (Some (core.Number (pos 7))) ∷ [])

-- a pointer to the struct
abbrev pub account_pointer : TypeTree
account_pointer = PointerToStruct account_struct

-- `int read(struct account *z, struct account *a, struct account *b) { int r = z->balance; return r; }`
abbrev pub read : FunctionTree
read = returns_int read_name (account_pointer ∷ account_pointer ∷ account_pointer ∷ []) (account_pointer ∷ account_pointer ∷ account_pointer ∷ Integer types.Int ∷ []) (Load 3 (Read 0 somewhere) balance somewhere 1 ∷ Return (Some (Read 3 somewhere)) ∷ [])

-- `return 7;`
abbrev pub claiming_main : FunctionTree
claiming_main = returns_int main_name [] [] (Return (Some (core.Number (pos 7))) ∷ [])

-- the program of the example
abbrev pub claiming_program : ProgramTree
claiming_program = record { functions = claiming_main ∷ count ∷ audit ∷ read ∷ []; structs = record { identity = account_struct; fields = Integer types.Int ∷ [] } ∷ []; main = 0 }

-- a contract of a function that returns an int
abbrev pub int_contract : List Sort → ℕ → Assertion → Assertion → ContractTree
int_contract sorts parameters before after = record { sorts = sorts; parameters = parameters; result = Some Integers; requires_this = before; ensures_this = after }

-- `0 <= x`
abbrev pub not_negative : GhostExpression → GhostExpression
not_negative x = Compare LessEqual (Number (pos 0)) x

-- `requires 0 <= n; ensures 0 <= result;`
abbrev pub count_contract : ContractTree
count_contract = int_contract (Pointers ∷ Integers ∷ []) 2 (Pure (not_negative (name 1))) (Pure (not_negative (Variable Result)))

-- `ints(p, n, v)`, with a pattern for v
abbrev pub row : PatternTree → Assertion
row v = Chunk full (Named ints) (Is (name 0) ∷ Is (name 1) ∷ v ∷ [])

-- the type of the first: `requires ints(p, n, ?v); ensures ints(p, n, v) &*& 0 <= result;`
abbrev pub counter_contract : ContractTree
counter_contract = int_contract (Pointers ∷ Integers ∷ Datatype ints_list none ∷ []) 2 (row (Names (Numbered 2))) (Both (row (Is (name 2))) (Pure (not_negative (Variable Result))))

-- `account(a, b)`, with a pattern for b
abbrev pub holds_of : PatternTree → Assertion
holds_of b = Chunk full (Named account) (Is (name 0) ∷ b ∷ [])

-- `requires account(a, ?b); ensures account(a, b);`
abbrev pub audit_contract : ContractTree
audit_contract = int_contract (Pointers ∷ Integers ∷ []) 1 (holds_of (Names (Numbered 1))) (holds_of (Is (name 1)))

-- the type of the second: `requires account(a, _); ensures account(a, _);`
abbrev pub auditor_contract : ContractTree
auditor_contract = int_contract (Pointers ∷ []) 1 (holds_of Wild) (holds_of Wild)

-- `requires z->balance |-> ?x; ensures z->balance |-> x;`
abbrev pub read_contract : ContractTree
read_contract = int_contract (Pointers ∷ Pointers ∷ Pointers ∷ Integers ∷ []) 3 (Cell full (name 0) balance (Names (Numbered 3))) (Cell full (name 0) balance (Is (name 3)))

-- `z == a || z == b`
abbrev pub one_of_both : GhostExpression
one_of_both = Or (Compare Equal (name 0) (name 1)) (Compare Equal (name 0) (name 2))

-- the type of the third: `requires (z == a || z == b) &*& a->balance |-> ?x &*& b->balance |-> ?y; ensures a->balance |-> x &*& b->balance |-> y;`
abbrev pub reader_contract : ContractTree
reader_contract = int_contract (Pointers ∷ Pointers ∷ Pointers ∷ Integers ∷ Integers ∷ []) 3
    (Both (Pure one_of_both) (Both (Cell full (name 1) balance (Names (Numbered 3))) (Cell full (name 2) balance (Names (Numbered 4)))))
    (Both (Cell full (name 1) balance (Is (name 3))) (Cell full (name 2) balance (Is (name 4))))

-- `predicate account(struct account *a, int b) = a->balance |-> b;`
abbrev pub account_body : BodyTree
account_body = record { sorts = Pointers ∷ Integers ∷ []; parameters = 2; assertion = Cell full (name 0) balance (Is (name 1)) }

-- its body
abbrev pub claiming_bodies : BodyName → Option BodyTree
claiming_bodies (Plain q) = cond (same_identity q account) (Some account_body) None
claiming_bodies (Instance q g) = None

-- the identities of the constructors of lists of numbers
abbrev pub ints_nil : Identity
ints_nil = codes "<vf_arrays.h>#ints_nil"

abbrev pub ints_cons : Identity
ints_cons = codes "<vf_arrays.h>#ints_cons"

-- `inductive ints_list = ints_nil | ints_cons(int, ints_list);`
abbrev pub claiming_constructors : Identity → Option ConstructorTree
claiming_constructors c =
    cond (same_identity c ints_nil) (Some (record { datatype = ints_list; parameters = 0; arguments = [] }))
    (cond (same_identity c ints_cons) (Some (record { datatype = ints_list; parameters = 0; arguments = Integers ∷ Datatype ints_list none ∷ [] })) None)

-- a function claims its type
abbrev pub claims_its_type : Identity → Identity → Bool
claims_its_type g t =
    cond (same_identity g count_name && same_identity t counter_type) true
    (cond (same_identity g audit_name && same_identity t auditor_type) true (same_identity g read_name && same_identity t reader_type))

-- the functions have their contracts, and the types theirs
abbrev pub claiming_environment : Environment
claiming_environment = record {
  constructors = claiming_constructors;
  fixpoints = [];
  claims = claims_its_type;
  predicates = λ q. cond (same_identity q account) (Some (record { first = []; others = Pointers ∷ Integers ∷ [] })) None;
  bodies = claiming_bodies;
  functions = λ g. cond (same_identity g count_name) (Some count_contract) (cond (same_identity g audit_name) (Some audit_contract) (cond (same_identity g read_name) (Some read_contract) (Some box_contract)));
  prototypes = λ g. None;
  types = λ t. cond (same_identity t counter_type) (Some counter_contract) (cond (same_identity t auditor_type) (Some auditor_contract) (cond (same_identity t reader_type) (Some reader_contract) None));
  called = λ g n. None;
  leaks = λ text. false;
  calls = λ text g. false;
}

-- the example is accepted: each function keeps the contract of its type, though none is the type's in so many words
abbrev pub ClaimingIsAccepted : Type 0
ClaimingIsAccepted = IsAcceptedProgram claiming_environment claiming_program
