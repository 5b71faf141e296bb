-- Two units that share a header: a function and a lemma of the one are called in the other by the contracts of their prototypes, which those of their definitions refine; the header's predicate has its body in the one alone.
use Rattle.std.specs.Prelude.{Bool, pos, false, true, cond, ◌&&◌, nat_eq, List, [], ◌∷◌, Option, Some, None, codes}
use Rattle.vf_base.specs.declared.int_type.IntType.TheVariants as types
use Rattle.vf_tree.specs.Core.{Identity, Signature, Integer, Call, Return, FunctionTree, ProgramTree}
use Rattle.vf_tree.specs.Core as core
use Rattle.vf_model.specs.declared.words.Event.{Event}
use Rattle.vf_model.specs.Values.{same_identity}
use Rattle.vf_meaning.specs.Ghost.{Integers, Variable, Result, Truth, Compare}
use Rattle.vf_meaning.specs.Ghost as ghost
use Rattle.vf_meaning.specs.Assertions.{Named, Assertion, Pure, Empty, Both, Chunk, BodyName, Plain, Instance, BodyTree, PredicateTree, ContractTree, GhostText, BeforeStep, BodyOf, Environment}
use Rattle.vf_rules.specs.Mutexes.{full}
use Rattle.vf_rules.specs.Lemmas.{OnArgument, LemmaTree}
use Rattle.vf_safety.specs.LeakLaws.{KeptUnleaked}
use Rattle.vf_linked.specs.Lemmas.{lemma_under}
use Rattle.vf_linked.specs.Linked.{IsAcceptedLinked}
use Rattle.vf_examples.specs.BoxProgram.{somewhere}

-- ---- the header `done.h`
-- the identity of its predicate
abbrev pub done_name : Identity
done_name = codes "done.h#done"

-- that of its function
abbrev pub seven_name : Identity
seven_name = codes "done.h#seven"

-- and that of its lemma
abbrev pub again_name : Identity
again_name = codes "done.h#again"

-- `done()`
abbrev pub is_done : Assertion
is_done = Chunk full (Named done_name) []

-- `result == 7`
abbrev pub is_seven : Assertion
is_seven = Pure (Compare core.Equal (Variable Result) (ghost.Number (pos 7)))

-- `true`
abbrev pub is_true : Assertion
is_true = Pure (Truth true)

-- `predicate done();`
abbrev pub done_predicate : PredicateTree
done_predicate = record { first = []; others = [] }

-- `int seven(); requires true; ensures done() &*& result == 7;`
abbrev pub seven_prototype : ContractTree
seven_prototype = record { sorts = []; parameters = 0; result = Some Integers; requires_this = is_true; ensures_this = Both is_done is_seven }

-- `lemma void again(); requires done(); ensures done();`
abbrev pub again_prototype : ContractTree
again_prototype = record { sorts = []; parameters = 0; result = None; requires_this = is_done; ensures_this = is_done }

-- ---- the file `one.c`
-- `predicate done() = emp;`
abbrev pub done_body : BodyTree
done_body = record { sorts = []; parameters = 0; assertion = Empty }

-- `requires true; ensures result == 7 &*& done();`, at the definition
abbrev pub seven_own : ContractTree
seven_own = record { sorts = []; parameters = 0; result = Some Integers; requires_this = is_true; ensures_this = Both is_seven is_done }

-- `requires done(); ensures true &*& done();`, at the lemma's definition
abbrev pub again_own : ContractTree
again_own = record { sorts = []; parameters = 0; result = None; requires_this = is_done; ensures_this = Both is_true is_done }

-- `int f()`
abbrev pub int_of_nothing : Signature
int_of_nothing = record { result = Integer types.Int; parameters = [] }

-- `int seven() { /*@ close done(); @*/ return 7; }`
abbrev pub seven : FunctionTree
seven = record { identity = seven_name; signature = int_of_nothing; locals = []; steps = Return (Some (core.Number (pos 7))) ∷ []; closing = somewhere }

-- `lemma void again() { open done(); close done(); }` under the contract of its definition, and under that of its prototype
abbrev pub again : LemmaTree
again = lemma_under again_name again_own (OnArgument 0)

abbrev pub again_seen : LemmaTree
again_seen = lemma_under again_name again_prototype (OnArgument 0)

-- ---- the file `two.c`
-- main's identity
abbrev pub main_name : Identity
main_name = codes "two.c#main"

-- `requires true; ensures done() &*& result == 7;`
abbrev pub main_own : ContractTree
main_own = seven_prototype

-- `int main() { int x = seven(); /*@ again(); @*/ return x; }`
abbrev pub main : FunctionTree
main = record { identity = main_name; signature = int_of_nothing; locals = Integer types.Int ∷ []; steps = Call (Some 0) seven_name [] somewhere 1 ∷ Return (Some (core.Read 0 somewhere)) ∷ []; closing = somewhere }

-- the lemma is called before main's second step
abbrev pub calls_again : GhostText → Identity → Bool
calls_again (BeforeStep g n) lemma = (same_identity g main_name && nat_eq n 1) && same_identity lemma again_name
calls_again (BodyOf g) lemma = false

-- ---- the units
-- what both have by the header, with further bodies, contracts of definitions, and calls of lemmas
abbrev pub beside_header : (BodyName → Option BodyTree) → (Identity → Option ContractTree) → (GhostText → Identity → Bool) → Environment
beside_header bodies functions calls = record {
  constructors = λ c. None;
  fixpoints = [];
  claims = λ g t. false;
  predicates = λ q. cond (same_identity q done_name) (Some done_predicate) None;
  bodies = bodies;
  functions = functions;
  prototypes = λ g. cond (same_identity g seven_name) (Some seven_prototype) (cond (same_identity g again_name) (Some again_prototype) None);
  types = λ t. None;
  called = λ g n. None;
  leaks = λ text. false;
  calls = calls;
}

-- the predicate's body
abbrev pub done_bodies : BodyName → Option BodyTree
done_bodies (Plain q) = cond (same_identity q done_name) (Some done_body) None
done_bodies (Instance q g) = None

-- the contracts at the definitions of the first file, and then others
abbrev pub first_contracts : (Identity → Option ContractTree) → Identity → Option ContractTree
first_contracts others g = cond (same_identity g seven_name) (Some seven_own) (cond (same_identity g again_name) (Some again_own) (others g))

-- that at the definition of the second
abbrev pub main_contracts : Identity → Option ContractTree
main_contracts g = cond (same_identity g main_name) (Some main_own) None

-- the environments of the two units
abbrev pub first_unit : Environment
first_unit = beside_header done_bodies (first_contracts (λ g. None)) (λ text g. false)

abbrev pub second_unit : Environment
second_unit = beside_header (λ b. None) main_contracts calls_again

abbrev pub two_units : List Environment
two_units = first_unit ∷ second_unit ∷ []

-- the linked environment
abbrev pub both_units : Environment
both_units = beside_header done_bodies (first_contracts main_contracts) calls_again

-- the program of both files
abbrev pub two_program : ProgramTree
two_program = record { functions = main ∷ seven ∷ []; structs = []; main = 0 }

-- the units are accepted and linked, and nothing is leaked in any run
pub record TwoUnitsAreAccepted : Type 0 where
  pub accepted : IsAcceptedLinked two_units both_units two_program
  pub unleaked : (events : List Event) → KeptUnleaked both_units two_program events
