-- `assert` and a ghost `if` among a body's annotations. Each law is the contract of a public function with an empty body.
use Rattle.std.specs.Prelude.{ℕ, List}
use Rattle.vf_tree.specs.Core.{FunctionTree, ProgramTree}
use Rattle.vf_meaning.specs.Ghost.{Sort, Not}
use Rattle.vf_meaning.specs.Assertions.{Assertion, Both, Choose, Switch, ContractTree, Environment}
use Rattle.vf_rules.specs.Terms.{Term, Store}
use Rattle.vf_rules.specs.States.{Holds, SymbolicState, assuming, with_chunks}
use Rattle.vf_rules.specs.Consume.{Consume}
use Rattle.vf_rules.specs.Laws.{Outcome, IsAmong}
use Rattle.vf_rules.specs.Loops.{Loop}
use Rattle.vf_rules.specs.Accept.{all_of_it, Accepts}

-- an assertion has no switch part
abbrev pub HasNoCases : Assertion → Type 0
HasNoCases (Both a b) = HasNoCases a × HasNoCases b
HasNoCases (Choose x a b) = HasNoCases a × HasNoCases b
HasNoCases (Switch x _) = ⊥
HasNoCases _ = Unit {0}

-- `assert`: where an assertion is consumed, and the body is accepted from each state that is left with the chunks that were there before, the body is accepted; facts and names stay
abbrev pub AssertingIsAccepted : Type 0
AssertingIsAccepted =
    (e : Environment) (p : ProgramTree) (f : FunctionTree) (k : ContractTree) (now soon : List Loop) (n : ℕ) (st : SymbolicState) (sorts : List Sort) (a : Assertion) (s : Store) (outs : List Outcome)
    → HasNoCases a → Consume e p sorts all_of_it a s st (IsAmong outs) → ((r : Store) (su : SymbolicState) → IsAmong outs r su → Accepts e p f k now soon n (with_chunks su st.chunks)) → Accepts e p f k now soon n st

-- a ghost `if`: where the body is accepted with the condition assumed, and with its negation, it is accepted
abbrev pub ChoosingIsAccepted : Type 0
ChoosingIsAccepted =
    (e : Environment) (p : ProgramTree) (f : FunctionTree) (k : ContractTree) (now soon : List Loop) (n : ℕ) (st : SymbolicState) (t : Term)
    → Accepts e p f k now soon n (assuming st (Holds t)) → Accepts e p f k now soon n (assuming st (Holds (Not t))) → Accepts e p f k now soon n st
