-- What a unit declares: the environment in which its assertions mean something.
use Rattle.std.specs.Prelude.{false, true, cond, [], slice_get, Option, Some, None}
use Rattle.vf_tree.specs.Core.{Identity, Equal}
use Rattle.vf_tree.specs.declared.unit.Pure.{Pure}
use Rattle.vf_tree.specs.declared.unit.Pure.TheVariants as parts
use Rattle.vf_tree.specs.declared.unit.Contract.{Contract}
use Rattle.vf_tree.specs.declared.unit.Function.{Function}
use Rattle.vf_tree.specs.declared.unit.Core.{Core}
use Rattle.vf_model.specs.Values.{same_identity}
use Rattle.vf_meaning.specs.Ghost.{Integers, Variable, Result, Number, Truth, Compare}
use Rattle.vf_meaning.specs.Assertions.{Assertion, ContractTree, Environment}
use Rattle.vf_meaning.specs.Assertions as assertions

-- what a pure part says: `true`, or that the result is a number
abbrev pub assertion_of : Pure → Assertion
assertion_of (parts.True place) = assertions.Pure (Truth true)
assertion_of (parts.ResultIs n place) = assertions.Pure (Compare Equal (Variable Result) (Number n))

-- a contract of a function without parameters that returns an int
abbrev pub contract_of : Contract → ContractTree
contract_of c = record {
  sorts = [];
  parameters = 0;
  result = Some Integers;
  requires_this = assertion_of c.precondition;
  ensures_this = assertion_of c.postcondition;
}

-- main's contract by main's identity; no other function has one
abbrev pub main_contract : ContractTree → Option Function → Identity → Option ContractTree
main_contract contract None g = None
main_contract contract (Some f) g = cond (same_identity g f.identity) (Some contract) None

-- the environment of a unit of this form: main has its contract, and nothing else is declared
abbrev pub environment_of : Core → Environment
environment_of core = record {
  constructors = λ c. None;
  fixpoints = [];
  claims = λ g t. false;
  predicates = λ q. None;
  bodies = λ b. None;
  functions = main_contract (contract_of core.contract) (slice_get core.plain.functions core.plain.main);
  prototypes = λ g. None;
  types = λ t. None;
  called = λ g n. None;
  leaks = λ text. false;
  calls = λ text g. false;
}
