-- Examples of the laws: a function that halves a number, a switch over an option in a program of two units, and a chunk of a predicate value.
use Rattle.std.specs.Prelude.{pos, true, false, cond, List, [], ◌∷◌, Option, Some, None, codes}
use Rattle.vf_base.specs.declared.place.Place.{Place}
use Rattle.vf_base.specs.declared.int_type.IntType.TheVariants as types
use Rattle.vf_tree.specs.Core.{Identity, Integer, Divide, ExpressionTree, Read, StepTree, Set, Return, FunctionTree, ProgramTree, LessEqual}
use Rattle.vf_tree.specs.Core as core
use Rattle.vf_model.specs.Values.{same_identity}
use Rattle.vf_meaning.specs.Fractions.{whole}
use Rattle.vf_meaning.specs.Ghost.{Sort, Integers, Datatype, none, Numbered, Truth, Number, Fraction, Arithmetic, PredicateValue, no_expressions, Compare, ConstructorTree}
use Rattle.vf_meaning.specs.Assertions.{Applied, Pure, Empty, Branches, no_branches, branch, ContractTree, Environment}
use Rattle.vf_meaning.specs.Environments.{IsLinked}
use Rattle.vf_rules.specs.Terms.{Term}
use Rattle.vf_rules.specs.States.{Holds, OfSort, Of, SymbolicChunk, SymbolicState, Shows}
use Rattle.vf_rules.specs.Fresh.{symbol}
use Rattle.vf_rules.specs.Produce.{Covers}
use Rattle.vf_rules.specs.Take.{same, Renames}
use Rattle.vf_rules.specs.Consume.{EntailsAll}
use Rattle.vf_rules.specs.Evaluate.{Evaluates}
use Rattle.vf_rules.specs.Arrays.{row_chunk}
use Rattle.vf_rules.specs.Accept.{with_local, facts_of_result, beginning, Accepts}
use Rattle.vf_rules.specs.Ranges.{IsTypedState}
use Rattle.vf_rule_laws.specs.Typing.{IsTypedFunction}
use Rattle.vf_rule_laws.specs.Asked.{EvaluatesAsking}
use Rattle.vf_rule_laws.specs.Leading.{StepLeads}
use Rattle.vf_rule_laws.specs.SortedTerms.{IsOfSort}
use Rattle.vf_rule_laws.specs.TypedLaws.{kinds_of}
use Rattle.vf_rule_laws.specs.Derivations.{Each, HasTypedOutcomes}
use Rattle.vf_rule_laws.specs.Covering.{HasEachConstructor, DeclaresDatatype}

-- ---- a function
-- the place of all of its steps
abbrev pub somewhere : Place
somewhere = record { file = 0; line = 1; column = 1 }

-- `x / 2`
abbrev pub half : ExpressionTree
half = core.Arithmetic Divide types.Int (Read 0 somewhere) (core.Number (pos 2)) somewhere

-- `int y = x / 2; return y;`
abbrev pub half_steps : List StepTree
half_steps = Set 1 half 1 ∷ Return (Some (Read 1 somewhere)) ∷ []

-- `int half(int x)`
abbrev pub half_function : FunctionTree
half_function = record {
  identity = codes "half.c#half";
  signature = record { result = Integer types.Int; parameters = Integer types.Int ∷ [] };
  locals = Integer types.Int ∷ Integer types.Int ∷ [];
  steps = half_steps;
  closing = somewhere;
}

-- a program of that function alone
abbrev pub half_program : ProgramTree
half_program = record { functions = half_function ∷ []; structs = []; main = 0 }

-- `requires true; ensures true;`
abbrev pub half_contract : ContractTree
half_contract = record { sorts = Integers ∷ []; parameters = 1; result = Some Integers; requires_this = Pure (Truth true); ensures_this = Pure (Truth true) }

-- an environment with constructors alone
abbrev pub with_constructors : (Identity → Option ConstructorTree) → Environment
with_constructors constructors = record {
  constructors = constructors;
  fixpoints = [];
  claims = λ g t. false;
  predicates = λ q. None;
  bodies = λ b. None;
  functions = λ g. None;
  prototypes = λ g. None;
  types = λ t. None;
  called = λ g n. None;
  leaks = λ text. false;
  calls = λ text g. false;
}

-- nothing is declared
abbrev pub plain : Environment
plain = with_constructors (λ c. None)

-- the term of the half
abbrev pub half_term : Term
half_term = Arithmetic Divide (symbol 0) (Number (pos 2))

-- the state in which the body begins
abbrev pub begun : SymbolicState
begun = beginning half_function half_contract

-- the function keeps to types, and its body begins in a typed state; of the half only the divisor is asked; the step leads to a state that is typed again, what is returned there is in range, and each state of the derivation by which the body is accepted is typed
pub record HalfIsTyped : Type 0 where
  pub function : IsTypedFunction half_program half_function
  pub begins : IsTypedState plain half_program half_function.locals (kinds_of half_contract.sorts 1) begun
  pub asked : EvaluatesAsking plain begun.path half_function.locals begun.locals half half_term
  pub evaluates : Evaluates plain begun.path begun.locals half half_term
  pub leads : StepLeads plain half_program half_function 0 begun 1 (with_local begun 1 half_term)
  pub behind : IsTypedState plain half_program half_function.locals (kinds_of half_contract.sorts 1) (with_local begun 1 half_term)
  pub returned : EntailsAll plain begun.path (facts_of_result (Integer types.Int) half_term)
  pub accepted : Accepts plain half_program half_function half_contract [] [] 0 begun
  pub everywhere : (d : Accepts plain half_program half_function half_contract [] [] 0 begun)
      × Each plain half_program half_function half_contract (IsTypedState plain half_program half_function.locals (kinds_of half_contract.sorts 1)) (HasTypedOutcomes plain half_program half_function (kinds_of half_contract.sorts 1)) d
  pub sorted : IsOfSort plain (kinds_of half_contract.sorts 1) half_term Integers

-- ---- a switch
-- `inductive option = nothing | just(int);`
abbrev pub option_name : Identity
option_name = codes "option.h#option"

abbrev pub nothing_name : Identity
nothing_name = codes "option.h#nothing"

abbrev pub just_name : Identity
just_name = codes "option.h#just"

abbrev pub nothing_tree : ConstructorTree
nothing_tree = record { datatype = option_name; parameters = 0; arguments = [] }

abbrev pub just_tree : ConstructorTree
just_tree = record { datatype = option_name; parameters = 0; arguments = Integers ∷ [] }

-- a unit that declares it
abbrev pub options : Environment
options = with_constructors (λ c. cond (same_identity nothing_name c) (Some nothing_tree) (cond (same_identity just_name c) (Some just_tree) None))

-- that unit, and one that declares nothing
abbrev pub two_units : List Environment
two_units = options ∷ plain ∷ []

-- `case nothing: return emp; case just(n): return emp;`
abbrev pub option_branches : Branches
option_branches = branch nothing_name [] Empty (branch just_name (Numbered 0 ∷ []) Empty no_branches)

-- the sorts of the names: that of n
abbrev pub option_sorts : List Sort
option_sorts = Integers ∷ []

-- the two units have a linked environment, the branches have each constructor in the one that declares the datatype, and so they cover where both are linked
pub record OptionsAreCovered : Type 0 where
  pub linked : IsLinked two_units options
  pub declared : DeclaresDatatype options option_name
  pub each : HasEachConstructor options option_sorts option_name none option_branches
  pub covered : Covers options option_sorts (OfSort (symbol 1) (Datatype option_name none) ∷ []) (symbol 1) option_branches

-- ---- a chunk of a predicate value
-- `p(a, n, _)`
abbrev pub valued_chunk : SymbolicChunk
valued_chunk = record { share = Fraction whole; head = Of (Applied (symbol 0)); arguments = Some (symbol 1) ∷ Some (symbol 2) ∷ None ∷ [] }

-- the state with that chunk, in which `p == ints` is known
abbrev pub valued_state : SymbolicState
valued_state = record {
  locals = [];
  names = λ x. None;
  chunks = valued_chunk ∷ [];
  path = same (symbol 0) (PredicateValue (codes "<vf_arrays.h>#ints") no_expressions) ∷ [];
}

-- the chunk is that of a row, and so the state shows that n is not negative
pub record ValuedRowIsSeen : Type 0 where
  pub renames : Renames plain valued_state.path valued_chunk (row_chunk (symbol 1) (symbol 2) None)
  pub shown : Shows plain valued_state (Holds (Compare LessEqual (Number (pos 0)) (symbol 2)))
