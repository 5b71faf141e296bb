-- The rules keep the sorts and ranges of states, from the beginning of a body on, and so need not ask for them. Each law is the contract of a public function with an empty body.
use Rattle.std.specs.Prelude.{◌≡◌, ℕ, List, [], ◌∷◌, length, slice_get, take, Option, Some, None}
use Rattle.vf_base.specs.declared.int_type.IntType.{IntType}
use Rattle.vf_tree.specs.Core.{TypeTree, Divide, Remainder, ExpressionTree, StepTree, FunctionTree, ProgramTree}
use Rattle.vf_meaning.specs.Ghost.{Sort, Arithmetic}
use Rattle.vf_meaning.specs.Assertions.{ContractTree, Environment}
use Rattle.vf_rules.specs.Terms.{Term}
use Rattle.vf_rules.specs.Terms as terms
use Rattle.vf_rules.specs.States.{Fact, OfSort, SymbolicState, Entails, KnowsThread}
use Rattle.vf_rules.specs.Fresh.{symbol}
use Rattle.vf_rules.specs.Types.{facts_of_type}
use Rattle.vf_rules.specs.Produce.{Produce}
use Rattle.vf_rules.specs.Consume.{EntailsAll}
use Rattle.vf_rules.specs.Laws.{Outcome, IsAmong}
use Rattle.vf_rules.specs.Evaluate.{IsInRange, IsDivisor, IsNumber, Evaluates}
use Rattle.vf_rules.specs.Loops.{OfLocal, Changing, Loop, before_invariant, Arrives}
use Rattle.vf_rules.specs.Accept.{all_of_it, call_store, parameter_symbols, beginning}
use Rattle.vf_rules.specs.Claims.{before_claim}
use Rattle.vf_rules.specs.Ranges.{LocalsTyped, SymbolsSorted, IsTypedState}
use Rattle.vf_rule_laws.specs.Typing.{HasType, TakesResult, IsTypedStep, IsTypedFunction}
use Rattle.vf_rule_laws.specs.Asked.{EvaluatesAsking, MeetsTypes}
use Rattle.vf_rule_laws.specs.Leading.{StepLeads, CallComes, GhostLeads, GhostComes}
use Rattle.vf_rule_laws.specs.SortedTerms.{IsOfSort}

-- ---- expressions and terms
-- where the locals are typed, an expression that has a type has a value of that type by its term; and it is enough that ranges and divisors are asked, not that numbers are, nor that a quotient, a remainder or what a conversion keeps is in range
abbrev pub TypedExpressionsEvaluate : Type 0
TypedExpressionsEvaluate =
    (e : Environment) (path : List Fact) (types : List TypeTree) (locals : List (Option Term)) (a : ExpressionTree) (type : TypeTree) (t : Term) → HasType types a type → LocalsTyped e path types locals
    → (EvaluatesAsking e path types locals a t → Evaluates e path locals a t) × (Evaluates e path locals a t → EntailsAll e path (facts_of_type type t))

-- a quotient and a remainder of numbers of a type by a divisor are of that type
abbrev pub QuotientsAreInRange : Type 0
QuotientsAreInRange =
    (e : Environment) (path : List Fact) (ty : IntType) (a b : Term) → IsNumber e path a → IsNumber e path b → IsInRange e path ty a → IsInRange e path ty b → IsDivisor e path ty a b
    → IsInRange e path ty (Arithmetic Divide a b) × IsInRange e path ty (Arithmetic Remainder a b)

-- where symbols have their sorts, and the thread is known to be named by a number, a term that is of a sort has a value of that sort
abbrev pub SortedTermsHaveSorts : Type 0
SortedTermsHaveSorts = (e : Environment) (path : List Fact) (kinds : ℕ → Option Sort) (t : Term) (s : Sort) → SymbolsSorted e path kinds → KnowsThread e path → IsOfSort e kinds t s → Entails e path (OfSort t s)

-- ---- core steps
-- where a function keeps to types, the rule of each of its steps leads from a typed state to typed states
abbrev pub StepsKeepTypes : Type 0
StepsKeepTypes =
    (e : Environment) (p : ProgramTree) (f : FunctionTree) (kinds : ℕ → Option Sort) (n m : ℕ) (st su : SymbolicState) → IsTypedFunction p f → StepLeads e p f n st m su → IsTypedState e p f.locals kinds st → IsTypedState e p f.locals kinds su

-- and in a typed state all that the rule of a step asks of types is so
abbrev pub StepsMeetTypes : Type 0
StepsMeetTypes = (e : Environment) (p : ProgramTree) (f : FunctionTree) (kinds : ℕ → Option Sort) (st : SymbolicState) (step : StepTree) → IsTypedStep p f step → IsTypedState e p f.locals kinds st → MeetsTypes e p f st step

-- Of several outcomes to which a rule leads some are enough, to which it leads too, and each of these is typed
pub record SomeAreTyped (e : Environment) (p : ProgramTree) (types : List TypeTree) (kinds : ℕ → Option Sort) (outs : List Outcome) (Leads : List Outcome → Type 0) : Type 0 where
  pub enough : List Outcome
  pub among : (s : terms.Store) (su : SymbolicState) → IsAmong enough s su → IsAmong outs s su
  pub typed : (s : terms.Store) (su : SymbolicState) → IsAmong enough s su → IsTypedState e p types kinds su
  pub leads : Leads enough

-- a call, of a function or through a pointer, comes from a typed state to typed states, where its result fits into the local that wants it
abbrev pub CallsKeepTypes : Type 0
CallsKeepTypes =
    (e : Environment) (p : ProgramTree) (types : List TypeTree) (kinds : ℕ → Option Sort) (contract : ContractTree) (names : terms.Store) (result : TypeTree) (target : Option ℕ) (st : SymbolicState) (outs : List Outcome)
    → TakesResult types target result → CallComes e p contract names result target st outs → IsTypedState e p types kinds st → SomeAreTyped e p types kinds outs (CallComes e p contract names result target st)

-- ---- annotations
-- a rule of annotations leads from a typed state to a typed one, and the ghost names do not count
abbrev pub GhostStepsKeepTypes : Type 0
GhostStepsKeepTypes =
    (e : Environment) (p : ProgramTree) (types : List TypeTree) (kinds : ℕ → Option Sort) (st su : SymbolicState) (names : terms.Store) → GhostLeads e st su → IsTypedState e p types kinds st → IsTypedState e p types kinds (record su { names = names })

-- or to several, among which enough are typed
abbrev pub GhostOutcomesAreTyped : Type 0
GhostOutcomesAreTyped =
    (e : Environment) (p : ProgramTree) (types : List TypeTree) (kinds : ℕ → Option Sort) (st : SymbolicState) (outs : List Outcome) → GhostComes e p st outs → IsTypedState e p types kinds st
    → SomeAreTyped e p types kinds outs (GhostComes e p st)

-- ---- beginnings and heads of loops
-- the sorts of the symbols of so many parameters
abbrev pub kinds_of : List Sort → ℕ → ℕ → Option Sort
kinds_of sorts n y = slice_get (take n sorts) y

-- a body begins in a typed state, in which the symbols of the parameters have their sorts and the thread is named by a number; and so does the check of a claim, which has no locals
pub record BodiesBeginTyped : Type 0 where
  pub body : (e : Environment) (p : ProgramTree) (f : FunctionTree) (k : ContractTree) → IsTypedFunction p f
      → IsTypedState e p f.locals (kinds_of k.sorts (length f.signature.parameters)) (beginning f k) × KnowsThread e (beginning f k).path
  pub claim : (e : Environment) (p : ProgramTree) (f : FunctionTree) (k : ContractTree) → IsTypedState e p [] (kinds_of k.sorts (length f.signature.parameters)) (before_claim f k) × KnowsThread e (before_claim f k).path

-- so its precondition is produced in states that are typed
abbrev pub PreconditionsAreTyped : Type 0
PreconditionsAreTyped =
    (e : Environment) (p : ProgramTree) (f : FunctionTree) (k : ContractTree) (outs : List Outcome) → IsTypedFunction p f
    → Produce e p k.sorts all_of_it k.requires_this (call_store (parameter_symbols (length f.signature.parameters))) (beginning f k) (IsAmong outs)
    → SomeAreTyped e p f.locals (kinds_of k.sorts (length f.signature.parameters)) outs (λ enough. Produce e p k.sorts all_of_it k.requires_this (call_store (parameter_symbols (length f.signature.parameters))) (beginning f k) (IsAmong enough))

-- each local whose term at a loop's head is the symbol of something that the loop changes is known there by its type
abbrev pub ChangesFit : List Changing → List TypeTree → List (Option Term) → Type 0
ChangesFit changing [] [] = Unit {0}
ChangesFit changing (type ∷ types) (None ∷ ts) = ChangesFit changing types ts
ChangesFit changing (type ∷ types) (Some t ∷ ts) = ((j : ℕ) (c : Changing) → slice_get changing j ≡ Some c → t ≡ symbol c.number → c.known ≡ OfLocal type) × ChangesFit changing types ts
ChangesFit changing _ _ = ⊥

-- where a typed state comes to a loop's head, with nothing forgotten that it knows, the state at the head is typed, the kept chunks there too; what the invariant is produced in is then typed as with every assertion
abbrev pub LoopHeadsAreTyped : Type 0
LoopHeadsAreTyped =
    (e : Environment) (p : ProgramTree) (types : List TypeTree) (kinds : ℕ → Option Sort) (loop : Loop) (names : terms.Store) (st : SymbolicState) → IsTypedState e p types kinds st → Arrives e loop names st
    → EntailsAll e loop.path st.path → ChangesFit loop.changing types loop.locals → IsTypedState e p types kinds (before_invariant loop)
