-- What contracts and invariants declare behind them, and where they are refused: the first fault in the order of the text.
use Rattle.std.specs.Prelude.{true, false, [], Option, Some, None, Ok, Err}
use Rattle.vf_base.specs.declared.refusal.Refusal.{Refusal}
use Rattle.vf_sorts.specs.Sorts.{Sort}
use Rattle.vf_sorts.specs.Unknowns.{Known}
use Rattle.vf_declared.specs.declared.ctype.CType.{CType}
use Rattle.vf_declared.specs.declared.ctype.CType.TheVariants as types
use Rattle.vf_declared.specs.declared.scope.Scope.{Scope}
use Rattle.vf_syntax.specs.declared.contract.Contract.{Contract}
use Rattle.vf_syntax.specs.declared.contract.Invariant.{Invariant}
use Rattle.vf_syntax.specs.AssertionTree.{part_list}
use Rattle.vf_sorting.specs.declared.context.Context.{Context}
use Rattle.vf_sorting.specs.Schemes.{sort_of_type}
use Rattle.vf_asserting.specs.Gives.{Gives}
use Rattle.vf_asserting.specs.IsRefused.{AnyPartFails}
use Rattle.vf_asserting.specs.Leaving.{count, left}
use Rattle.vf_walk.specs.declared.annotations.Owner.{Owner}
use Rattle.vf_walk.specs.Walking.{Walked}

-- the sort of `result` where a type is given: there is none where nothing is given
abbrev pub result_sort : CType → Option Sort
result_sort types.Void = None
result_sort t = Some (sort_of_type t)

-- around the precondition of a function or function type: `currentThread` may stand in it, and `this` in that of a function type
abbrev pub around_precondition : Owner → Context
around_precondition o = record { «result» = None; has_this = o.is_type; has_thread = true; own = None }

-- around its postcondition: `result` may stand in it too, where a value is given
abbrev pub around_postcondition : Owner → Context
around_postcondition o = record { «result» = result_sort o.given; has_this = o.is_type; has_thread = true; own = None }

-- around the invariant of a loop: `currentThread` may stand in it
abbrev pub around_invariant : Context
around_invariant = record { «result» = None; has_this = false; has_thread = true; own = None }

-- a contract declares the names of its precondition, which are visible in its postcondition and behind it; those of the postcondition are gone behind it
pub data ContractGives (c d : Context) (x : Contract) : Scope → Scope → Type 0 where
  contract : {s s₁ s₂ : Scope} {k k' : Known} → Gives c s [] (part_list x.precondition) s₁ k → Gives d s₁ k (part_list x.postcondition) s₂ k' → ContractGives c d x s (left (count s₁) s₂)

-- a contract is refused: in its precondition, or else in its postcondition
pub data ContractFails (c d : Context) (x : Contract) : Scope → Refusal → Type 0 where
  precondition : {s : Scope} {r : Refusal} → AnyPartFails c s [] (part_list x.precondition) r → ContractFails c d x s r
  postcondition : {s s₁ : Scope} {k : Known} {r : Refusal} → Gives c s [] (part_list x.precondition) s₁ k → AnyPartFails d s₁ k (part_list x.postcondition) r → ContractFails c d x s r

-- a contract, with what stands around its precondition and around its postcondition, comes to what it declares or to its refusal
pub data ContractComes (c d : Context) (x : Contract) (s : Scope) : Walked → Type 0 where
  given : {s' : Scope} → ContractGives c d x s s' → ContractComes c d x s (Ok s')
  refused : {r : Refusal} → ContractFails c d x s r → ContractComes c d x s (Err r)

-- the same of a contract of a function or function type
abbrev pub OwnedComes : Owner → Contract → Scope → Walked → Type 0
OwnedComes o x s w = ContractComes (around_precondition o) (around_postcondition o) x s w

-- an invariant comes to what it declares, which is visible in the loop and behind it, or to its refusal
pub data InvariantComes (x : Invariant) (s : Scope) : Walked → Type 0 where
  given : {s' : Scope} {k : Known} → Gives around_invariant s [] (part_list x.assertion) s' k → InvariantComes x s (Ok s')
  refused : {r : Refusal} → AnyPartFails around_invariant s [] (part_list x.assertion) r → InvariantComes x s (Err r)
