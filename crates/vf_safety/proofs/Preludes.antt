-- Calls of the prelude's functions for mutexes and threads: a call of each is safe where its contract's precondition is met.
use Rattle.std.proofs.Common.{◌≡◌, ℕ, List, Option, Some}
use Rattle.vf_base.specs.declared.place.Place.{Place}
use Rattle.vf_tree.specs.Core.{Identity, ExpressionTree, Call, FunctionTree, ProgramTree}
use Rattle.vf_model.specs.Values.{Value}
use Rattle.vf_model.specs.State.{Frame, Thread, State}
use Rattle.vf_model.specs.Evaluation.{Gives, evaluate_all}
use Rattle.vf_model.specs.PreludeFunctions.{PreludeFunction, prelude_named, signature_of}
use Rattle.vf_meaning.specs.Valuations.{Valuation}
use Rattle.vf_meaning.specs.Assertions.{ContractTree, Environment}
use Rattle.vf_meaning.specs.Parts.{Part}
use Rattle.vf_rules.specs.Threads.{HasPreludeContract, creates, acquires, releases, disposes, starts, starts_joinable, joins}
use Rattle.vf_safety.specs.Safe.{Duties, Secure}
use Rattle.vf_safety.proofs.Steps.{Here}
use Rattle.vf_safety.proofs.Mutexes.{Asks, Follows, acquire_secure, release_secure, create_secure, dispose_secure}
use Rattle.vf_safety.proofs.Threads.{ThreadsBegin, start_secure, start_joinable_secure, join_secure}

module _ (e : Environment) (p : ProgramTree) (t : ℕ) (duties : Duties) (S : ℕ → Duties → Thread → Part → Type 0) (s : State) (f : FunctionTree) (frame : Frame) (callers : Thread) (target : Option ℕ) (g : Identity) (operands : List ExpressionTree) (place : Place) (next : ℕ) (ws : List Value) (names : Valuation) (off inner own rest all : Part) where
  pub prelude_secure : (function : PreludeFunction) (contract : ContractTree) → HasPreludeContract e p function contract → Here p s t f frame callers (Call target g operands place next) → evaluate_all frame.locals operands ≡ Gives ws → prelude_named g ≡ Some function
      → Asks e p t duties contract s callers ws names off inner own rest all → ThreadsBegin e p t duties S → Follows e p t duties S contract (signature_of function).result names inner target frame next callers → Secure e p t S duties s own rest all
  prelude_secure _ _ (creates body) at value named asks begin go = create_secure e p t duties S s f frame callers target g operands place next ws names off inner own rest all body at at.frames value named asks go
  prelude_secure _ _ acquires at value named asks begin go = acquire_secure e p t duties S s f frame callers target g operands place next ws names off inner own rest all at value named asks go
  prelude_secure _ _ releases at value named asks begin go = release_secure e p t duties S s f frame callers target g operands place next ws names off inner own rest all at value named asks go
  prelude_secure _ _ disposes at value named asks begin go = dispose_secure e p t duties S s f frame callers target g operands place next ws names off inner own rest all at value named asks go
  prelude_secure _ _ (starts type) at value named asks begin go = start_secure e p t duties S s f frame callers target g operands place next ws names off inner own rest all at value named type asks begin go
  prelude_secure _ _ (starts_joinable type) at value named asks begin go = start_joinable_secure e p t duties S s f frame callers target g operands place next ws names off inner own rest all at value named type asks begin go
  prelude_secure _ _ joins at value named asks begin go = join_secure e p t duties S s f frame callers target g operands place next ws names off inner own rest all at value named asks go
