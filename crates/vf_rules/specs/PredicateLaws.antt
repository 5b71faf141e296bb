-- What opening and closing keep. Each law is the contract of a public function with an empty body.
use Rattle.std.specs.Prelude.{List, Option}
use Rattle.vf_tree.specs.Core.{ProgramTree}
use Rattle.vf_model.specs.Values.{Value}
use Rattle.vf_meaning.specs.Valuations.{Valuation}
use Rattle.vf_meaning.specs.Assertions.{Environment}
use Rattle.vf_meaning.specs.Parts.{Part}
use Rattle.vf_rules.specs.Terms.{Store}
use Rattle.vf_rules.specs.States.{SymbolicState, StandsFor}
use Rattle.vf_rules.specs.Types.{IsTypedPart}
use Rattle.vf_rules.specs.Laws.{Outcome, IsAmong}
use Rattle.vf_rules.specs.Predicates.{Opens, Closes}

-- one of several outcomes stands for the same locals, names and part, under some valuation
pub record SomeStands (e : Environment) (outs : List Outcome) (locals : List (Option Value)) (names : Valuation) (p : Part) : Type 0 where
  pub under : Valuation
  pub store : Store
  pub state : SymbolicState
  pub among : IsAmong outs store state
  pub stands : StandsFor e under state locals names p

-- an opened predicate, whole or in part, stands for what it stood for
abbrev pub OpeningKeeps : Type 0
OpeningKeeps =
    (e : Environment) (prog : ProgramTree) (st : SymbolicState) (outs : List Outcome) → Opens e prog st outs
    → (locals : List (Option Value)) (names v : Valuation) (p : Part) → StandsFor e v st locals names p → IsTypedPart e prog p → SomeStands e outs locals names p

-- a closed predicate stands for what its body stood for
abbrev pub ClosingKeeps : Type 0
ClosingKeeps =
    (e : Environment) (prog : ProgramTree) (st : SymbolicState) (outs : List Outcome) → Closes e prog st outs
    → (locals : List (Option Value)) (names v : Valuation) (p : Part) → StandsFor e v st locals names p → SomeStands e outs locals names p
