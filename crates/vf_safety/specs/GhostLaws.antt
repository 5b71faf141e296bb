-- What ghost steps keep. The law is the contract of a public function with an empty body.
use Rattle.std.specs.Prelude.{List, Option}
use Rattle.vf_tree.specs.Core.{ProgramTree}
use Rattle.vf_model.specs.Values.{Value}
use Rattle.vf_meaning.specs.Valuations.{Valuation}
use Rattle.vf_meaning.specs.Assertions.{Environment}
use Rattle.vf_meaning.specs.Parts.{Part}
use Rattle.vf_rules.specs.Terms.{Store}
use Rattle.vf_rules.specs.States.{SymbolicState, StandsFor}
use Rattle.vf_rules.specs.Types.{IsTypedPart}
use Rattle.vf_rules.specs.Laws.{Outcome, IsAmong}
use Rattle.vf_rules.specs.PredicateLaws.{SomeStands}
use Rattle.vf_rules.specs.GhostSteps.{AfterGhostSteps}

-- where each state that ghost steps reach is among several outcomes, one of these stands for the locals, names and part that the state before stood for
abbrev pub GhostStepsKeep : Type 0
GhostStepsKeep =
    (e : Environment) (prog : ProgramTree) (st : SymbolicState) (outs : List Outcome) → AfterGhostSteps e prog (λ su. (s : Store) × IsAmong outs s su) st
    → (locals : List (Option Value)) (names v : Valuation) (p : Part) → StandsFor e v st locals names p → IsTypedPart e prog p → SomeStands e outs locals names p
