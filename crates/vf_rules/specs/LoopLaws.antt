-- What coming to a loop's head keeps. The law is the contract of a public function with an empty body.
use Rattle.std.specs.Prelude.{List, Option}
use Rattle.vf_tree.specs.Core.{ProgramTree}
use Rattle.vf_model.specs.Values.{Value}
use Rattle.vf_meaning.specs.Valuations.{Valuation}
use Rattle.vf_meaning.specs.Assertions.{Environment}
use Rattle.vf_meaning.specs.Parts.{Part}
use Rattle.vf_rules.specs.States.{SymbolicState, StandsFor}
use Rattle.vf_rules.specs.Types.{IsTypedPart}
use Rattle.vf_rules.specs.PredicateLaws.{SomeStands}
use Rattle.vf_rules.specs.Loops.{Loop, IsLoop, Enters}

-- a state that comes to a loop's head stands for what an outcome of producing the invariant there stands for
abbrev pub EnteringKeeps : Type 0
EnteringKeeps =
    (e : Environment) (prog : ProgramTree) (loop : Loop) (st : SymbolicState) → IsLoop e prog loop → Enters e prog loop st
    → (locals : List (Option Value)) (names v : Valuation) (p : Part) → StandsFor e v st locals names p → IsTypedPart e prog p → SomeStands e loop.outs locals names p
