-- Right answers entail wherever a unit's fixpoints stand in the order of their declaration. Each law is the contract of a public function with an empty body.
use Rattle.std.specs.Prelude.{◌≡◌, List, [], map, Contains}
use Rattle.vf_meaning.specs.Structural.{AreOrdered}
use Rattle.vf_meaning.specs.Assertions.{Environment}
use Rattle.vf_meaning.specs.Environments.{IsLinked}
use Rattle.vf_definitions.specs.declared.fixpoint.Fixpoint.{Fixpoint}
use Rattle.vf_asking.specs.declared.answers.Answer.TheVariants.{Proved}
use Rattle.vf_asking.specs.Journal.{Asked}
use Rattle.vf_asking.specs.Right.{IsRight}
use Rattle.vf_rules.specs.States.{Entails}
use Rattle.vf_entailment.specs.Facts.{fact_of}
use Rattle.vf_entailment.specs.Trees.{AreAmong}
use Rattle.vf_view_laws.specs.Order.{Written, StandInOrder, trees_for, AreDefinitionsOf}

-- fixpoints in the order of their declaration are, the last first, in the order that an environment asks for, whichever sorts they have
abbrev pub DeclaredFixpointsAreOrdered : Type 0
DeclaredFixpointsAreOrdered = (xs : List Written) → StandInOrder [] xs → AreOrdered (trees_for xs)

-- and their definitions stand among them
abbrev pub DefinitionsAreAmong : Type 0
DefinitionsAreAmong = (xs : List Written) (fs : List Fixpoint) → AreDefinitionsOf fs xs → AreAmong (trees_for xs) fs

-- so those of a unit stand among the fixpoints of each linked environment of it, which are in order
abbrev pub DefinitionsStandWhereLinked : Type 0
DefinitionsStandWhereLinked =
    (units : List Environment) (u e : Environment) (xs : List Written) (fs : List Fixpoint) → IsLinked units e → Contains units u → u.fixpoints ≡ trees_for xs → AreDefinitionsOf fs xs → AreOrdered e.fixpoints × AreAmong e.fixpoints fs

-- and right answers to the unit entail there
abbrev pub UnitsAnswersEntail : Type 0
UnitsAnswersEntail =
    (units : List Environment) (u e : Environment) (xs : List Written) (a : Asked) → IsLinked units e → Contains units u → u.fixpoints ≡ trees_for xs → AreDefinitionsOf a.definitions xs → IsRight a → a.answer ≡ Proved
    → Entails e (map fact_of a.path) (fact_of a.goal)
