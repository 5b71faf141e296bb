-- The fixpoints of an accepted unit stand in the order of their declaration, so right answers of it entail wherever it is linked. Each law is the contract of a public function with an empty body.
use Rattle.std.specs.Prelude.{◌≡◌, ℕ, List, [], map, Contains}
use Rattle.vf_meaning.specs.Structural.{AreOrdered}
use Rattle.vf_meaning.specs.Assertions.{Environment}
use Rattle.vf_meaning.specs.Environments.{IsLinked}
use Rattle.vf_snapshot.specs.Holdings.{Holdings}
use Rattle.vf_syntax.specs.declared.item.Item.{Item}
use Rattle.vf_syntax.specs.declared.item.Unit.{Unit as FileUnit}
use Rattle.vf_syntax.specs.declared.side.Grammar.TheVariants.{Whole}
use Rattle.vf_syntax.specs.Units.{Spells}
use Rattle.vf_expand.specs.declared.whole.UnitTokens.{UnitTokens}
use Rattle.vf_declared.specs.declared.scope.Scope.{Scope}
use Rattle.vf_resolve.specs.declared.files.Files.{Files}
use Rattle.vf_definitions.specs.declared.fixpoint.Fixpoint as definitions
use Rattle.vf_defining.specs.Symbols.{without_locals}
use Rattle.vf_defining.specs.Units.{HaveDefinitions}
use Rattle.vf_phases.specs.Phases.{PassesPhases}
use Rattle.vf_asking.specs.declared.answers.Answer.TheVariants.{Proved}
use Rattle.vf_asking.specs.Journal.{Asked}
use Rattle.vf_asking.specs.Right.{IsRight}
use Rattle.vf_rules.specs.States.{Entails}
use Rattle.vf_entailment.specs.Facts.{fact_of}
use Rattle.vf_entailment.specs.Trees.{AreAmong}
use Rattle.vf_view_laws.specs.Order.{StandInOrder, AreDefinitionsOf}
use Rattle.vf_fixpoint_laws.specs.identifiers.Laws.{AreExpanded}
use Rattle.vf_fixpoint_laws.specs.met.Units.{IsAcceptedUnit}
use Rattle.vf_unit_laws.specs.Fixpoints.{Signatures, AreAsMany, written_for, HasFixpointsOf}

-- the fixpoints of an accepted unit stand in the order of their declaration, whichever sorts they have
abbrev pub AcceptedFixpointsStandInOrder : Type 0
AcceptedFixpointsStandInOrder = (f : Files) (paths : List (List ℕ)) (xs : List Item) (s : Scope) (fs : List definitions.Fixpoint) (g : Signatures) → IsAcceptedUnit f paths xs s fs → AreAsMany g fs → StandInOrder [] (written_for g fs)

-- and its definitions are theirs
abbrev pub AcceptedDefinitionsAreTheirs : Type 0
AcceptedDefinitionsAreTheirs = (f : Files) (paths : List (List ℕ)) (xs : List Item) (s : Scope) (fs : List definitions.Fixpoint) (g : Signatures) → IsAcceptedUnit f paths xs s fs → AreAsMany g fs → AreDefinitionsOf fs (written_for g fs)

-- so its definitions stand among the fixpoints of its environment, which are in order
abbrev pub UnitsDefinitionsAreAmong : Type 0
UnitsDefinitionsAreAmong =
    (f : Files) (paths : List (List ℕ)) (xs : List Item) (s : Scope) (fs : List definitions.Fixpoint) (u : Environment) → IsAcceptedUnit f paths xs s fs → HasFixpointsOf u fs → AreOrdered u.fixpoints × AreAmong u.fixpoints fs

-- and right answers to it entail wherever it is linked
abbrev pub AcceptedUnitsAnswersEntail : Type 0
AcceptedUnitsAnswersEntail =
    (f : Files) (paths : List (List ℕ)) (xs : List Item) (s : Scope) (a : Asked) (units : List Environment) (u e : Environment) → IsAcceptedUnit f paths xs s a.definitions → IsLinked units e → Contains units u → HasFixpointsOf u a.definitions → IsRight a → a.answer ≡ Proved
    → Entails e (map fact_of a.path) (fact_of a.goal)

-- A unit is read from a file and passes its phases: expanding gave tokens that spell it, none of the phases refuses it, and its items have these definitions
pub record IsReadAndPasses (held : Holdings) (path : List ℕ) (f : Files) (paths : List (List ℕ)) (u : FileUnit) (s : Scope) (fs : List definitions.Fixpoint) : Type 0 where
  pub tokens : UnitTokens
  pub limit : ℕ
  pub expanded : AreExpanded held path tokens
  pub spelled : Spells Whole limit u tokens.tokens
  pub passes : PassesPhases f u.items s
  pub have : HaveDefinitions (without_locals s) paths u.items fs

-- such a unit is accepted, and nothing is asked of its names
abbrev pub ReadUnitsAreAccepted : Type 0
ReadUnitsAreAccepted = (held : Holdings) (path : List ℕ) (f : Files) (paths : List (List ℕ)) (u : FileUnit) (s : Scope) (fs : List definitions.Fixpoint) → IsReadAndPasses held path f paths u s fs → IsAcceptedUnit f paths u.items s fs

-- so right answers to it entail wherever it is linked
abbrev pub ReadUnitsAnswersEntail : Type 0
ReadUnitsAnswersEntail =
    (held : Holdings) (path : List ℕ) (f : Files) (paths : List (List ℕ)) (read : FileUnit) (s : Scope) (a : Asked) (units : List Environment) (u e : Environment) → IsReadAndPasses held path f paths read s a.definitions → IsLinked units e → Contains units u → HasFixpointsOf u a.definitions
    → IsRight a → a.answer ≡ Proved → Entails e (map fact_of a.path) (fact_of a.goal)
