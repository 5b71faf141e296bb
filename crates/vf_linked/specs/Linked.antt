-- Programs of several units: when they are accepted and linked, and what follows. Each law is the contract of a public function with an empty body.
use Rattle.std.specs.Prelude.{List, Contains}
use Rattle.vf_tree.specs.Core.{Identity, ProgramTree}
use Rattle.vf_model.specs.declared.words.Event.{Event}
use Rattle.vf_meaning.specs.Assertions.{Environment}
use Rattle.vf_meaning.specs.Environments.{IsLinked}
use Rattle.vf_meaning.specs.LinkingLaws.{HasNoLeak}
use Rattle.vf_meaning.specs.Kept.{IsSafe, Kept}
use Rattle.vf_safety.specs.Laws.{IsAcceptedProgram}
use Rattle.vf_safety.specs.LeakLaws.{KeptUnleaked}
use Rattle.vf_linked.specs.Lemmas.{AreLinkedLemmas, AllHold}

-- Units are accepted and linked: they have a linked environment; the lemmas whose bodies stand in them are accepted there; and where these hold the program of all units is accepted
pub record IsAcceptedLinked (units : List Environment) (e : Environment) (p : ProgramTree) : Type 0 where
  pub linked : IsLinked units e
  pub lemmas : List Identity
  pub are_lemmas : AreLinkedLemmas e p lemmas
  pub program : AllHold e p lemmas → IsAcceptedProgram e p

-- every list of events of the program of accepted and linked units is safe, and keeps what the program owes
abbrev pub LinkedProgramsAreSafe : Type 0
LinkedProgramsAreSafe = (units : List Environment) (e : Environment) (p : ProgramTree) → IsAcceptedLinked units e p → (events : List Event) → IsSafe p events × Kept e p events

-- and where no `leak` stands in any of the units nothing is ever leaked
abbrev pub LinkedProgramsLeakNothing : Type 0
LinkedProgramsLeakNothing = (units : List Environment) (e : Environment) (p : ProgramTree) → IsAcceptedLinked units e p → ((u : Environment) → Contains units u → HasNoLeak u) → (events : List Event) → KeptUnleaked e p events
