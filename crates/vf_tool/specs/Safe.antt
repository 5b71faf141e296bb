-- Safety: what is accepted and linked has no fault and no race on any list of events, and keeps what it owes.
use Rattle.std.specs.Prelude.{◌≡◌, ℕ, Bool, List, [], ◌∷◌, Some}
use Rattle.vf_base.specs.Outside.{FileMap}
use Rattle.vf_snapshot.specs.Holdings.{Holdings}
use Rattle.vf_expand.specs.Worlds.{AllTold}
use Rattle.vf_tree.specs.Core.{ProgramTree}
use Rattle.vf_tree.specs.Shown.{program_of}
use Rattle.vf_model.specs.declared.words.Event.{Event}
use Rattle.vf_asking.specs.Journal.{Seen, nothing_seen}
use Rattle.vf_meaning.specs.Assertions.{Environment}
use Rattle.vf_meaning.specs.Environments.{IsLinked}
use Rattle.vf_meaning.specs.Kept.{IsSafe, Kept}
use Rattle.vf_sound.specs.Environment.{environment_of}
use Rattle.vf_tool.specs.declared.verdict.Verdict.{Verdict}
use Rattle.vf_tool.specs.declared.verdict.Verdict.TheVariants.{Accepted, Refused}
use Rattle.vf_tool.specs.Verdict.{JudgedBy}
use Rattle.vf_tool.specs.Run.{is_accepted}

-- The units have a linked environment. On every list of events the linked program is safe, so that no state that it comes to has a fault of any thread or a race, and keeps what it owes in each linked environment that the units have
pub record IsSafeLinked (units : List Environment) (p : ProgramTree) : Type 0 where
  pub environment : Environment
  pub linked : IsLinked units environment
  pub safe : (events : List Event) → IsSafe p events
  pub kept : (e : Environment) → IsLinked units e → (events : List Event) → Kept e p events

-- where the verdict is to accept, the file links by itself, and the plain reading of its text is safe
abbrev pub WhereAccepted : Verdict → Type 0
WhereAccepted (Accepted core) = IsSafeLinked (environment_of core ∷ []) (program_of core.plain)
WhereAccepted (Refused refusal) = Unit {0}

-- The file has a verdict by what the files tell and by the questions and answers that a fresh journal gained, and what is accepted is safe.
pub record IsSafeRun (m : FileMap) (file : List ℕ) (t : Seen) (accepted : Bool) : Type 0 where
  pub held : Holdings
  pub told : AllTold (Some m) held
  pub verdict : Verdict
  pub judged : JudgedBy held file nothing_seen t verdict
  pub accepted_is : accepted ≡ is_accepted verdict
  pub safe : WhereAccepted verdict
