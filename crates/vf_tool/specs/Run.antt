-- What a run prints, and what `run` answers over files that are told.
use Rattle.std.specs.Prelude.{◌≡◌, ◌⊎◌, ℕ, Bool, true, false, List, ◌++◌, Option, Some, None}
use Rattle.std.specs.FinMap.{get}
use Rattle.vf_base.specs.Outside.{FileMap, Takes, TakesFront}
use Rattle.vf_snapshot.specs.Holdings.{Holdings}
use Rattle.vf_expand.specs.Worlds.{AllTold}
use Rattle.vf_tree.specs.Shown.{program_of}
use Rattle.vf_model.specs.declared.words.Event.{Event}
use Rattle.vf_asking.specs.Journal.{Seen, nothing_seen}
use Rattle.vf_asking.specs.Right.{AreRightFrom}
use Rattle.vf_report.specs.declared.status.Status.{Status}
use Rattle.vf_report.specs.declared.status.Status.TheVariants as statuses
use Rattle.vf_tool.specs.declared.verdict.Verdict.{Verdict}
use Rattle.vf_tool.specs.declared.verdict.Verdict.TheVariants.{Accepted, Refused}
use Rattle.vf_report.specs.Lines.{accepted_line, refusal_line, linked_line, run_lines, path_in}
use Rattle.vf_report.specs.Loaded.{HasSchedule}
use Rattle.vf_tool.specs.Verdict.{JudgedBy}

-- the text for a verdict of the file at a path, by what is held of the files: where the file is accepted it links by itself, and the plain reading of its text runs
abbrev pub text_of : Holdings → List ℕ → List Event → Verdict → List ℕ
text_of held path events (Accepted core) = accepted_line path ++ (linked_line ++ run_lines (path_in held path) (program_of core.plain) events)
text_of held path events (Refused refusal) = refusal_line (path_in held path) refusal

-- whether a verdict is to accept
abbrev pub is_accepted : Verdict → Bool
is_accepted (Accepted core) = true
is_accepted (Refused refusal) = false

-- the status of a verdict
abbrev pub status_of : Bool → Status
status_of true = statuses.Done
status_of false = statuses.Refused

-- The file at a path has a verdict by what the files tell and by the questions and answers that a fresh journal gained, and the answer and the text are those of the verdict. What was asked for of the files is held, each path once.
pub record Answers (m : FileMap) (file : List ℕ) (events : List Event) (t : Seen) (accepted : Bool) (text : List ℕ) : Type 0 where
  pub held : Holdings
  pub told : AllTold (Some m) held
  pub verdict : Verdict
  pub judged : JudgedBy held file nothing_seen t verdict
  pub accepted_is : accepted ≡ is_accepted verdict
  pub text_is : text ≡ text_of held file events verdict

-- The files have a schedule at its path, and this is what comes of the file.
pub record IsAnswer (m : FileMap) (schedule file : List ℕ) (t : Seen) (accepted : Bool) (text : List ℕ) : Type 0 where
  pub events : List Event
  pub schedule_is : HasSchedule m schedule events
  pub answers : Answers m file events t accepted text

-- a file that the words name is not there: the schedule, or where that reads the source file
abbrev pub IsLacking : FileMap → List ℕ → List ℕ → Type 0
IsLacking m schedule file = (get m schedule ≡ None) ⊎ (((events : List Event) × HasSchedule m schedule events) × (get m file ≡ None))

-- The whole text of a run was printed.
pub record Prints (m : FileMap) (schedule file : List ℕ) (t : Seen) (old new : Option (List ℕ)) (accepted : Bool) : Type 0 where
  pub text : List ℕ
  pub answer : IsAnswer m schedule file t accepted text
  pub printed : Takes old new text

-- A front of a run's text was printed.
pub record BeginsToPrint (m : FileMap) (schedule file : List ℕ) (t : Seen) (old new : Option (List ℕ)) : Type 0 where
  pub accepted : Bool
  pub text : List ℕ
  pub answer : IsAnswer m schedule file t accepted text
  pub printed : TakesFront old new text

-- what holds where the status is that of a verdict
abbrev pub OnVerdict : Status → (Bool → Type 0) → Type 0
OnVerdict statuses.Done P = P true
OnVerdict statuses.Refused P = P false
OnVerdict _ P = Unit {0}

-- What a told sink has taken where there is no verdict to answer: of a sink that failed, or had no memory, a front of the text; in every other case nothing
abbrev pub OnStop : Status → Type 0 → Type 0 → Type 0
OnStop statuses.Done begins quiet = Unit {0}
OnStop statuses.Refused begins quiet = Unit {0}
OnStop statuses.WriteFault begins quiet = begins
OnStop statuses.Memory begins quiet = begins ⊎ quiet
OnStop _ begins quiet = quiet

-- The verdict of the file by what is held of the files, which is right, and by right answers, whichever they are, is the one that the status tells; or there was no memory.
abbrev pub Decides : FileMap → List ℕ → Status → Type 0
Decides m file status = (status ≡ statuses.Memory) ⊎ ((held : Holdings) × AllTold (Some m) held
    × ((t : Seen) (v : Verdict) → AreRightFrom 0 t → JudgedBy held file nothing_seen t v → status ≡ status_of (is_accepted v)))

-- the statuses that can come of a run: there are no other units to link with, no faults in what is accepted, and no machine limits that this form's programs meet
abbrev pub CanComeOfRun : Status → Type 0
CanComeOfRun statuses.LinkRefused = ⊥
CanComeOfRun statuses.RunFault = ⊥
CanComeOfRun statuses.Capacity = ⊥
CanComeOfRun statuses.CertRefused = ⊥
CanComeOfRun statuses.Usage = ⊥
CanComeOfRun _ = Unit {0}
