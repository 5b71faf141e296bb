-- What is answered where words ask for a try or a trace of files.
use Rattle.std.specs.Prelude.{◌≡◌, ◌⊎◌, ℕ, Bool, true, false, List, [], ◌++◌, Contains, Some, None, Result, Ok, Err}
use Rattle.std.specs.FinMap.{get}
use Rattle.std.specs.List.{flat_map}
use Rattle.vf_base.specs.Outside.{FileMap}
use Rattle.vf_base.specs.declared.refusal.Refusal.{Refusal}
use Rattle.vf_model.specs.declared.words.Event.{Event}
use Rattle.vf_snapshot.specs.Holdings.{Holdings}
use Rattle.vf_manifest.specs.declared.line.Line.{Line}
use Rattle.vf_program.specs.Units.{UnitTree}
use Rattle.vf_program.specs.Programs.{program_of_units}
use Rattle.vf_link.specs.Statements.{all_lines}
use Rattle.vf_link.specs.Linking.{IsMain, IsRefusal, Links}
use Rattle.vf_link.specs.Refusals.{rule_of, shown_of}
use Rattle.vf_link.specs.declared.refusal.LinkRefusal.{LinkRefusal}
use Rattle.vf_report.specs.declared.status.Status.{Status}
use Rattle.vf_report.specs.declared.status.Status.TheVariants as statuses
use Rattle.vf_report.specs.Lines.{linked_line, path_in, read_line, refusal_line, unlinked_line}
use Rattle.vf_report.specs.Loaded.{HasSchedule}
use Rattle.vf_module.specs.Readings.{UnitRead}
use Rattle.vf_try.specs.declared.purpose.Purpose.{Purpose}
use Rattle.vf_try.specs.Files.{FileTree, FilesRead, is_any_refused, manifests_in, plains_in}
use Rattle.vf_try.specs.Runs.{ProgramPrints}

-- the paths of files by their numbers; no bytes where no file has the number
abbrev pub path_by : Holdings → ℕ → List ℕ
path_by held number = path_in held [] number

-- what is printed where the file at a path reads as this: that it was read, or its refusal
abbrev pub reading_line : Holdings → List ℕ → Result UnitRead Refusal → List ℕ
reading_line held path (Ok read) = read_line path
reading_line held path (Err refusal) = refusal_line (path_by held) refusal

-- what is printed of a file
abbrev pub file_line : Holdings → FileTree → List ℕ
file_line held file = reading_line held file.path file.result

-- what is printed of files in order
abbrev pub file_lines : Holdings → List FileTree → List ℕ
file_lines held files = flat_map (file_line held) files

-- units link by their manifests, and what is printed of their program follows; or the refusal of linking is printed
pub data UnitsPrint (purpose : Purpose) (path_of : ℕ → List ℕ) (manifests : List (List Line)) (plains : List UnitTree) (events : List Event) : Status → List ℕ → Type 0 where
  refused : (refusal : LinkRefusal) → IsRefusal (all_lines manifests) refusal → UnitsPrint purpose path_of manifests plains events statuses.LinkRefused (unlinked_line (rule_of refusal) (shown_of refusal))
  linked : (at : ℕ) (main : List ℕ) {status : Status} {text : List ℕ} → Links (all_lines manifests) → IsMain manifests at main → ProgramPrints purpose path_of (program_of_units plains main) events status text → UnitsPrint purpose path_of manifests plains events status (linked_line ++ text)

-- what is printed behind the files' lines: nothing where a file is refused, and else what the units print
abbrev pub RestPrints : Bool → Purpose → (ℕ → List ℕ) → List (List Line) → List UnitTree → List Event → Status → List ℕ → Type 0
RestPrints true purpose path_of manifests plains events status text = (status ≡ statuses.Refused) × (text ≡ [])
RestPrints false purpose path_of manifests plains events status text = UnitsPrint purpose path_of manifests plains events status text

-- the text for files that were read: their lines, and what is printed behind them
pub record Prints (purpose : Purpose) (held : Holdings) (files : List FileTree) (events : List Event) (status : Status) (text : List ℕ) : Type 0 where
  pub rest : List ℕ
  pub text_is : text ≡ file_lines held files ++ rest
  pub prints : RestPrints (is_any_refused files) purpose (path_by held) (manifests_in files) (plains_in files) events status rest

-- The files at some paths are read in order, by what the files tell, and the status and the text are those of what they read as.
pub record Answers (m : FileMap) (purpose : Purpose) (paths : List (List ℕ)) (events : List Event) (status : Status) (text : List ℕ) : Type 0 where
  pub held : Holdings
  pub files : List FileTree
  pub read : FilesRead (Some m) [] paths files held
  pub prints : Prints purpose held files events status text

-- The files have a schedule at its path, and this is what comes of the files at some paths.
pub record IsAnswer (m : FileMap) (purpose : Purpose) (schedule : List ℕ) (paths : List (List ℕ)) (status : Status) (text : List ℕ) : Type 0 where
  pub events : List Event
  pub schedule_is : HasSchedule m schedule events
  pub answers : Answers m purpose paths events status text

-- a file that the words name is not there: the schedule, or where that reads one of the source files
abbrev pub IsLackingOne : FileMap → List ℕ → List (List ℕ) → Type 0
IsLackingOne m schedule paths = (get m schedule ≡ None) ⊎ (((events : List Event) × HasSchedule m schedule events) × ((path : List ℕ) × Contains paths path × (get m path ≡ None)))
