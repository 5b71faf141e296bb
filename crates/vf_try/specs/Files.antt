-- Files that are read in order.
use Rattle.std.specs.Prelude.{◌≡◌, ℕ, Bool, true, false, List, [], ◌∷◌, Contains, map, filter_map, Option, Some, None, IfSome, Result, Ok, Err}
use Rattle.std.specs.FinMap.{get}
use Rattle.std.specs.List.{list_all, list_any}
use Rattle.vf_base.specs.Outside.{Contents}
use Rattle.vf_base.specs.declared.refusal.Refusal.{Refusal}
use Rattle.vf_snapshot.specs.Holdings.{Holdings, Grows}
use Rattle.vf_preproc.specs.Targets.{is_ascii}
use Rattle.vf_preproc.specs.UnitText.{Library}
use Rattle.vf_preproc.specs.Units.{Tells}
use Rattle.vf_expand.specs.Worlds.{AllTold}
use Rattle.vf_manifest.specs.declared.line.Line.{Line}
use Rattle.vf_program.specs.Units.{UnitTree}
use Rattle.vf_module.specs.Readings.{ReadsAs, UnitRead, result_of}
use Rattle.vf_try.specs.declared.files.FileRead.{FileRead}

-- a file that was read: its path, and what it reads as
pub record FileTree : Type 0 where
  pub path : List ℕ
  pub result : Result UnitRead Refusal

-- the file that the code has
abbrev pub file_of : FileRead → FileTree
file_of f = record { path = f.path; result = result_of f.reading }

-- what the file at a path reads as by what is held, whatever stands in files of which nothing is held
abbrev pub ReadsBy : Holdings → List ℕ → Result UnitRead Refusal → Type 0
ReadsBy held path r = (library : Library) → Tells library held → ReadsAs held library path r

-- files are read one after the other: each by what is held once it has been read, which stays and is told of the files
pub data FilesRead (contents : Contents) : Holdings → List (List ℕ) → List FileTree → Holdings → Type 0 where
  none : {held : Holdings} → FilesRead contents held [] [] held
  more : {old mid new : Holdings} {path : List ℕ} {r : Result UnitRead Refusal} {paths : List (List ℕ)} {files : List FileTree} → Grows old mid → AllTold contents mid → ReadsBy mid path r → FilesRead contents mid paths files new → FilesRead contents old (path ∷ paths) (record { path = path; result = r } ∷ files) new

-- one of the paths is not there, as far as the files are told
abbrev pub IsSomeAbsent : Contents → List (List ℕ) → Type 0
IsSomeAbsent contents paths = IfSome contents (λ m. (path : List ℕ) × Contains paths path × (get m path ≡ None))

-- a path of ASCII
abbrev pub IsAscii : List ℕ → Type 0
IsAscii path = list_all is_ascii path ≡ true

-- what a file is read as, where it is not refused
abbrev pub unit_in : Result UnitRead Refusal → Option UnitRead
unit_in (Ok read) = Some read
unit_in (Err refusal) = None

-- the units of the files that are not refused, in order
abbrev pub units_in : List FileTree → List UnitRead
units_in files = filter_map (λ (f : FileTree). unit_in f.result) files

-- their plain readings
abbrev pub plains_in : List FileTree → List UnitTree
plains_in files = map (λ (u : UnitRead). u.plain) (units_in files)

-- their manifests
abbrev pub manifests_in : List FileTree → List (List Line)
manifests_in files = map (λ (u : UnitRead). u.manifest) (units_in files)

-- whether there is a refusal
abbrev pub is_refusal : Result UnitRead Refusal → Bool
is_refusal (Ok read) = false
is_refusal (Err refusal) = true

-- whether one of the files is refused
abbrev pub is_any_refused : List FileTree → Bool
is_any_refused files = list_any (λ (f : FileTree). is_refusal f.result) files
