-- What the files have that the words name and that are no source files.
use Rattle.std.specs.Prelude.{◌≡◌, ℕ, ◌≤◌, List, length, Some}
use Rattle.std.specs.FinMap.{get}
use Rattle.vf_base.specs.Outside.{FileMap}
use Rattle.vf_model.specs.declared.words.Event.{Event}
use Rattle.vf_schedule.specs.texts.Schedules.{IsScheduleText}
use Rattle.vf_manifest.specs.declared.line.Line.{Line}
use Rattle.vf_manifest.specs.Manifests.{IsManifestText}

-- the most bytes of a schedule
abbrev pub most_schedule : ℕ
most_schedule = 16777216

-- The bytes are a schedule's text: not too many, and they read as these events.
pub record IsSchedule (bytes : List ℕ) (events : List Event) : Type 0 where
  pub size : length bytes ≤ most_schedule
  pub text : IsScheduleText bytes events

-- The path has a schedule, and these are its events.
pub record HasSchedule (m : FileMap) (path : List ℕ) (events : List Event) : Type 0 where
  pub bytes : List ℕ
  pub there : get m path ≡ Some bytes
  pub reads : IsSchedule bytes events

-- The path is there, and what it has is no schedule.
pub record HasNoSchedule (m : FileMap) (path : List ℕ) : Type 0 where
  pub bytes : List ℕ
  pub there : get m path ≡ Some bytes
  pub unread : (events : List Event) → IsSchedule bytes events → ⊥

-- the most bytes of a manifest
abbrev pub most_manifest : ℕ
most_manifest = 16777216

-- The bytes are a manifest's text: not too many, and they stand for these lines.
pub record IsManifestFile (bytes : List ℕ) (lines : List Line) : Type 0 where
  pub size : length bytes ≤ most_manifest
  pub text : IsManifestText bytes lines

-- The path has a manifest, and these are its lines.
pub record HasManifest (m : FileMap) (path : List ℕ) (lines : List Line) : Type 0 where
  pub bytes : List ℕ
  pub there : get m path ≡ Some bytes
  pub reads : IsManifestFile bytes lines

-- The path is there, and what it has is no manifest.
pub record HasNoManifest (m : FileMap) (path : List ℕ) : Type 0 where
  pub bytes : List ℕ
  pub there : get m path ≡ Some bytes
  pub unread : (lines : List Line) → IsManifestFile bytes lines → ⊥
