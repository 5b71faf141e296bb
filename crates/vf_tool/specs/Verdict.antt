-- The verdict of a file: what the written rules come to with just the questions and answers that came between two moments.
use Rattle.std.specs.Prelude.{◌≡◌, ◌⊎◌, List, [], ℕ, Ok, Err}
use Rattle.vf_base.specs.declared.refusal.Refusal.{Refusal}
use Rattle.vf_snapshot.specs.Holdings.{Holdings}
use Rattle.vf_preproc.specs.UnitText.{Library}
use Rattle.vf_preproc.specs.Units.{Tells}
use Rattle.vf_tree.specs.declared.unit.Core.{Core}
use Rattle.vf_asking.specs.Course.{Follows}
use Rattle.vf_asking.specs.Journal.{Seen, begun}
use Rattle.vf_exec.specs.Main.{checks}
use Rattle.vf_tool.specs.declared.verdict.Verdict.{Verdict}
use Rattle.vf_tool.specs.declared.verdict.Verdict.TheVariants.{Accepted, Refused}
use Rattle.vf_tool.specs.Readings.{ReadsAs}

-- the rules come to this verdict of a core, whose unit is begun without definitions, by the questions and answers from s to t
abbrev pub Checked : Core → Seen → Seen → Verdict → Type 0
Checked core s t (Accepted accepted) = (accepted ≡ core) × Follows (checks core) (begun [] s) t (Ok tt)
Checked core s t (Refused refusal) = Follows (checks core) (begun [] s) t (Err refusal)

-- The file has a core, and the rules accept it: its unit was begun without definitions, and every question that they ask was answered.
pub record IsAccepted (held : Holdings) (library : Library) (path : List ℕ) (s t : Seen) (core : Core) : Type 0 where
  pub reads : ReadsAs held library path (Ok core)
  pub follows : Follows (checks core) (begun [] s) t (Ok tt)

-- The file has a core, and this is the first refusal of the rules.
pub record IsRefused (held : Holdings) (library : Library) (path : List ℕ) (s t : Seen) (refusal : Refusal) : Type 0 where
  pub core : Core
  pub reads : ReadsAs held library path (Ok core)
  pub follows : Follows (checks core) (begun [] s) t (Err refusal)

-- The file is refused before the rules, and nothing was asked.
pub record IsUnread (held : Holdings) (library : Library) (path : List ℕ) (s t : Seen) (refusal : Refusal) : Type 0 where
  pub reads : ReadsAs held library path (Err refusal)
  pub quiet : t ≡ s

-- the verdict of the file at a path over a library and the paths that are held, by the questions and answers from s to t
abbrev pub Judged : Holdings → Library → List ℕ → Seen → Seen → Verdict → Type 0
Judged held library path s t (Accepted core) = IsAccepted held library path s t core
Judged held library path s t (Refused refusal) = IsRefused held library path s t refusal ⊎ IsUnread held library path s t refusal

-- the verdict of the file at a path by what is held of the files, whatever stands in files of which nothing is held
abbrev pub JudgedBy : Holdings → List ℕ → Seen → Seen → Verdict → Type 0
JudgedBy held path s t v = (library : Library) → Tells library held → Judged held library path s t v
