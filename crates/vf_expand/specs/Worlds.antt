-- Files, and what a snapshot knows of them.
use Rattle.std.specs.Prelude.{◌≡◌, ◌≤◌, ℕ, List, Option, Some, None, if◌then◌else◌}
use Rattle.std.specs.Str.{bytes_eq}
use Rattle.vf_base.specs.Outside.{Contents, Rose}
use Rattle.vf_snapshot.specs.declared.held.Held.{Held}
use Rattle.vf_snapshot.specs.declared.held.Held.TheVariants as known
use Rattle.vf_snapshot.specs.Holdings.{Holdings, Grows, IsHeldAt, IsKnown, number_in}
use Rattle.vf_threads.specs.Prelude.{text_of}
use Rattle.vf_preproc.specs.Targets.{prelude_path, between_quotes}

-- what is told of the files and known of them, and the counts by which the outside world answers for its faults
pub record World : Type 0 where
  pub held : Holdings
  pub contents : Contents
  pub failures : ℕ
  pub absences : ℕ
  pub put_failures : ℕ

-- a snapshot beside files
abbrev pub world : Holdings → Contents → ℕ → ℕ → ℕ → World
world held contents failures absences put_failures = record { held = held; contents = contents; failures = failures; absences = absences; put_failures = put_failures }

-- the text of the header of the prelude that has this path, where there is one
abbrev pub prelude_text : List ℕ → Option (List ℕ)
prelude_text path = if bytes_eq path (prelude_path (between_quotes path)) then text_of (between_quotes path) else None

-- this is known of a header of the prelude by its text, or of another path by what is told of the files
abbrev pub IsToldBy : Contents → List ℕ → Held → Option (List ℕ) → Type 0
IsToldBy told path held (Some text) = held ≡ known.Bytes text
IsToldBy told path held None = IsKnown told path held

-- all that is known of paths is the text of a header of the prelude, or what is told of the files
abbrev pub AllTold : Contents → Holdings → Type 0
AllTold told held = (path : List ℕ) (number : ℕ) (h : Held) → IsHeldAt held path number h → IsToldBy told path h (prelude_text path)

-- a missing file that was not known to be missing shows in the count of absences
abbrev pub AbsencesShow : World → World → Type 0
AbsencesShow old new = (path : List ℕ) (number : ℕ) → number_in old.held path ≡ None → IsHeldAt new.held path number known.Missing → Rose old.absences new.absences

-- files were read: what was known stays, no count falls, the files stay as they were told, and what is learnt is right
pub record Reads (old new : World) : Type 0 where
  pub grows : Grows old.held new.held
  pub contents : new.contents ≡ old.contents
  pub failures : old.failures ≤ new.failures
  pub absences : old.absences ≤ new.absences
  pub put_failures : old.put_failures ≤ new.put_failures
  pub absent : AbsencesShow old new
  pub told : AllTold old.contents old.held → AllTold old.contents new.held
