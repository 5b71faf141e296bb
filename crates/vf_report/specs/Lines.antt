-- The lines that are printed.
use Rattle.std.specs.Prelude.{ℕ, Bool, false, not, ◌==◌, if◌then◌else◌, ◌-◌, length, slice_get, Option, Some, None, List, [], ◌∷◌, ◌++◌, codes}
use Rattle.std.specs.Fmt.{decimal, signed_decimal}
use Rattle.vf_base.specs.declared.place.Place.{Place}
use Rattle.vf_base.specs.declared.refusal.Refusal.{Refusal}
use Rattle.vf_base.specs.declared.refusal.Shown.{Shown}
use Rattle.vf_base.specs.declared.refusal.Shown.TheVariants as showns
use Rattle.vf_base.specs.declared.rule.Rule.{Rule}
use Rattle.vf_base.specs.Rule.{number_of, name_of}
use Rattle.vf_snapshot.specs.declared.held.Held.{Held}
use Rattle.vf_snapshot.specs.Holdings.{Holdings}
use Rattle.vf_tree.specs.Core.{ProgramTree}
use Rattle.vf_model.specs.declared.words.Event.{Event}
use Rattle.vf_model.specs.Runs.{reach, outcome_of}
use Rattle.vf_engine.specs.declared.words.Limit.{Limit}
use Rattle.vf_engine.specs.declared.words.Limit.TheVariants as limits
use Rattle.vf_trace.specs.declared.following.Finding.{Finding}
use Rattle.vf_trace.specs.declared.following.Finding.TheVariants as findings
use Rattle.vf_model.specs.declared.words.FaultKind.{FaultKind}
use Rattle.vf_model.specs.declared.words.FaultKind.TheVariants.{Access, Unset, Range, Divisor, Free, Pointer, Mutex, Join, NoReturn}
use Rattle.vf_model.specs.declared.words.Outcome.{Outcome}
use Rattle.vf_model.specs.declared.words.Outcome.TheVariants.{Returned, Aborted, Blocked, Running, Fault}

-- the path of an entry, or this one where there is none
abbrev pub path_or : List ℕ → Option (List ℕ × Held) → List ℕ
path_or path None = path
path_or path (Some entry) = entry.0

-- the path of the file with a number, and the named file's where no file has it
abbrev pub path_in : Holdings → List ℕ → ℕ → List ℕ
path_in held path number = path_or path (slice_get held number)

-- a text and a line feed
abbrev pub line : List ℕ → List ℕ
line text = text ++ 10 ∷ []

-- A place as it is printed: the path of its file, line and column, parted by colons. path_of gives the paths of files by their numbers.
abbrev pub shown_place : (ℕ → List ℕ) → Place → List ℕ
shown_place path_of place = path_of place.file ++ codes ":" ++ decimal place.line ++ codes ":" ++ decimal place.column

-- what is printed of an accepted file
abbrev pub accepted_line : List ℕ → List ℕ
accepted_line path = line (path ++ codes ": accepted")

-- what is printed of a refused file
abbrev pub refusal_line : (ℕ → List ℕ) → Refusal → List ℕ
refusal_line path_of refusal = line (shown_place path_of refusal.place ++ codes ": rule " ++ decimal (number_of refusal.rule) ++ codes " " ++ name_of refusal.rule)

-- what is printed where the files link
abbrev pub linked_line : List ℕ
linked_line = line (codes "linked")

-- what is printed of a file that was read and is not refused
abbrev pub read_line : List ℕ → List ℕ
read_line path = line (path ++ codes ": read")

-- what a refusal shows beside its rule
abbrev pub shown_text : Shown → List ℕ
shown_text showns.Nothing = []
shown_text (showns.Name text) = text
shown_text (showns.Count number) = decimal number

-- a rule as it is printed: its number and its name
abbrev pub shown_rule : Rule → List ℕ
shown_rule rule = decimal (number_of rule) ++ codes " " ++ name_of rule

-- what is printed where files do not link: the rule, and the identity, path or count that it shows
abbrev pub unlinked_line : Rule → Shown → List ℕ
unlinked_line rule shown = line (codes "link: rule " ++ shown_rule rule ++ codes " " ++ shown_text shown)

-- the name of a limit of the machine
abbrev pub limit_name : Limit → List ℕ
limit_name limits.Blocks = codes "blocks"
limit_name limits.Threads = codes "threads"
limit_name limits.Frames = codes "frames"
limit_name limits.Cells = codes "cells"

-- the last line of a run whose next step needs more than a limit
abbrev pub capacity_line : Limit → List ℕ
capacity_line limit = line (codes "capacity " ++ limit_name limit)

-- the name of a fault's kind
abbrev pub kind_name : FaultKind → List ℕ
kind_name Access = codes "access"
kind_name Unset = codes "unset"
kind_name Range = codes "range"
kind_name Divisor = codes "divisor"
kind_name Free = codes "free"
kind_name Pointer = codes "pointer"
kind_name Mutex = codes "mutex"
kind_name Join = codes "join"
kind_name NoReturn = codes "noreturn"

-- how a run stands, in words
abbrev pub shown_outcome : (ℕ → List ℕ) → Outcome → List ℕ
shown_outcome path_of (Returned n) = codes "returned " ++ signed_decimal n
shown_outcome path_of Aborted = codes "aborted"
shown_outcome path_of Blocked = codes "blocked"
shown_outcome path_of Running = codes "running"
shown_outcome path_of (Fault kind place) = codes "fault " ++ kind_name kind ++ codes " " ++ shown_place path_of place

-- the last line of a run
abbrev pub outcome_line : (ℕ → List ℕ) → Outcome → List ℕ
outcome_line path_of outcome = line (shown_outcome path_of outcome)

-- whether there is a last byte other than a line feed
abbrev pub is_open : Option ℕ → Bool
is_open None = false
is_open (Some b) = not (b == 10)

-- what a program wrote, and a line feed where it is not empty and does not end in one
abbrev pub closed_output : List ℕ → List ℕ
closed_output output = if is_open (slice_get output (length output - 1)) then line output else output

-- what a run of the program prints: its output, and how the run stands after the events
abbrev pub run_lines : (ℕ → List ℕ) → ProgramTree → List Event → List ℕ
run_lines path_of p events = closed_output (reach p events).output ++ outcome_line path_of (outcome_of p (reach p events))

-- how many events came before, in words
abbrev pub shown_after : ℕ → List ℕ
shown_after count = codes "after " ++ decimal count ++ codes " events: "

-- the place of a thread's step, in words
abbrev pub shown_step : (ℕ → List ℕ) → Place → ℕ → List ℕ
shown_step path_of place thread = shown_place path_of place ++ codes " thread " ++ decimal thread

-- what a trace found, in words
abbrev pub shown_finding : (ℕ → List ℕ) → Finding → List ℕ
shown_finding path_of findings.Clean = codes "clean"
shown_finding path_of (findings.Fault count thread kind place) =
    shown_after count ++ codes "fault " ++ kind_name kind ++ codes " " ++ shown_step path_of place thread
shown_finding path_of (findings.Race count first first_place second second_place) =
    shown_after count ++ codes "race " ++ shown_step path_of first_place first ++ codes ", " ++ shown_step path_of second_place second

-- the last line of a trace
abbrev pub finding_line : (ℕ → List ℕ) → Finding → List ℕ
finding_line path_of finding = line (shown_finding path_of finding)

-- what is printed of a manifest that was written again
abbrev pub upgraded_line : List ℕ → List ℕ
upgraded_line path = line (path ++ codes ": version 2")
