-- The text of a whole unit.
use Rattle.std.specs.Prelude.{◌≡◌, ◌<◌, ◌≤◌, ◌⊎◌, ℕ, Bool, List, [], ◌∷◌, length, map, slice_index, Option, Some, None, slice_get, Result, Ok, Err}
use Rattle.vf_base.specs.declared.place.Place.{Place}
use Rattle.vf_base.specs.declared.rule.Rule.TheVariants as rules_of
use Rattle.vf_base.specs.declared.refusal.Shown.TheVariants as shown
use Rattle.vf_snapshot.specs.declared.held.SnapFault.{SnapFault}
use Rattle.vf_snapshot.specs.declared.held.SnapFault.TheVariants as snap_faults
use Rattle.vf_preproc.specs.declared.fault.ExpandFault.{ExpandFault}
use Rattle.vf_preproc.specs.declared.fault.ExpandFault.TheVariants as faults
use Rattle.vf_lexer.specs.declared.token.Token.{Token}
use Rattle.vf_lexer.specs.Tokens.{place_after}
use Rattle.vf_preproc.specs.declared.sources.Loaded.{Loaded}
use Rattle.vf_preproc.specs.Directives.{Fault, Refused, Missing, Unread, ◌>>=◌, lines_of}
use Rattle.vf_preproc.specs.Units.{unit_of, Lexes, HasNoToken}
use Rattle.vf_expand.specs.declared.state.Walk.{Walk}
use Rattle.vf_expand.specs.Walks.{pauses_of, going_of}
use Rattle.vf_expand.specs.Steps.{Faults}
use Rattle.vf_preproc.specs.UnitText.{Source, Text, Faulty, TooLong, Absent, Unknown, Library, Unit_so_far, Header, Text_of_unit, file_text, header_at, begun, completed, beginning, unread}
use Rattle.vf_expand.specs.declared.whole.UnitTokens.{UnitTokens}

-- a unit of which nothing was made yet
abbrev pub no_unit : Unit_so_far
no_unit = record { tokens = []; paths = []; names = []; complete = []; headers = [] }

-- the file that a unit is of, by what there is to know of it
abbrev pub named : Source → Result Loaded Fault
named Unknown = Err Unread
named Absent = Err Missing
named (TooLong number) = Err (Refused rules_of.Size (beginning number))
named (Faulty place) = Err (Refused rules_of.Lex place)
named (Text number bytes tokens) = Ok (record { number = number; bytes = bytes; tokens = tokens })

-- what a fault of the snapshot is for the file that a unit is of
abbrev pub fault_of : SnapFault → ExpandFault
fault_of snap_faults.Missing = faults.Missing
fault_of (snap_faults.TooLong number) = faults.Refused (record { rule = rules_of.Size; place = beginning number; shown = shown.Nothing })
fault_of snap_faults.ReadFault = faults.ReadFault
fault_of snap_faults.Memory = faults.Memory

-- what a fault of a file is where the file is included: a missing one is refused at the include
abbrev pub fault_at : Place → ExpandFault → ExpandFault
fault_at hash faults.Missing = faults.Refused (record { rule = rules_of.Include; place = hash; shown = shown.Nothing })
fault_at hash (faults.Refused r) = faults.Refused r
fault_at hash faults.ReadFault = faults.ReadFault
fault_at hash faults.Memory = faults.Memory

-- the place behind the last byte of a file with a number
abbrev pub end_of : ℕ → List ℕ → Place
end_of number bytes = place_after (beginning number) bytes

-- the files of which a file consists, once it is complete
abbrev pub files_of : Option Header → List ℕ
files_of None = []
files_of (Some header) = header.files

-- of each file of a unit the numbers of the files of which it consists, by the numbers of all
abbrev pub includes_of : List ℕ → List (Option Header) → List (List ℕ)
includes_of numbers complete = map (λ h. map (slice_index numbers) (files_of h)) complete

-- a unit, by the token that would be one too many
abbrev pub without_excess : Place → Unit_so_far → Option Token → Result Text_of_unit Fault
without_excess place unit None = Ok (record { tokens = unit.tokens; headers = unit.headers; includes = includes_of (place.file ∷ unit.headers) unit.complete; end_of_file = place })
without_excess place unit (Some token) = Err (Refused rules_of.Size token.place)

-- a unit has at most 200,000 tokens
abbrev pub counted : Place → Unit_so_far → Result Text_of_unit Fault
counted place unit = without_excess place unit (slice_get unit.tokens 200000)

-- the text of the unit of a file that was read, with at most 32 includes within one another
abbrev pub text_of_file : Library → List ℕ → Loaded → Result Text_of_unit Fault
text_of_file library path file = file_text (header_at 32 library) (record { path = path; bytes = file.bytes }) 0 file.tokens (begun no_unit path file.tokens) >>= λ s. counted (end_of file.number file.bytes) (completed 0 s.0 s.1)

-- the text of the unit of a path: the tokens of its file, with those of each header at its first include, and macros replaced
abbrev pub text_of_unit : Library → List ℕ → Result Text_of_unit Fault
text_of_unit library path = named (library path) >>= λ file. text_of_file library path file

-- what is given of a unit
abbrev pub text_of : UnitTokens → Text_of_unit
text_of u = record { tokens = u.tokens; headers = u.headers; includes = u.includes; end_of_file = u.«end» }

-- what is given of a unit whose file was read; a fault of reading and want of memory say nothing
abbrev pub FileGives : Result Text_of_unit Fault → Result UnitTokens ExpandFault → Type 0
FileGives text (Ok u) = text ≡ Ok (text_of u)
FileGives text (Err e) = Faults e text

-- what is given of a unit; a fault of reading and want of memory say nothing
abbrev pub UnitGives : Result Text_of_unit Fault → Result UnitTokens ExpandFault → Type 0
UnitGives text (Err faults.Missing) = text ≡ Err Missing
UnitGives text result = FileGives text result

-- the walk stands at the beginning of the file that the unit is of
pub record Starts (path : List ℕ) (file : Loaded) (walk : Walk) : Type 0 where
  pub unit : unit_of walk.unit ≡ begun no_unit path file.tokens
  pub pauses : pauses_of walk.stack.items ≡ []
  pub current : going_of walk.current ≡ record { file = record { path = path; bytes = file.bytes }; lines = lines_of file.tokens; scope = unread 0 }

-- what is made of a file's bytes: its tokens, or the place where it has none
abbrev pub Cut : Bool → ℕ → List ℕ → Result Loaded ExpandFault → Type 0
Cut ghost number bytes (Ok file) = (length bytes ≤ 1048576) × (file.number ≡ number) × (file.bytes ≡ bytes) × Lexes ghost number bytes file.tokens
Cut ghost number bytes (Err (faults.Refused r)) = (r.shown ≡ shown.Nothing)
    × (((1048576 < length bytes) × (r.rule ≡ rules_of.Size) × (r.place ≡ beginning number))
    ⊎ ((length bytes ≤ 1048576) × (r.rule ≡ rules_of.Lex) × HasNoToken ghost number bytes r.place))
Cut ghost number bytes (Err faults.Missing) = ⊥
Cut ghost number bytes (Err faults.ReadFault) = ⊥
Cut ghost number bytes (Err faults.Memory) = Unit {0}

-- what is known of the file that a unit is of, by what was read; a fault of reading and want of memory say nothing
abbrev pub NamedGives : Result Loaded Fault → Result Loaded ExpandFault → Type 0
NamedGives text (Ok file) = text ≡ Ok file
NamedGives text (Err faults.Missing) = text ≡ Err Missing
NamedGives text (Err e) = Faults e text
