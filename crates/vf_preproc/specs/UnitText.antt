-- Unit text: the tokens of a file, with those of each header at its first include (C11 5.1.1.2, 6.10).
use Rattle.std.specs.Prelude.{ℕ, zero, suc, Bool, true, false, not, ◌&&◌, ◌||◌, nat_eq, List, [], ◌∷◌, ◌++◌, length, map, filter, fold, slice_get, slice_set, Option, Some, None, is_some, unwrap_or, Result, Ok, Err, if◌then◌else◌}
use Rattle.std.specs.List.{list_any}
use Rattle.vf_base.specs.declared.place.Place.{Place}
use Rattle.vf_base.specs.declared.rule.Rule.TheVariants as rules_of
use Rattle.vf_lexer.specs.declared.token.Token.{Token}
use Rattle.vf_names.specs.Names.{number_of, put}
use Rattle.vf_preproc.specs.declared.words.Word.{Word}
use Rattle.vf_preproc.specs.declared.words.Word.TheVariants as words_of
use Rattle.vf_preproc.specs.declared.groups.Group.{Group}
use Rattle.vf_preproc.specs.declared.sources.Loaded.{Loaded}
use Rattle.vf_preproc.specs.Macros.{Table, no_macros, is_name, body_of, expansion}
use Rattle.vf_preproc.specs.Frames.{front}
use Rattle.vf_preproc.specs.Keywords.{is_keyword}
use Rattle.vf_preproc.specs.Directives.{Fault, Refused, Unread, ◌>>=◌, no_directive, no_include, lines_of, is_hash, word_of, has_ghost, is_taken, skipped_group, if_groups, is_alone, else_groups, end_groups, outermost, defined, begins_parameters}
use Rattle.vf_preproc.specs.Targets.{is_ghost_path, target}

-- what there is to know of the file at a path: its number, its bytes and its tokens; the place where it has no token; that it is too long; that there is none; or nothing
pub data Source : Type 0 where
  Text : ℕ → List ℕ → List Token → Source
  Faulty : Place → Source
  TooLong : ℕ → Source
  Absent : Source
  Unknown : Source

-- what there is to know of all files
abbrev pub Library : Type 0
Library = List ℕ → Source

-- what a header leaves for those who include it: its macros, and the files of which it consists, by their numbers among those that were begun: itself, and those that it includes, directly or through others
pub record Header : Type 0 where
  pub macros : Table
  pub files : List ℕ

-- what was made of a unit so far: its tokens, of which those behind the 200,001st do not matter; the files that were begun, first the one that it is of, each with the names that stand in it and with its header once that is complete; and the numbers of the headers
pub record Unit_so_far : Type 0 where
  pub tokens : List Token
  pub paths : List (List ℕ)
  pub names : List (List (List ℕ))
  pub complete : List (Option Header)
  pub headers : List ℕ

-- what was made of a file so far: its macros, the groups that are open, innermost first, and the files of which it consists
pub record Scope : Type 0 where
  pub macros : Table
  pub groups : List Group
  pub files : List ℕ

-- a file that is being expanded
pub record File : Type 0 where
  pub path : List ℕ
  pub bytes : List ℕ

-- the names that stand in a text, each once
abbrev pub names_in : List Token → List (List ℕ)
names_in tokens = fold put [] (map (λ (t : Token). t.text) (filter is_name tokens))

-- the names that stand in the file with a number
abbrev pub names_of : List (List (List ℕ)) → ℕ → List (List ℕ)
names_of names file = unwrap_or (slice_get names file) []

-- a file is one of some
abbrev pub is_among : List ℕ → ℕ → Bool
is_among files file = list_any (nat_eq file) files

-- some files, and one more at their end unless it is one of them
abbrev pub with_file : List ℕ → ℕ → List ℕ
with_file files file = if is_among files file then files else files ++ file ∷ []

-- a real directive must not have ghost text on its line
abbrev pub is_mixed : File → List Token → Bool
is_mixed file words = not (is_ghost_path file.path) && has_ghost words

-- `#define NAME tokens` (C11 6.10.3)
abbrev pub define : Bool → Place → List Token → Table → Result Table Fault
define mixed hash (word ∷ name ∷ tokens) table = if mixed || not (is_name name) then no_directive hash
    else (if is_keyword name.text || begins_parameters name tokens then no_directive name.place
    else defined name.place name.text tokens table (body_of table name.text))
define mixed hash _ table = no_directive hash

-- the macros of a header join those of its includer
abbrev pub joined : Place → Table → List (List ℕ) → List (List Token) → Result Table Fault
joined hash table [] bodies = Ok table
joined hash table (name ∷ names) [] = Ok table
joined hash table (name ∷ names) (tokens ∷ bodies) = defined hash name tokens table (body_of table name) >>= λ t. joined hash t names bodies

-- a name that stands in one of the header's files is a macro of the includer and none of the header
abbrev pub clashes : List (List (List ℕ)) → Table → Header → Bool
clashes names table header = list_any (λ file. list_any (λ name. is_some (body_of table name) && not (is_some (body_of header.macros name))) (names_of names file)) header.files

-- a file behind the include of a header, by the names that stand in each file: it consists of the header's files too, and a C header's macros are the file's
abbrev pub with_header : Bool → Place → List (List (List ℕ)) → Header → Scope → Result Scope Fault
with_header ghost hash names header scope = if clashes names scope.macros header then no_directive hash
    else (if ghost then Ok (record scope { files = fold with_file scope.files header.files })
    else (joined hash scope.macros header.macros.names header.macros.bodies >>= λ table. Ok (record scope { macros = table; files = fold with_file scope.files header.files })))

-- what an include makes of a unit: the header, or a fault
abbrev pub Includer : Type 0
Includer = List ℕ → Place → Unit_so_far → Result (Unit_so_far × Header) Fault

-- an include
abbrev pub included : Includer → File → Place → Bool → List Token → Unit_so_far → Scope → Result (Unit_so_far × Scope) Fault
included include file hash ghost words unit scope =
    target ghost file.path file.bytes hash words >>= λ path.
    include path hash unit >>= λ found.
    with_header ghost hash found.0.names found.1 scope >>= λ s. Ok (found.0, s)

-- a file with these groups
abbrev pub in_groups : Scope → Result (List Group) Fault → Result Scope Fault
in_groups scope groups = groups >>= λ gs. Ok (record scope { groups = gs })

-- a directive about groups in text that is read
abbrev pub grouped : Bool → Place → List Token → Scope → Word → Result Scope Fault
grouped mixed hash words scope words_of.IfDefined = in_groups scope (if_groups mixed true scope.macros hash words scope.groups)
grouped mixed hash words scope words_of.IfNotDefined = in_groups scope (if_groups mixed false scope.macros hash words scope.groups)
grouped mixed hash words scope words_of.Else = in_groups scope (else_groups (mixed || not (is_alone words)) hash scope.groups)
grouped mixed hash words scope words_of.EndIf = in_groups scope (end_groups (mixed || not (is_alone words)) hash scope.groups)
grouped mixed hash words scope _ = no_directive hash

-- a file with these macros
abbrev pub in_macros : Scope → Result Table Fault → Result Scope Fault
in_macros scope table = table >>= λ t. Ok (record scope { macros = t })

-- a unit of which one file went on
abbrev pub in_unit : Unit_so_far → Result Scope Fault → Result (Unit_so_far × Scope) Fault
in_unit unit scope = scope >>= λ s. Ok (unit, s)

-- a directive by its word, in text that is read
abbrev pub directed : Includer → File → Token → List Token → Unit_so_far → Scope → Word → Result (Unit_so_far × Scope) Fault
directed include file hash words unit scope words_of.Include = if is_mixed file words then no_directive hash.place else included include file hash.place hash.is_ghost words unit scope
directed include file hash words unit scope words_of.Define = in_unit unit (in_macros scope (define (is_mixed file words) hash.place words scope.macros))
directed include file hash words unit scope word = in_unit unit (grouped (is_mixed file words) hash.place words scope word)

-- a directive in text that is left out: only groups count there
abbrev pub passed : File → Token → List Token → Unit_so_far → Scope → Word → Result (Unit_so_far × Scope) Fault
passed file hash words unit scope words_of.IfDefined = Ok (unit, record scope { groups = skipped_group hash.place ∷ scope.groups })
passed file hash words unit scope words_of.IfNotDefined = Ok (unit, record scope { groups = skipped_group hash.place ∷ scope.groups })
passed file hash words unit scope words_of.Else = in_unit unit (grouped (is_mixed file words) hash.place words scope words_of.Else)
passed file hash words unit scope words_of.EndIf = in_unit unit (grouped (is_mixed file words) hash.place words scope words_of.EndIf)
passed file hash words unit scope _ = Ok (unit, scope)

-- a directive in an annotation of a C file, which is an include alone
abbrev pub annotated : Includer → File → Token → List Token → Unit_so_far → Scope → Word → Result (Unit_so_far × Scope) Fault
annotated include file hash words unit scope words_of.Include = included include file hash.place true words unit scope
annotated include file hash words unit scope _ = no_directive hash.place

-- a directive
abbrev pub directive : Includer → File → Token → List Token → Unit_so_far → Scope → Result (Unit_so_far × Scope) Fault
directive include file hash words unit scope =
    if hash.is_ghost && not (is_ghost_path file.path)
    then (if is_taken scope.groups then annotated include file hash words unit scope (word_of words) else Ok (unit, scope))
    else (if is_taken scope.groups then directed include file hash words unit scope (word_of words) else passed file hash words unit scope (word_of words))

-- tokens at the end of those of a unit
abbrev pub with_tokens : Unit_so_far → List Token → Unit_so_far
with_tokens unit tokens = record unit { tokens = front (unit.tokens ++ tokens) }

-- a line: a directive, or text, in which macros are replaced
abbrev pub line : Includer → File → List Token → Unit_so_far → Scope → Result (Unit_so_far × Scope) Fault
line include file [] unit scope = Ok (unit, scope)
line include file (t ∷ ts) unit scope = if is_hash t then directive include file t ts unit scope
    else Ok ((if is_taken scope.groups then with_tokens unit (expansion scope.macros (t ∷ ts)) else unit), scope)

-- the lines of a file, in order
abbrev pub followed : Includer → File → List (List Token) → Unit_so_far → Scope → Result (Unit_so_far × Scope) Fault
followed include file [] unit scope = Ok (unit, scope)
followed include file (l ∷ ls) unit scope = line include file l unit scope >>= λ s. followed include file ls s.0 s.1

-- a file at whose end no group is open
abbrev pub closed : Unit_so_far → Scope → List Group → Result (Unit_so_far × Header) Fault
closed unit scope [] = Ok (unit, record { macros = scope.macros; files = scope.files })
closed unit scope (g ∷ gs) = no_directive (outermost g gs)

-- a file with a number of which no line was followed yet: it has no macros
abbrev pub unread : ℕ → Scope
unread number = record { macros = no_macros; groups = []; files = number ∷ [] }

-- a whole file, by its number among those that were begun
abbrev pub file_text : Includer → File → ℕ → List Token → Unit_so_far → Result (Unit_so_far × Header) Fault
file_text include file number tokens unit = followed include file (lines_of tokens) unit (unread number) >>= λ s. closed s.0 s.1 s.1.groups

-- a unit that begins a file with some tokens
abbrev pub begun : Unit_so_far → List ℕ → List Token → Unit_so_far
begun unit path tokens = record unit { paths = unit.paths ++ path ∷ []; names = unit.names ++ names_in tokens ∷ []; complete = unit.complete ++ None ∷ [] }

-- the beginning of a file
abbrev pub beginning : ℕ → Place
beginning number = record { file = number; line = 1; column = 1 }

-- a file that is met for the first time, by what there is to know of it
abbrev pub loaded : Place → Source → Result Loaded Fault
loaded hash Unknown = Err Unread
loaded hash Absent = no_include hash
loaded hash (TooLong number) = Err (Refused rules_of.Size (beginning number))
loaded hash (Faulty place) = Err (Refused rules_of.Lex place)
loaded hash (Text number bytes tokens) = Ok (record { number = number; bytes = bytes; tokens = tokens })

-- a unit in which the header that was begun behind so many files is complete
abbrev pub completed : ℕ → Unit_so_far → Header → Unit_so_far
completed number unit header = record unit { complete = slice_set unit.complete number (Some header) }

-- a header that was not begun yet
abbrev pub new_header : Includer → List ℕ → Unit_so_far → Loaded → Result (Unit_so_far × Header) Fault
new_header include path unit file =
    file_text include (record { path = path; bytes = file.bytes }) (length unit.paths) file.tokens (begun (record unit { headers = unit.headers ++ file.number ∷ [] }) path file.tokens) >>= λ s. Ok (completed (length unit.paths) s.0 s.1, s.1)

-- a header that was begun before: it is complete, or it includes itself
abbrev pub old_header : Place → Unit_so_far → Option (Option Header) → Result (Unit_so_far × Header) Fault
old_header hash unit (Some (Some header)) = Ok (unit, header)
old_header hash unit _ = no_include hash

-- what the include of a header makes of a unit, by its number among the files that were begun where it has one
abbrev pub any_header : Includer → Library → List ℕ → Place → Unit_so_far → Option ℕ → Result (Unit_so_far × Header) Fault
any_header include library path hash unit None = loaded hash (library path) >>= λ file. new_header include path unit file
any_header include library path hash unit (Some number) = old_header hash unit (slice_get unit.complete number)

-- what the include of a header makes of a unit, where includes may stand so deep within one another
abbrev pub header_at : ℕ → Library → Includer
header_at zero library path hash unit = no_include hash
header_at (suc depth) library path hash unit = any_header (header_at depth library) library path hash unit (number_of unit.paths path)

-- a unit's tokens, its headers in the order of their first includes, the numbers of the files of which each file consists, first for the unit's own file and then for each header, and the end of its file
pub record Text_of_unit : Type 0 where
  pub tokens : List Token
  pub headers : List ℕ
  pub includes : List (List ℕ)
  pub end_of_file : Place
