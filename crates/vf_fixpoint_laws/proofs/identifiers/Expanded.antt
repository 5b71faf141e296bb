-- The names among the tokens of a unit that was expanded are words.
use Rattle.std.proofs.Common.{◌≡◌, ℕ, zero, suc, Bool, true, false, List, [], ◌∷◌, ◌++◌, length, slice_get, slice_set, Option, Some, None, Ok, Result, refl, subst}
use Rattle.std.specs.Prelude.{IfOk, if◌then◌else◌}
use Rattle.vf_base.specs.declared.place.Place.{Place}
use Rattle.vf_lexer.specs.declared.token.Token.{Token}
use Rattle.vf_names.specs.Names.{number_of}
use Rattle.vf_preproc.specs.declared.groups.Group.{Group}
use Rattle.vf_preproc.specs.declared.sources.Loaded.{Loaded}
use Rattle.vf_preproc.specs.Directives.{Fault, lines_of}
use Rattle.vf_preproc.specs.UnitText.{Absent, any_header, begun, closed, completed, Faulty, File, file_text, followed, Header, header_at, Includer, Library, loaded, new_header, old_header, Scope, Source, Text, Text_of_unit, TooLong, Unit_so_far, Unknown, unread}
use Rattle.vf_parse_real.specs.Units.{is_real, real_tokens}
use Rattle.vf_expand.specs.Wholes.{counted, end_of, named, no_unit, text_of_file, text_of_unit, without_excess}
use Rattle.vf_fixpoint_laws.specs.identifiers.Names.{NamesAreWords, TellsWords}
use Rattle.vf_fixpoint_laws.proofs.identifiers.Macros.{if_bound, MacrosAreWords}
use Rattle.vf_fixpoint_laws.proofs.identifiers.Lines.{followed_words, Found, GoesOn, HeaderIsWords, HeadersAreWords, lines_words, Sound, UnitIsWords}

-- ---- a file to its end
closed_words : (unit : Unit_so_far) (scope : Scope) (groups : List Group) → UnitIsWords unit → MacrosAreWords scope.macros → IfOk (closed unit scope groups) Found
closed_words unit scope [] u m = (u, m)
closed_words unit scope (g ∷ gs) u m = tt

file_words : (include : Includer) → Sound include → (file : File) (n : ℕ) (tokens : List Token) (unit : Unit_so_far) → NamesAreWords tokens → UnitIsWords unit → IfOk (file_text include file n tokens unit) Found
file_words include sound file n tokens unit words u = if_bound GoesOn Found (followed include file (lines_of tokens) unit (unread n)) (λ (s : Unit_so_far × Scope). closed s.0 s.1 s.1.groups)
    (followed_words include sound file (lines_of tokens) unit (unread n) (lines_words tokens words) u tt) (λ s g. closed_words s.0 s.1 s.1.groups g.0 g.1)

-- ---- headers
begun_words : (complete : List (Option Header)) → HeadersAreWords complete → HeadersAreWords (complete ++ None ∷ [])
begun_words [] h = (tt, tt)
begun_words (o ∷ complete) h = (h.0, begun_words complete h.1)

set_words : (complete : List (Option Header)) (n : ℕ) (header : Header) → HeadersAreWords complete → HeaderIsWords header → HeadersAreWords (slice_set complete n (Some header))
set_words [] n header h k = tt
set_words (o ∷ complete) zero header h k = (k, h.1)
set_words (o ∷ complete) (suc n) header h k = (h.0, set_words complete n header h.1 k)

completed_words : (n : ℕ) (unit : Unit_so_far) (header : Header) → UnitIsWords unit → HeaderIsWords header → UnitIsWords (completed n unit header)
completed_words n unit header u h = record { tokens = u.tokens; headers = set_words unit.complete n header u.headers h }

get_words : (hash : Place) (unit : Unit_so_far) (complete : List (Option Header)) (n : ℕ) → UnitIsWords unit → HeadersAreWords complete → IfOk (old_header hash unit (slice_get complete n)) Found
get_words hash unit [] n u h = tt
get_words hash unit (None ∷ complete) zero u h = tt
get_words hash unit (Some header ∷ complete) zero u h = (u, h.0)
get_words hash unit (o ∷ complete) (suc n) u h = get_words hash unit complete n u h.1

new_words : (include : Includer) → Sound include → (path : List ℕ) (unit : Unit_so_far) (file : Loaded) → NamesAreWords file.tokens → UnitIsWords unit → IfOk (new_header include path unit file) Found
new_words include sound path unit file words u =
    let start = begun (record unit { headers = unit.headers ++ file.number ∷ [] }) path file.tokens in
    if_bound Found Found (file_text include (record { path = path; bytes = file.bytes }) (length unit.paths) file.tokens start) (λ (s : Unit_so_far × Header). Ok (completed (length unit.paths) s.0 s.1, s.1))
    (file_words include sound (record { path = path; bytes = file.bytes }) (length unit.paths) file.tokens start words (record { tokens = u.tokens; headers = begun_words unit.complete u.headers }))
    (λ s f. (completed_words (length unit.paths) s.0 s.1 f.0 f.1, f.1))

-- ---- what a library tells
-- the names among the tokens of a file that was read are words
abbrev LoadedIsWords : Loaded → Type 0
LoadedIsWords file = NamesAreWords file.tokens

loaded_words : (library : Library) → TellsWords library → (hash : Place) (path : List ℕ) (s : Source) → library path ≡ s → IfOk (loaded hash s) LoadedIsWords
loaded_words library tells hash path (Text number bytes tokens) is = tells path number bytes tokens is
loaded_words library tells hash path (Faulty place) is = tt
loaded_words library tells hash path (TooLong number) is = tt
loaded_words library tells hash path Absent is = tt
loaded_words library tells hash path Unknown is = tt

named_words : (library : Library) → TellsWords library → (path : List ℕ) (s : Source) → library path ≡ s → IfOk (named s) LoadedIsWords
named_words library tells path (Text number bytes tokens) is = tells path number bytes tokens is
named_words library tells path (Faulty place) is = tt
named_words library tells path (TooLong number) is = tt
named_words library tells path Absent is = tt
named_words library tells path Unknown is = tt

headers_sound : (depth : ℕ) (library : Library) → TellsWords library → Sound (header_at depth library)
headers_sound zero library tells path hash unit u = tt
headers_sound (suc depth) library tells path hash unit u = by_number (headers_sound depth library tells) (number_of unit.paths path)
  where
    by_number : Sound (header_at depth library) → (o : Option ℕ) → IfOk (any_header (header_at depth library) library path hash unit o) Found
    by_number sound None = if_bound LoadedIsWords Found (loaded hash (library path)) (λ file. new_header (header_at depth library) path unit file) (loaded_words library tells hash path (library path) refl) (λ file words. new_words (header_at depth library) sound path unit file words u)
    by_number sound (Some n) = get_words hash unit unit.complete n u u.headers

-- ---- whole units
-- the names among the tokens of the text of a unit are words
abbrev TextIsWords : Text_of_unit → Type 0
TextIsWords u = NamesAreWords u.tokens

counted_words : (place : Place) (unit : Unit_so_far) (o : Option Token) → UnitIsWords unit → IfOk (without_excess place unit o) TextIsWords
counted_words place unit None u = u.tokens
counted_words place unit (Some token) u = tt

file_text_words : (library : Library) → TellsWords library → (path : List ℕ) (file : Loaded) → NamesAreWords file.tokens → IfOk (text_of_file library path file) TextIsWords
file_text_words library tells path file words =
    if_bound Found TextIsWords (file_text (header_at 32 library) (record { path = path; bytes = file.bytes }) 0 file.tokens (begun no_unit path file.tokens)) (λ (s : Unit_so_far × Header). counted (end_of file.number file.bytes) (completed 0 s.0 s.1))
    (file_words (header_at 32 library) (headers_sound 32 library tells) (record { path = path; bytes = file.bytes }) 0 file.tokens (begun no_unit path file.tokens) words (record { tokens = tt; headers = (tt, tt) }))
    (λ s f. counted_words (end_of file.number file.bytes) (completed 0 s.0 s.1) (slice_get (completed 0 s.0 s.1).tokens 200000) (completed_words 0 s.0 s.1 f.0 f.1))

unit_text_words : (library : Library) (path : List ℕ) → TellsWords library → IfOk (text_of_unit library path) TextIsWords
unit_text_words library path tells = if_bound LoadedIsWords TextIsWords (named (library path)) (λ file. text_of_file library path file) (named_words library tells path (library path) refl) (file_text_words library tells path)

-- the names among the tokens of a unit that was expanded are words
pub expanded_words : (library : Library) (path : List ℕ) (u : Text_of_unit) → TellsWords library → text_of_unit library path ≡ Ok u → NamesAreWords u.tokens
expanded_words library path u tells is = let w : IfOk {E = Fault} (Ok u) TextIsWords = subst (λ (r : Result Text_of_unit Fault). IfOk r TextIsWords) is (unit_text_words library path tells) in w

-- and so are those of its real text
pub real_words : (tokens : List Token) → NamesAreWords tokens → NamesAreWords (real_tokens tokens)
real_words [] words = tt
real_words (t ∷ tokens) words = by_test (is_real t) (real_words tokens words.1)
  where
    by_test : (b : Bool) → NamesAreWords (real_tokens tokens) → NamesAreWords (if b then t ∷ real_tokens tokens else real_tokens tokens)
    by_test true rest = (words.0, rest)
    by_test false rest = rest
