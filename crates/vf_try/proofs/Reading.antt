-- Files that are read one after the other.
use Rattle.std.proofs.Common.{◌≡◌, ◌∙◌, refl, sym, ap, subst, ℕ, ◌+◌, ◌<◌, ◌≤◌, List, [], ◌∷◌, ◌++◌, length, map, take, get_or, Bool, true, false, cond, Contains, Option, Some, None, Result, Err, IsErrOf, arith}
use Rattle.std.specs.List.{All}
use Rattle.std.specs.FinMap.{get}
use Rattle.std.specs.Borrow.{Bor}
use Rattle.std.proofs.lemmas.List.{take_all, take_more, map-append, length-map, get_or-map, get_or_default}
use Rattle.vf_base.specs.Outside.{Contents, IsAbsent, Rose}
use Rattle.vf_base.specs.declared.refusal.Refusal.{Refusal}
use Rattle.vf_snapshot.specs.Holdings.{Holdings, Grows, IsHeldAt, known_of, number_in}
use Rattle.vf_snapshot.specs.Paths.{normal}
use Rattle.vf_snapshot.specs.declared.held.Held.TheVariants as known
use Rattle.vf_expand.specs.Worlds.{World, AllTold, IsToldBy, Reads, prelude_text, world}
use Rattle.vf_expand.proofs.Learning.{reads_same, reads_then}
use Rattle.vf_words.specs.Words.{IsSourcePath}
use Rattle.vf_words.specs.Commands.{paths_of}
use Rattle.vf_words.specs.Positionals.{texts}
use Rattle.vf_words.proofs.Scoped.{source_ascii}
use Rattle.vf_module.specs.Readings.{UnitRead, result_of}
use Rattle.vf_module.specs.declared.reading.UnitFault.{UnitFault}
use Rattle.vf_module.specs.declared.reading.UnitFault.TheVariants as unit_faults
use Rattle.vf_report.specs.declared.status.Stop.{Stop}
use Rattle.vf_report.specs.declared.status.Stop.TheVariants as stops
use Rattle.vf_try.specs.declared.files.FileRead.{FileRead}
use Rattle.vf_try.specs.Files.{FileTree, FilesRead, IsAscii, IsSomeAbsent, ReadsBy, file_of}
use Rattle.vf_try.specs.Files as files

-- and one more
behind : {contents : Contents} {old mid new : Holdings} {paths : List (List ℕ)} {fs : List FileTree} (path : List ℕ) (r : Result UnitRead Refusal) → FilesRead contents old paths fs mid → Grows mid new → AllTold contents new → ReadsBy new path r
    → FilesRead contents old (paths ++ path ∷ []) (fs ++ record { path = path; result = r } ∷ []) new
behind path r files.none grows told reads = files.more grows told reads files.none
behind path r (files.more g t h rest) grows told reads = files.more g t h (behind path r rest grows told reads)

-- ---- what is held is told

-- all that is held where nothing is held is told
nothing_told : (contents : Contents) (held : Holdings) → held ≡ [] → AllTold contents held
nothing_told contents held none path number h at =
    let empty : IsHeldAt [] path number h = subst (λ (x : Holdings). IsHeldAt x path number h) none at in
    absurd (no_number path number empty.0)
  where
    no_number : (path : List ℕ) (number : ℕ) → None ≡ Some number → ⊥
    no_number path number e = cc

-- what is held after reads that began with nothing is told of the files
all_told : (contents : Contents) (start new : World) → start.held ≡ [] → start.contents ≡ contents → Reads start new → AllTold contents new.held
all_told contents start new none same reads = subst (λ (c : Contents). AllTold c new.held) same (reads.told (nothing_told start.contents start.held none))

no_bytes : (text : List ℕ) → known.Missing ≡ known.Bytes text → ⊥
no_bytes text e = cc

missing_is_absent : (file : Option (List ℕ)) → known.Missing ≡ known_of file → file ≡ None
missing_is_absent None e = refl
missing_is_absent (Some bytes) e = absurd (never bytes _ e)
  where
    never : (bytes : List ℕ) (b : Bool) → known.Missing ≡ cond b (known.Bytes bytes) known.TooLong → ⊥
    never bytes true e = cc
    never bytes false e = cc

absent_by : (contents : Contents) (path : List ℕ) (prelude : Option (List ℕ)) → IsToldBy contents path known.Missing prelude → IsAbsent contents path
absent_by contents path (Some text) e = absurd (no_bytes text e)
absent_by None path None e = tt
absent_by (Some m) path None e = missing_is_absent (get m path) e

-- a file that is held as missing is none of those that are told
absent : (contents : Contents) (held : Holdings) (path : List ℕ) → AllTold contents held → ((number : ℕ) × IsHeldAt held path number known.Missing) → IsAbsent contents path
absent contents held path told (number, at) = absent_by contents path (prelude_text path) (told path number known.Missing at)

-- ---- words and what they mean

-- the word at a place that is within, as a loop reads it
abbrev pub word_in : List (Bor (List ℕ)) → ℕ → Bor (List ℕ)
word_in words k = get_or words k (record { ref_ptr = (0, 0); now = [] })

pub word_at : (words : List (Bor (List ℕ))) (k : ℕ) → k < length words → get_or words k (word_in words k) ≡ word_in words k
word_at words k low = get_or_default words k (word_in words k) (record { ref_ptr = (0, 0); now = [] }) low

-- the paths of one word more
paths_more : (words : List (Bor (List ℕ))) (k : ℕ) (w : Bor (List ℕ)) → k < length words → get_or words k w ≡ w → paths_of (take (k + 1) words) ≡ paths_of (take k words) ++ normal [] w.now ∷ []
paths_more words k w low is =
    ap paths_of (take_more words k w low)
    ∙ ap (map (normal [])) (map-append (λ (x : Bor (List ℕ)). x.now) (take k words) (get_or words k w ∷ []))
    ∙ map-append (normal []) (texts (take k words)) ((get_or words k w).now ∷ [])
    ∙ ap (λ (x : Bor (List ℕ)). paths_of (take k words) ++ normal [] x.now ∷ []) is

-- what a word means is among the paths
among : (words : List (Bor (List ℕ))) (k : ℕ) (w : Bor (List ℕ)) (path : List ℕ) → k < length words → get_or words k w ≡ w → path ≡ normal [] w.now → Contains (paths_of words) path
among words k w path low is named =
    let few : k < length (texts words) = omega (arith, low, length-map words (λ (x : Bor (List ℕ)). x.now)) in
    let text : get_or (texts words) k w.now ≡ w.now = get_or-map (λ (x : Bor (List ℕ)). x.now) words k w w.now low ∙ ap (λ (x : Bor (List ℕ)). x.now) is in
    (k, omega (arith, few, length-map (texts words) (normal [])), get_or-map (normal []) (texts words) k w.now path few ∙ ap (normal []) text ∙ sym named)

-- what a word means is of ASCII
pub path_ascii : (words : List (Bor (List ℕ))) (k : ℕ) (w : Bor (List ℕ)) (word path : List ℕ) → All (λ (x : Bor (List ℕ)). IsSourcePath x.now) words → k < length words → get_or words k w ≡ w → word ≡ w.now → path ≡ normal [] word → IsAscii path
path_ascii words k w word path sources low is word_is path_is =
    subst IsAscii (sym (path_is ∙ ap (normal []) word_is)) (source_ascii w.now (subst (λ (x : Bor (List ℕ)). IsSourcePath x.now) is (sources k w low)))

-- ---- reading files in order

-- no file was read yet
pub begun : (contents : Contents) (held : Holdings) (items : List FileRead) → held ≡ [] → items ≡ [] → FilesRead contents [] [] (map file_of items) held
begun contents held items none empty = subst (λ (h : Holdings). FilesRead contents [] [] (map file_of items) h) (sym none) (subst (λ (xs : List FileRead). FilesRead contents [] [] (map file_of xs) []) (sym empty) files.none)

pub reads_begun : (held : Holdings) (contents : Contents) (failures absences put_failures : ℕ) → held ≡ [] → Reads (world [] contents failures absences put_failures) (world held contents failures absences put_failures)
reads_begun held contents failures absences put_failures none =
    reads_same (world [] contents failures absences put_failures) (world held contents failures absences put_failures) none refl (omega arith) (omega arith) (omega arith)

-- one file more was read
pub read_on : (contents : Contents) (start mid new : World) (words : List (Bor (List ℕ))) (k : ℕ) (w : Bor (List ℕ)) (word path : List ℕ) (items more : List FileRead) (f : FileRead)
    → start.held ≡ [] → start.contents ≡ contents → k < length words → get_or words k w ≡ w → word ≡ w.now → path ≡ normal [] word
    → FilesRead contents [] (paths_of (take k words)) (map file_of items) mid.held → Reads start mid → Reads mid new
    → f.path ≡ path → ReadsBy new.held path (result_of f.reading) → more ≡ items ++ f ∷ []
    → FilesRead contents [] (paths_of (take (k + 1) words)) (map file_of more) new.held
read_on contents start mid new words k w word path items more f none same low is word_is path_is read before after named reads pushed =
    let told : AllTold contents new.held = all_told contents start new none same (reads_then start mid new before after) in
    let own : f.path ≡ normal [] w.now = named ∙ path_is ∙ ap (normal []) word_is in
    let all : FilesRead contents [] (paths_of (take k words) ++ f.path ∷ []) (map file_of items ++ file_of f ∷ []) new.held =
    behind f.path (result_of f.reading) read after.grows told (subst (λ (p : List ℕ). ReadsBy new.held p (result_of f.reading)) (sym named) reads) in
    subst (λ (fs : List FileTree). FilesRead contents [] (paths_of (take (k + 1) words)) fs new.held) (sym (ap (map file_of) pushed ∙ map-append file_of items (f ∷ [])))
    (subst (λ (ps : List (List ℕ)). FilesRead contents [] ps (map file_of items ++ file_of f ∷ []) new.held) (sym (paths_more words k w low is ∙ ap (λ (p : List ℕ). paths_of (take k words) ++ p ∷ []) (sym own))) all)

-- all files were read
pub all_read : (contents : Contents) (words : List (Bor (List ℕ))) (k : ℕ) (fs : List FileTree) (held : Holdings) → length words ≤ k → FilesRead contents [] (paths_of (take k words)) fs held → FilesRead contents [] (paths_of words) fs held
all_read contents words k fs held past h = subst (λ (ws : List (Bor (List ℕ))). FilesRead contents [] (paths_of ws) fs held) (take_all k words past) h

-- a path is not there, where the files are told
absent_among : (contents : Contents) (words : List (Bor (List ℕ))) (k : ℕ) (w : Bor (List ℕ)) (path : List ℕ) → k < length words → get_or words k w ≡ w → path ≡ normal [] w.now → IsAbsent contents path → IsSomeAbsent contents (paths_of words)
absent_among None words k w path low is named h = tt
absent_among (Some m) words k w path low is named h = (path, among words k w path low is named, h)

-- a file that is held as missing by a snapshot that was fresh is not there
pub some_absent : (contents : Contents) (start mid new : World) (words : List (Bor (List ℕ))) (k : ℕ) (w : Bor (List ℕ)) (word path : List ℕ)
    → start.held ≡ [] → start.contents ≡ contents → k < length words → get_or words k w ≡ w → word ≡ w.now → path ≡ normal [] word
    → Reads start mid → Reads mid new → ((number : ℕ) × IsHeldAt new.held path number known.Missing) → IsSomeAbsent contents (paths_of words)
some_absent contents start mid new words k w word path none same low is word_is path_is before after missing =
    absent_among contents words k w path low is (path_is ∙ ap (normal []) word_is) (absent contents new.held path (all_told contents start new none same (reads_then start mid new before after)) missing)

-- and it raised the count
pub some_rose : (start mid new : World) (path : List ℕ) → start.held ≡ [] → Reads start mid → Reads mid new → ((number : ℕ) × IsHeldAt new.held path number known.Missing) → Rose start.absences new.absences
some_rose start mid new path none before after (number, at) = (reads_then start mid new before after).absent path number (ap (λ (x : Holdings). number_in x path) none) at

-- ---- stops

-- a file that is missing stops a call
pub missing_stops : {A B : Type 0} (fault : UnitFault) (stop : Stop) (P : Type 0) → (stop ≡ stops.Missing → fault ≡ unit_faults.Missing) → (IsErrOf {T = A} (Err fault) unit_faults.Missing → P) → IsErrOf {T = B} (Err stop) stops.Missing → P
missing_stops fault stop P means h e = let is : stop ≡ stops.Missing = cc in h (ap Err (means is))

-- what is held of a path that comes by another name
pub held_by : (held : Holdings) (text own : List ℕ) → text ≡ own → ((number : ℕ) × IsHeldAt held text number known.Missing) → (number : ℕ) × IsHeldAt held own number known.Missing
held_by held text own same h = subst (λ (p : List ℕ). (number : ℕ) × IsHeldAt held p number known.Missing) same h

-- what a path that comes by another name reads as
pub reads_by : (held : Holdings) (text own : List ℕ) (r : Result UnitRead Refusal) → text ≡ own → ReadsBy held text r → ReadsBy held own r
reads_by held text own r same h = subst (λ (p : List ℕ). ReadsBy held p r) same h

-- a stop of one call is a stop of another
pub stopped : {A B : Type 0} (s t : Stop) → IsErrOf {T = A} (Err s) t → IsErrOf {T = B} (Err s) t
stopped s t e = let is : s ≡ t = cc in ap Err is
