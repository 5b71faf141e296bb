-- The files of whole units.
use Rattle.std.proofs.Common.{◌≡◌, ℕ, zero, suc, Bool, true, false, ◌||◌, ◌==◌, ◌+◌, if◌then◌else◌, nat_eq, List, [], ◌∷◌, length, map, slice_get, slice_index, slice_set, Option, Some, None, Ok, refl, sym, ap, subst, ◌∙◌, arith}
use Rattle.std.specs.Option.{option_map}
use Rattle.std.proofs.lemmas.Bool.{eq-eqb, eqb-true, false≢true}
use Rattle.vf_base.specs.declared.place.Place.{Place}
use Rattle.vf_lexer.specs.Tokens.{place_after, place_behind}
use Rattle.vf_lexer.specs.declared.token.Token.{Token}
use Rattle.vf_preproc.specs.declared.sources.Loaded.{Loaded}
use Rattle.vf_preproc.specs.UnitText.{beginning, begun, completed, file_text, Header, header_at, is_among, Library, Text_of_unit, Unit_so_far}
use Rattle.vf_expand.specs.Wholes.{counted, end_of, files_of, includes_of, named, no_unit, text_of_file, without_excess}
use Rattle.vf_header_laws.specs.included.Closed.{AreApart, AreClosed, ConsistsOf, FilesHaveTheirOwnNumbers, HeadersAreClosed, IncludesAreClosed, TellsApart}
use Rattle.vf_header_laws.proofs.included.Files.{Done, IsClosed, none_some, not_last, or_first, or_second, some_same}
use Rattle.vf_header_laws.proofs.included.Headers.{file_ends, headers_sound}
use Rattle.vf_header_laws.proofs.included.Numbers.{IsTold, named_told, numbered_start}
use Rattle.vf_header_laws.proofs.included.Lines.{apart, bound, Good, ok_same}

-- ---- by the numbers of files
get_map : {A B : Type 0} (f : A → B) (xs : List A) (n : ℕ) → slice_get (map f xs) n ≡ option_map f (slice_get xs n)
get_map f [] n = refl
get_map f (x ∷ xs) zero = refl
get_map f (x ∷ xs) (suc n) = get_map f xs n

-- a number that is among some is that of one of the files
record Numbered (numbers : ℕ → ℕ) (files : List ℕ) (number : ℕ) : Type 0 where
  file : ℕ
  among : is_among files file ≡ true
  is : numbers file ≡ number

numbered_by : (numbers : ℕ → ℕ) (files : List ℕ) (number : ℕ) → is_among (map numbers files) number ≡ true → Numbered numbers files number
numbered_by numbers [] number h = absurd (false≢true h)
numbered_by numbers (f ∷ files) number h = by_test (nat_eq number (numbers f)) refl h (numbered_by numbers files number)
  where
    by_test : (b : Bool) → nat_eq number (numbers f) ≡ b → (b || is_among (map numbers files) number) ≡ true → (is_among (map numbers files) number ≡ true → Numbered numbers files number) → Numbered numbers (f ∷ files) number
    by_test true e h k = record { file = f; among = or_first (nat_eq f f) (is_among files f) (eq-eqb f f refl); is = sym (eqb-true number (numbers f) e) }
    by_test false e h k = let r = k h in record { file = r.file; among = or_second (nat_eq r.file f) (is_among files r.file) r.among; is = r.is }

number_among : (numbers : ℕ → ℕ) (files : List ℕ) (file : ℕ) → is_among files file ≡ true → is_among (map numbers files) (numbers file) ≡ true
number_among numbers [] file h = absurd (false≢true h)
number_among numbers (f ∷ files) file h = by_test (nat_eq file f) refl h (number_among numbers files file)
  where
    by_test : (b : Bool) → nat_eq file f ≡ b → (b || is_among files file) ≡ true → (is_among files file ≡ true → is_among (map numbers files) (numbers file) ≡ true) → (nat_eq (numbers file) (numbers f) || is_among (map numbers files) (numbers file)) ≡ true
    by_test true e h k = or_first (nat_eq (numbers file) (numbers f)) (is_among (map numbers files) (numbers file)) (eq-eqb (numbers file) (numbers f) (ap numbers (eqb-true file f e)))
    by_test false e h k = or_second (nat_eq (numbers file) (numbers f)) (is_among (map numbers files) (numbers file)) (k h)

-- a number that stands beside something is there
index_there : {A : Type 0} (numbers : List ℕ) (xs : List A) (n : ℕ) (x : A) → length numbers ≡ length xs → slice_get xs n ≡ Some x → slice_get numbers n ≡ Some (slice_index numbers n)
index_there numbers [] n x e h = none_some h
index_there [] (y ∷ xs) n x e h = absurd (no (length xs) (sym e))
  where
    no : (k : ℕ) → suc k ≡ 0 → ⊥
    no k e = grind (arith, e)
index_there (m ∷ numbers) (y ∷ xs) zero x e h = refl
index_there (m ∷ numbers) (y ∷ xs) (suc n) x e h = index_there numbers xs n x (less (length numbers) (length xs) e) h
  where
    less : (a b : ℕ) → suc a ≡ suc b → a ≡ b
    less a b e = grind (arith, e)

closed_by_numbers : (numbers : List ℕ) (complete : List (Option Header)) → length numbers ≡ length complete → IsClosed complete → AreClosed numbers (includes_of numbers complete)
closed_by_numbers numbers complete e c index files h file i = by_header (slice_get complete index) refl (sym (get_map (λ x. map (slice_index numbers) (files_of x)) complete index) ∙ h)
  where
    by_file : (header : Header) → map (slice_index numbers) header.files ≡ files → (r : Numbered (slice_index numbers) header.files file) → Done complete header.files r.file → ConsistsOf numbers (includes_of numbers complete) files file
    by_file header k r d = record {
      index = r.file;
      number = index_there numbers complete r.file (Some d.header) e d.at ∙ ap Some r.is;
      own = map (slice_index numbers) d.header.files;
      beside = get_map (λ x. map (slice_index numbers) (files_of x)) complete r.file ∙ ap (option_map (λ x. map (slice_index numbers) (files_of x))) d.at;
      inside = λ other j.
          let q = numbered_by (slice_index numbers) d.header.files other j in
          ap (λ fs. is_among fs other) (sym k) ∙ sym (ap (is_among (map (slice_index numbers) header.files)) q.is) ∙ number_among (slice_index numbers) header.files q.file (d.inside q.file q.among);
    }

    by_header : (o : Option (Option Header)) → slice_get complete index ≡ o → option_map (λ x. map (slice_index numbers) (files_of x)) o ≡ Some files → ConsistsOf numbers (includes_of numbers complete) files file
    by_header None j k = none_some k
    by_header (Some None) j k = absurd (false≢true (ap (λ fs. is_among fs file) (some_same k) ∙ i))
    by_header (Some (Some header)) j k =
        let is : map (slice_index numbers) header.files ≡ files = some_same k in
        let r = numbered_by (slice_index numbers) header.files file (ap (λ fs. is_among fs file) is ∙ i) in
        by_file header is r (c index header j r.file r.among)

-- ---- a whole unit
start_good : (library : Library) (own : ℕ) (path : List ℕ) (tokens : List Token) → IsTold library path own → Good library own (begun no_unit path tokens)
start_good library own path tokens told = record {
  numbered = numbered_start library own path told;
  even = refl;
  headers = refl;
  closed = λ n header e file h. none_some (not_last [] n header e);
}

counted_closed : {library : Library} {own : ℕ} (u : Text_of_unit) (unit : Unit_so_far) (number : ℕ) (bytes : List ℕ) → Good library own unit → counted (end_of number bytes) unit ≡ Ok u → AreClosed (u.end_of_file.file ∷ u.headers) u.includes
counted_closed u unit number bytes g h = by_token (slice_get unit.tokens 200000) h
  where
    by_token : (o : Option Token) → without_excess (end_of number bytes) unit o ≡ Ok u → AreClosed (u.end_of_file.file ∷ u.headers) u.includes
    by_token None e = subst (λ (t : Text_of_unit). AreClosed (t.end_of_file.file ∷ t.headers) t.includes) (ok_same e) (closed_by_numbers ((end_of number bytes).file ∷ unit.headers) unit.complete g.headers g.closed)
    by_token (Some t) e = absurd (apart e)

pub includes_are_closed : IncludesAreClosed
includes_are_closed library path u h =
    let b = bound (named (library path)) (λ (file : Loaded). text_of_file library path file) h in
    let start = begun no_unit path b.at.tokens in
    let r = bound (file_text (header_at 32 library) (record { path = path; bytes = b.at.bytes }) 0 b.at.tokens start) (λ (s : Unit_so_far × Header). counted (end_of b.at.number b.at.bytes) (completed 0 s.0 s.1)) b.next in
    let ends = file_ends library b.at.number (header_at 32 library) (headers_sound 32 library b.at.number) (record { path = path; bytes = b.at.bytes }) 0 b.at.tokens start r.at.0 r.at.1 (start_good library b.at.number path b.at.tokens (named_told library path b.at b.first)) refl r.first in
    counted_closed u (completed 0 r.at.0 r.at.1) b.at.number b.at.bytes ends.good r.next

-- ---- headers
-- the numbers of the files of which a file consists
abbrev numbers_of : List ℕ → Option Header → List ℕ
numbers_of numbers x = map (slice_index numbers) (files_of x)

-- behind the unit's own file, which is not complete, stand its headers
module _ (number : ℕ) (headers : List ℕ) (complete : List (Option Header)) (e : length headers ≡ length complete) (c : IsClosed (None ∷ complete)) where
  header_file : (header : Header) (files : List ℕ) (file : ℕ) → map (slice_index (number ∷ headers)) header.files ≡ files → (r : Numbered (slice_index (number ∷ headers)) header.files file) → (m : ℕ) → r.file ≡ m → (d : Header) → slice_get (None ∷ complete) m ≡ Some (Some d) → ((other : ℕ) → is_among d.files other ≡ true → is_among header.files other ≡ true) → ConsistsOf headers (map (numbers_of (number ∷ headers)) complete) files file
  header_file header files file k r zero q d at inside = absurd cc
  header_file header files file k r (suc m) q d at inside = record {
    index = m;
    number = index_there headers complete m (Some d) e at ∙ ap Some (ap (slice_index (number ∷ headers)) (sym q) ∙ r.is);
    own = map (slice_index (number ∷ headers)) d.files;
    beside = get_map (numbers_of (number ∷ headers)) complete m ∙ ap (option_map (numbers_of (number ∷ headers))) at;
    inside = λ other j.
        let p = numbered_by (slice_index (number ∷ headers)) d.files other j in
        ap (λ fs. is_among fs other) (sym k) ∙ sym (ap (is_among (map (slice_index (number ∷ headers)) header.files)) p.is) ∙ number_among (slice_index (number ∷ headers)) header.files p.file (inside p.file p.among);
  }

  tail_closed : AreClosed headers (map (numbers_of (number ∷ headers)) complete)
  tail_closed index files h file i = by_header (slice_get complete index) refl (sym (get_map (numbers_of (number ∷ headers)) complete index) ∙ h)
    where
      by_header : (o : Option (Option Header)) → slice_get complete index ≡ o → option_map (numbers_of (number ∷ headers)) o ≡ Some files → ConsistsOf headers (map (numbers_of (number ∷ headers)) complete) files file
      by_header None j k = none_some k
      by_header (Some None) j k = absurd (false≢true (ap (λ fs. is_among fs file) (some_same k) ∙ i))
      by_header (Some (Some header)) j k =
          let is : map (slice_index (number ∷ headers)) header.files ≡ files = some_same k in
          let r = numbered_by (slice_index (number ∷ headers)) header.files file (ap (λ fs. is_among fs file) is ∙ i) in
          let d = c (suc index) header j r.file r.among in
          header_file header files file is r r.file refl d.header d.at d.inside

less : (a b : ℕ) → suc a ≡ suc b → a ≡ b
less a b e = grind (arith, e)

-- what is given of a unit
record Counted (u : Text_of_unit) (unit : Unit_so_far) (number : ℕ) : Type 0 where
  headers : u.headers ≡ unit.headers
  includes : u.includes ≡ includes_of (number ∷ unit.headers) unit.complete

counted_gives : (u : Text_of_unit) (unit : Unit_so_far) (number : ℕ) (bytes : List ℕ) → counted (end_of number bytes) unit ≡ Ok u → Counted u unit (end_of number bytes).file
counted_gives u unit number bytes h = by_token (slice_get unit.tokens 200000) h
  where
    by_token : (o : Option Token) → without_excess (end_of number bytes) unit o ≡ Ok u → Counted u unit (end_of number bytes).file
    by_token None e = record { headers = sym (ap (λ (t : Text_of_unit). t.headers) (ok_same e)); includes = sym (ap (λ (t : Text_of_unit). t.includes) (ok_same e)) }
    by_token (Some t) e = absurd (apart e)

rest_of : List (List ℕ) → List (List ℕ)
rest_of [] = []
rest_of (x ∷ xs) = xs

rest_same : (xs ys : List (List ℕ)) (x y : List ℕ) → x ∷ xs ≡ y ∷ ys → xs ≡ ys
unfolding rest_of
rest_same xs ys x y e = ap rest_of e

tails : {library : Library} {first : ℕ} (u : Text_of_unit) (number : ℕ) (unit : Unit_so_far) (header : Header) (own : List ℕ) (others : List (List ℕ)) → Good library first unit → (complete : List (Option Header)) → unit.complete ≡ complete → slice_get complete 0 ≡ Some None → u.headers ≡ unit.headers → u.includes ≡ includes_of (number ∷ unit.headers) (slice_set complete 0 (Some header)) → u.includes ≡ own ∷ others → AreClosed u.headers others
tails u number unit header own others g [] is e hs gs h = none_some e
tails u number unit header own others g (Some x ∷ complete) is e hs gs h = absurd cc
tails u number unit header own others g (None ∷ complete) is e hs gs h =
    let even : length unit.headers ≡ length complete = less (length unit.headers) (length complete) (g.headers ∙ ap length is) in
    let there : map (numbers_of (number ∷ unit.headers)) complete ≡ others = rest_same _ _ _ _ (sym gs ∙ h) in
    subst (λ xs. AreClosed u.headers xs) there (subst (λ xs. AreClosed xs (map (numbers_of (number ∷ unit.headers)) complete)) (sym hs) (tail_closed number unit.headers complete even (subst IsClosed is g.closed)))

pub headers_are_closed : HeadersAreClosed
headers_are_closed library path u own others h i =
    let b = bound (named (library path)) (λ (file : Loaded). text_of_file library path file) h in
    let start = begun no_unit path b.at.tokens in
    let r = bound (file_text (header_at 32 library) (record { path = path; bytes = b.at.bytes }) 0 b.at.tokens start) (λ (s : Unit_so_far × Header). counted (end_of b.at.number b.at.bytes) (completed 0 s.0 s.1)) b.next in
    let ends = file_ends library b.at.number (header_at 32 library) (headers_sound 32 library b.at.number) (record { path = path; bytes = b.at.bytes }) 0 b.at.tokens start r.at.0 r.at.1 (start_good library b.at.number path b.at.tokens (named_told library path b.at b.first)) refl r.first in
    let c = counted_gives u (completed 0 r.at.0 r.at.1) b.at.number b.at.bytes r.next in
    tails u (end_of b.at.number b.at.bytes).file r.at.0 r.at.1 own others ends.before r.at.0.complete refl ends.begun c.headers c.includes i

-- ---- numbers
-- a place behind a line feed, or behind another byte
abbrev moved : Bool → Place → Place
moved t p = if t then record { file = p.file; line = p.line + 1; column = 1 } else record { file = p.file; line = p.line; column = p.column + 1 }

moved_file : (t : Bool) (p : Place) → (moved t p).file ≡ p.file
moved_file true p = refl
moved_file false p = refl

one_byte : (p : Place) (b : ℕ) → (place_behind p b).file ≡ p.file
one_byte p b = moved_file (b == 10) p

-- a place behind bytes is in their file
same_file : (p : Place) (bytes : List ℕ) → (place_after p bytes).file ≡ p.file
same_file p [] = refl
same_file p (b ∷ bytes) = same_file (place_behind p b) bytes ∙ one_byte p b

-- what stands beside a number
record StandsBeside (paths : List (List ℕ)) (n : ℕ) : Type 0 where
  path : List ℕ
  at : slice_get paths n ≡ Some path

stands_beside : (numbers : List ℕ) (paths : List (List ℕ)) (i n : ℕ) → length numbers ≡ length paths → slice_get numbers i ≡ Some n → StandsBeside paths i
stands_beside [] paths i n e h = none_some h
stands_beside (m ∷ numbers) [] i n e h = absurd (no (length numbers) e)
  where
    no : (k : ℕ) → suc k ≡ 0 → ⊥
    no k e = grind (arith, e)
stands_beside (m ∷ numbers) (p ∷ paths) zero n e h = record { path = p; at = refl }
stands_beside (m ∷ numbers) (p ∷ paths) (suc i) n e h = let r = stands_beside numbers paths i n (less (length numbers) (length paths) e) h in record { path = r.path; at = r.at }

numbers_apart : (library : Library) (own : ℕ) (unit : Unit_so_far) → TellsApart library → Good library own unit → AreApart (own ∷ unit.headers)
numbers_apart library own unit a g i j n e h =
    let even : length (own ∷ unit.headers) ≡ length unit.paths = g.headers ∙ sym g.even in
    let first = stands_beside (own ∷ unit.headers) unit.paths i n even e in
    let second = stands_beside (own ∷ unit.headers) unit.paths j n even h in
    let told = g.numbered.told i first.path n first.at e in
    let too = g.numbered.told j second.path n second.at h in
    let is : first.path ≡ second.path = a first.path second.path n told.bytes too.bytes told.tokens too.tokens told.is too.is in
    g.numbered.apart i j second.path (first.at ∙ ap Some is) second.at

counted_end : (u : Text_of_unit) (unit : Unit_so_far) (number : ℕ) (bytes : List ℕ) → counted (end_of number bytes) unit ≡ Ok u → u.end_of_file.file ≡ number
counted_end u unit number bytes h = by_token (slice_get unit.tokens 200000) h
  where
    by_token : (o : Option Token) → without_excess (end_of number bytes) unit o ≡ Ok u → u.end_of_file.file ≡ number
    by_token None e = sym (ap (λ (t : Text_of_unit). t.end_of_file.file) (ok_same e)) ∙ same_file (beginning number) bytes
    by_token (Some t) e = absurd (apart e)

pub files_have_their_own_numbers : FilesHaveTheirOwnNumbers
files_have_their_own_numbers library path u a h =
    let b = bound (named (library path)) (λ (file : Loaded). text_of_file library path file) h in
    let start = begun no_unit path b.at.tokens in
    let r = bound (file_text (header_at 32 library) (record { path = path; bytes = b.at.bytes }) 0 b.at.tokens start) (λ (s : Unit_so_far × Header). counted (end_of b.at.number b.at.bytes) (completed 0 s.0 s.1)) b.next in
    let ends = file_ends library b.at.number (header_at 32 library) (headers_sound 32 library b.at.number) (record { path = path; bytes = b.at.bytes }) 0 b.at.tokens start r.at.0 r.at.1 (start_good library b.at.number path b.at.tokens (named_told library path b.at b.first)) refl r.first in
    let c = counted_gives u (completed 0 r.at.0 r.at.1) b.at.number b.at.bytes r.next in
    let own = counted_end u (completed 0 r.at.0 r.at.1) b.at.number b.at.bytes r.next in
    subst (λ n. AreApart (n ∷ u.headers)) (sym own) (subst (λ xs. AreApart (b.at.number ∷ xs)) (sym c.headers) (numbers_apart library b.at.number r.at.0 a ends.before))
