-- What lines make of the files of which a file consists.
use Rattle.std.proofs.Common.{◌≡◌, inl, inr, ⊎_elim, ℕ, suc, Bool, true, false, not, ◌&&◌, ◌||◌, if◌then◌else◌, List, [], ◌∷◌, length, fold, slice_get, Some, Result, Ok, Err, refl, sym, ap, subst, ◌∙◌}
use Rattle.vf_base.specs.declared.place.Place.{Place}
use Rattle.vf_lexer.specs.declared.token.Token.{Token}
use Rattle.vf_preproc.specs.declared.groups.Group.{Group}
use Rattle.vf_preproc.specs.declared.words.Word.{Word}
use Rattle.vf_preproc.specs.declared.words.Word.TheVariants as words_of
use Rattle.vf_preproc.specs.Directives.{Fault, ◌>>=◌, else_groups, end_groups, if_groups, is_alone, is_hash, is_taken, no_directive, skipped_group, word_of}
use Rattle.vf_preproc.specs.Macros.{expansion, Table}
use Rattle.vf_preproc.specs.Targets.{is_ghost_path, target}
use Rattle.vf_preproc.specs.UnitText.{annotated, clashes, define, directed, directive, File, followed, grouped, Header, in_groups, in_macros, in_unit, included, Includer, is_among, is_mixed, joined, Library, line, passed, Scope, Unit_so_far, with_file, with_header, with_tokens}
use Rattle.vf_header_laws.proofs.included.Numbers.{IsNumbered}
use Rattle.vf_header_laws.proofs.included.Files.{among_both, Done, done_more, IsClosed, IsWithin, Kept, or_first, or_second, or_true}

-- ---- going on without a fault
pub record Bound {A B : Type 0} (r : Result A Fault) (f : A → Result B Fault) (b : B) : Type 0 where
  pub at : A
  pub first : r ≡ Ok at
  pub next : f at ≡ Ok b

pub bound : {A B : Type 0} {b : B} (r : Result A Fault) (f : A → Result B Fault) → r >>= f ≡ Ok b → Bound r f b
bound (Ok a) f h = record { at = a; first = refl; next = h }
bound (Err e) f h = absurd cc

pub ok_same : {A : Type 0} {a b : A} → ◌≡◌ {A = Result A Fault} (Ok a) (Ok b) → a ≡ b
ok_same h = cc

pub apart : {A : Type 0} {e : Fault} {a : A} → ◌≡◌ {A = Result A Fault} (Err e) (Ok a) → ⊥
apart h = cc

-- ---- units
-- names stand beside files, with a header for each but the first, and what is complete is closed
pub record Good (library : Library) (own : ℕ) (u : Unit_so_far) : Type 0 where
  pub numbered : IsNumbered library own u.paths u.headers
  pub even : length u.paths ≡ length u.complete
  pub headers : suc (length u.headers) ≡ length u.complete
  pub closed : IsClosed u.complete

-- a file of a unit went on
pub record GoesOn (library : Library) (own n : ℕ) (unit after : Unit_so_far) (scope new : Scope) : Type 0 where
  pub good : Good library own after
  pub kept : Kept unit.complete after.complete
  pub within : IsWithin after.complete n new.files

-- an include leaves a unit, and a header
pub record Found (library : Library) (own : ℕ) (unit after : Unit_so_far) (header : Header) : Type 0 where
  pub good : Good library own after
  pub kept : Kept unit.complete after.complete
  pub within : (file : ℕ) → is_among header.files file ≡ true → Done after.complete header.files file

abbrev pub Sound : Library → ℕ → Includer → Type 0
Sound library own include = (path : List ℕ) (hash : Place) (unit after : Unit_so_far) (header : Header) → Good library own unit → include path hash unit ≡ Ok (after, header) → Found library own unit after header

-- nothing of files changed
pub record Stays (unit after : Unit_so_far) (scope new : Scope) : Type 0 where
  pub paths : after.paths ≡ unit.paths
  pub headers : after.headers ≡ unit.headers
  pub complete : after.complete ≡ unit.complete
  pub files : new.files ≡ scope.files

stays_on : {library : Library} {own n : ℕ} {unit after : Unit_so_far} {scope new : Scope} → Good library own unit → IsWithin unit.complete n scope.files → Stays unit after scope new → GoesOn library own n unit after scope new
stays_on {library} {own} {n} {unit} {after} {scope} {new} g w h = record {
  good = record {
    numbered = subst (λ xs. IsNumbered library own xs after.headers) (sym h.paths) (subst (IsNumbered library own unit.paths) (sym h.headers) g.numbered);
    even = ap length h.paths ∙ g.even ∙ sym (ap length h.complete);
    headers = ap (λ (xs : List ℕ). suc (length xs)) h.headers ∙ g.headers ∙ sym (ap length h.complete);
    closed = subst IsClosed (sym h.complete) g.closed;
  };
  kept = λ k o e. ap (λ xs. slice_get xs k) h.complete ∙ e;
  within = subst (λ c. IsWithin c n new.files) (sym h.complete) (subst (IsWithin unit.complete n) (sym h.files) w);
}

-- a unit and a file beside it
abbrev pub beside : Unit_so_far → Scope → Result (Unit_so_far × Scope) Fault
beside unit scope = Ok (unit, scope)

stays_pair : (unit after : Unit_so_far) (scope s new : Scope) → beside unit s ≡ beside after new → s.files ≡ scope.files → Stays unit after scope new
stays_pair unit after scope s new h e =
    let is : (unit, s) ≡ (after, new) = ok_same h in
    record {
      paths = sym (ap (λ (p : Unit_so_far × Scope). p.0.paths) is);
      headers = sym (ap (λ (p : Unit_so_far × Scope). p.0.headers) is);
      complete = sym (ap (λ (p : Unit_so_far × Scope). p.0.complete) is);
      files = sym (ap (λ (p : Unit_so_far × Scope). p.1.files) is) ∙ e;
    }

unit_stays : (unit after : Unit_so_far) (scope new : Scope) (r : Result Scope Fault) → in_unit unit r ≡ beside after new → ((s : Scope) → r ≡ Ok s → s.files ≡ scope.files) → Stays unit after scope new
unit_stays unit after scope new (Err e) h f = absurd (apart h)
unit_stays unit after scope new (Ok s) h f = stays_pair unit after scope s new h (f s refl)

-- ---- groups and macros
groups_stay : (scope s : Scope) (gs : Result (List Group) Fault) → in_groups scope gs ≡ Ok s → s.files ≡ scope.files
groups_stay scope s gs h = let b = bound gs (λ g. Ok (record scope { groups = g })) h in sym (ap (λ (x : Scope). x.files) (ok_same b.next))

grouped_stays : (mixed : Bool) (hash : Place) (words : List Token) (scope s : Scope) (word : Word) → grouped mixed hash words scope word ≡ Ok s → s.files ≡ scope.files
grouped_stays mixed hash words scope s words_of.IfDefined h = groups_stay scope s (if_groups mixed true scope.macros hash words scope.groups) h
grouped_stays mixed hash words scope s words_of.IfNotDefined h = groups_stay scope s (if_groups mixed false scope.macros hash words scope.groups) h
grouped_stays mixed hash words scope s words_of.Else h = groups_stay scope s (else_groups (mixed || not (is_alone words)) hash scope.groups) h
grouped_stays mixed hash words scope s words_of.EndIf h = groups_stay scope s (end_groups (mixed || not (is_alone words)) hash scope.groups) h
grouped_stays mixed hash words scope s words_of.Include h = absurd (apart h)
grouped_stays mixed hash words scope s words_of.Define h = absurd (apart h)
grouped_stays mixed hash words scope s words_of.Other h = absurd (apart h)

macros_stay : (scope s : Scope) (r : Result Table Fault) → in_macros scope r ≡ Ok s → s.files ≡ scope.files
macros_stay scope s r h = let b = bound r (λ t. Ok (record scope { macros = t })) h in sym (ap (λ (x : Scope). x.files) (ok_same b.next))

-- ---- includes
header_files : (ghost : Bool) (hash : Place) (names : List (List (List ℕ))) (header : Header) (scope s : Scope) → with_header ghost hash names header scope ≡ Ok s → s.files ≡ fold with_file scope.files header.files
header_files ghost hash names header scope s h = by_clash (clashes names scope.macros header) h
  where
    by_ghost : (g : Bool) → (if g then Ok (record scope { files = fold with_file scope.files header.files }) else (joined hash scope.macros header.macros.names header.macros.bodies >>= λ table. Ok (record scope { macros = table; files = fold with_file scope.files header.files }))) ≡ Ok s → s.files ≡ fold with_file scope.files header.files
    by_ghost true e = sym (ap (λ (x : Scope). x.files) (ok_same e))
    by_ghost false e =
        let b = bound (joined hash scope.macros header.macros.names header.macros.bodies) (λ table. Ok (record scope { macros = table; files = fold with_file scope.files header.files })) e in
        sym (ap (λ (x : Scope). x.files) (ok_same b.next))

    by_clash : (c : Bool) → (if c then no_directive hash else (if ghost then Ok (record scope { files = fold with_file scope.files header.files }) else (joined hash scope.macros header.macros.names header.macros.bodies >>= λ table. Ok (record scope { macros = table; files = fold with_file scope.files header.files })))) ≡ Ok s → s.files ≡ fold with_file scope.files header.files
    by_clash true e = absurd (apart e)
    by_clash false e = by_ghost ghost e

joined_within : {library : Library} {own n : ℕ} {unit after : Unit_so_far} {header : Header} (files : List ℕ) → IsWithin unit.complete n files → Found library own unit after header → IsWithin after.complete n (fold with_file files header.files)
joined_within {n} {header = header} files w f file h = ⊎_elim
    (λ e. ⊎_elim (λ is. inl is) (λ d. inr (done_more (λ k x j. f.kept k (Some x) j) (λ other j. among_both files header.files other ∙ or_first (is_among files other) (is_among header.files other) j) d)) (w file e))
    (λ e. inr (done_more (λ k x j. j) (λ other j. among_both files header.files other ∙ or_second (is_among files other) (is_among header.files other) j) (f.within file e)))
    (or_true (is_among files file) (is_among header.files file) (sym (among_both files header.files file) ∙ h))

module _ (library : Library) (own : ℕ) (include : Includer) (sound : Sound library own include) (n : ℕ) (file : File) where
  included_goes : (hash : Place) (ghost : Bool) (words : List Token) (unit after : Unit_so_far) (scope new : Scope) → Good library own unit → IsWithin unit.complete n scope.files → included include file hash ghost words unit scope ≡ beside after new → GoesOn library own n unit after scope new
  included_goes hash ghost words unit after scope new g w h =
      let p = bound (target ghost file.path file.bytes hash words) (λ path. include path hash unit >>= λ found. with_header ghost hash found.0.names found.1 scope >>= λ s. beside found.0 s) h in
      let q = bound (include p.at hash unit) (λ (found : Unit_so_far × Header). with_header ghost hash found.0.names found.1 scope >>= λ s. beside found.0 s) p.next in
      let r = bound (with_header ghost hash q.at.0.names q.at.1 scope) (λ s. beside q.at.0 s) q.next in
      let f = sound p.at hash unit q.at.0 q.at.1 g q.first in
      let is : (q.at.0, r.at) ≡ (after, new) = ok_same r.next in
      let files = header_files ghost hash q.at.0.names q.at.1 scope r.at r.first in
      subst (λ (x : Unit_so_far × Scope). GoesOn library own n unit x.0 scope x.1) is (record {
        good = f.good;
        kept = f.kept;
        within = subst (IsWithin q.at.0.complete n) (sym files) (joined_within scope.files w f);
      })

  directed_goes : (hash : Token) (words : List Token) (unit after : Unit_so_far) (scope new : Scope) (word : Word) → Good library own unit → IsWithin unit.complete n scope.files → directed include file hash words unit scope word ≡ beside after new → GoesOn library own n unit after scope new
  directed_goes hash words unit after scope new words_of.Include g w h = by_mixed (is_mixed file words) h
    where
      by_mixed : (m : Bool) → (if m then no_directive hash.place else included include file hash.place hash.is_ghost words unit scope) ≡ beside after new → GoesOn library own n unit after scope new
      by_mixed true e = absurd (apart e)
      by_mixed false e = included_goes hash.place hash.is_ghost words unit after scope new g w e
  directed_goes hash words unit after scope new words_of.Define g w h = stays_on g w (unit_stays unit after scope new (in_macros scope (define (is_mixed file words) hash.place words scope.macros)) h (λ s is. macros_stay scope s (define (is_mixed file words) hash.place words scope.macros) is))
  directed_goes hash words unit after scope new words_of.IfDefined g w h = stays_on g w (unit_stays unit after scope new (grouped (is_mixed file words) hash.place words scope words_of.IfDefined) h (λ s is. grouped_stays (is_mixed file words) hash.place words scope s words_of.IfDefined is))
  directed_goes hash words unit after scope new words_of.IfNotDefined g w h = stays_on g w (unit_stays unit after scope new (grouped (is_mixed file words) hash.place words scope words_of.IfNotDefined) h (λ s is. grouped_stays (is_mixed file words) hash.place words scope s words_of.IfNotDefined is))
  directed_goes hash words unit after scope new words_of.Else g w h = stays_on g w (unit_stays unit after scope new (grouped (is_mixed file words) hash.place words scope words_of.Else) h (λ s is. grouped_stays (is_mixed file words) hash.place words scope s words_of.Else is))
  directed_goes hash words unit after scope new words_of.EndIf g w h = stays_on g w (unit_stays unit after scope new (grouped (is_mixed file words) hash.place words scope words_of.EndIf) h (λ s is. grouped_stays (is_mixed file words) hash.place words scope s words_of.EndIf is))
  directed_goes hash words unit after scope new words_of.Other g w h = absurd (apart h)

  passed_stays : (hash : Token) (words : List Token) (unit after : Unit_so_far) (scope new : Scope) (word : Word) → passed file hash words unit scope word ≡ beside after new → Stays unit after scope new
  passed_stays hash words unit after scope new words_of.IfDefined h = stays_pair unit after scope (record scope { groups = skipped_group hash.place ∷ scope.groups }) new h refl
  passed_stays hash words unit after scope new words_of.IfNotDefined h = stays_pair unit after scope (record scope { groups = skipped_group hash.place ∷ scope.groups }) new h refl
  passed_stays hash words unit after scope new words_of.Else h = unit_stays unit after scope new (grouped (is_mixed file words) hash.place words scope words_of.Else) h (λ s is. grouped_stays (is_mixed file words) hash.place words scope s words_of.Else is)
  passed_stays hash words unit after scope new words_of.EndIf h = unit_stays unit after scope new (grouped (is_mixed file words) hash.place words scope words_of.EndIf) h (λ s is. grouped_stays (is_mixed file words) hash.place words scope s words_of.EndIf is)
  passed_stays hash words unit after scope new words_of.Include h = stays_pair unit after scope scope new h refl
  passed_stays hash words unit after scope new words_of.Define h = stays_pair unit after scope scope new h refl
  passed_stays hash words unit after scope new words_of.Other h = stays_pair unit after scope scope new h refl

  annotated_goes : (hash : Token) (words : List Token) (unit after : Unit_so_far) (scope new : Scope) (word : Word) → Good library own unit → IsWithin unit.complete n scope.files → annotated include file hash words unit scope word ≡ beside after new → GoesOn library own n unit after scope new
  annotated_goes hash words unit after scope new words_of.Include g w h = included_goes hash.place true words unit after scope new g w h
  annotated_goes hash words unit after scope new words_of.Define g w h = absurd (apart h)
  annotated_goes hash words unit after scope new words_of.IfDefined g w h = absurd (apart h)
  annotated_goes hash words unit after scope new words_of.IfNotDefined g w h = absurd (apart h)
  annotated_goes hash words unit after scope new words_of.Else g w h = absurd (apart h)
  annotated_goes hash words unit after scope new words_of.EndIf g w h = absurd (apart h)
  annotated_goes hash words unit after scope new words_of.Other g w h = absurd (apart h)

  directive_goes : (hash : Token) (words : List Token) (unit after : Unit_so_far) (scope new : Scope) → Good library own unit → IsWithin unit.complete n scope.files → directive include file hash words unit scope ≡ beside after new → GoesOn library own n unit after scope new
  directive_goes hash words unit after scope new g w h = by_ghost (hash.is_ghost && not (is_ghost_path file.path)) h
    where
      by_taken : (t : Bool) → (if t then annotated include file hash words unit scope (word_of words) else beside unit scope) ≡ beside after new → GoesOn library own n unit after scope new
      by_taken true e = annotated_goes hash words unit after scope new (word_of words) g w e
      by_taken false e = stays_on g w (stays_pair unit after scope scope new e refl)

      by_read : (t : Bool) → (if t then directed include file hash words unit scope (word_of words) else passed file hash words unit scope (word_of words)) ≡ beside after new → GoesOn library own n unit after scope new
      by_read true e = directed_goes hash words unit after scope new (word_of words) g w e
      by_read false e = stays_on g w (passed_stays hash words unit after scope new (word_of words) e)

      by_ghost : (b : Bool) → (if b then (if is_taken scope.groups then annotated include file hash words unit scope (word_of words) else beside unit scope) else (if is_taken scope.groups then directed include file hash words unit scope (word_of words) else passed file hash words unit scope (word_of words))) ≡ beside after new → GoesOn library own n unit after scope new
      by_ghost true e = by_taken (is_taken scope.groups) e
      by_ghost false e = by_read (is_taken scope.groups) e

  line_goes : (tokens : List Token) (unit after : Unit_so_far) (scope new : Scope) → Good library own unit → IsWithin unit.complete n scope.files → line include file tokens unit scope ≡ beside after new → GoesOn library own n unit after scope new
  line_goes [] unit after scope new g w h = stays_on g w (stays_pair unit after scope scope new h refl)
  line_goes (t ∷ ts) unit after scope new g w h = by_hash (is_hash t) h
    where
      by_taken : (b : Bool) → beside (if b then with_tokens unit (expansion scope.macros (t ∷ ts)) else unit) scope ≡ beside after new → GoesOn library own n unit after scope new
      by_taken true e =
          let s = stays_pair (with_tokens unit (expansion scope.macros (t ∷ ts))) after scope scope new e refl in
          stays_on g w (record { paths = s.paths; headers = s.headers; complete = s.complete; files = s.files })
      by_taken false e = stays_on g w (stays_pair unit after scope scope new e refl)

      by_hash : (b : Bool) → (if b then directive include file t ts unit scope else beside (if is_taken scope.groups then with_tokens unit (expansion scope.macros (t ∷ ts)) else unit) scope) ≡ beside after new → GoesOn library own n unit after scope new
      by_hash true e = directive_goes t ts unit after scope new g w e
      by_hash false e = by_taken (is_taken scope.groups) e

  pub lines_go : (ls : List (List Token)) (unit after : Unit_so_far) (scope new : Scope) → Good library own unit → IsWithin unit.complete n scope.files → followed include file ls unit scope ≡ beside after new → GoesOn library own n unit after scope new
  lines_go [] unit after scope new g w h = stays_on g w (stays_pair unit after scope scope new h refl)
  lines_go (l ∷ ls) unit after scope new g w h =
      let b = bound (line include file l unit scope) (λ (s : Unit_so_far × Scope). followed include file ls s.0 s.1) h in
      let first = line_goes l unit b.at.0 scope b.at.1 g w b.first in
      let rest = lines_go ls b.at.0 after b.at.1 new first.good first.within b.next in
      record { good = rest.good; kept = λ k o e. rest.kept k o (first.kept k o e); within = rest.within }
