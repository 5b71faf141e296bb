-- A header that is complete is closed, and so are those that it includes.
use Rattle.std.proofs.Common.{◌≡◌, inl, ℕ, zero, suc, true, List, [], ◌∷◌, ◌++◌, length, slice_get, Option, Some, None, Ok, refl, sym, ap, subst, ◌∙◌}
use Rattle.vf_base.specs.declared.place.Place.{Place}
use Rattle.vf_lexer.specs.declared.token.Token.{Token}
use Rattle.vf_names.specs.Names.{number_of}
use Rattle.vf_preproc.specs.declared.groups.Group.{Group}
use Rattle.vf_preproc.specs.declared.sources.Loaded.{Loaded}
use Rattle.vf_preproc.specs.Directives.{lines_of}
use Rattle.vf_preproc.specs.UnitText.{any_header, begun, closed, completed, File, file_text, followed, Header, header_at, Includer, is_among, Library, loaded, new_header, old_header, Scope, Unit_so_far, unread}
use Rattle.vf_header_laws.proofs.included.Files.{among_one, at_end, Done, done_more, get_before, get_end, IsWithin, Kept, length_set, not_last, now_closed, now_within, set_other}
use Rattle.vf_header_laws.proofs.included.Numbers.{IsTold, loaded_told, numbered_more}
use Rattle.vf_header_laws.proofs.included.Lines.{apart, bound, Found, Good, lines_go, ok_same, Sound}

-- ---- a file to its end
-- what is left where a file is closed
record Closes (scope : Scope) (before after : Unit_so_far) (header : Header) : Type 0 where
  unit : before ≡ after
  files : header.files ≡ scope.files

closes : (scope : Scope) (before after : Unit_so_far) (header : Header) (gs : List Group) → closed before scope gs ≡ Ok (after, header) → Closes scope before after header
closes scope before after header [] h =
    let is : (before, record { macros = scope.macros; files = scope.files }) ≡ (after, header) = ok_same h in
    record { unit = ap (λ (p : Unit_so_far × Header). p.0) is; files = sym (ap (λ (p : Unit_so_far × Header). p.1.files) is) }
closes scope before after header (g ∷ gs) h = absurd (apart h)

-- a file went to its end, and is complete
pub record Ends (library : Library) (own n : ℕ) (unit after : Unit_so_far) (header : Header) : Type 0 where
  pub before : Good library own after
  pub begun : slice_get after.complete n ≡ Some None
  pub good : Good library own (completed n after header)
  pub kept : (m : ℕ) (o : Option Header) → (m ≡ n → ⊥) → slice_get unit.complete m ≡ Some o → slice_get (completed n after header).complete m ≡ Some o
  pub within : (file : ℕ) → is_among header.files file ≡ true → Done (completed n after header).complete header.files file

pub file_ends : (library : Library) (own : ℕ) (include : Includer) → Sound library own include → (file : File) (n : ℕ) (tokens : List Token) (unit after : Unit_so_far) (header : Header) → Good library own unit → slice_get unit.complete n ≡ Some None → file_text include file n tokens unit ≡ Ok (after, header) → Ends library own n unit after header
file_ends library own include sound file n tokens unit after header g e h =
    let b = bound (followed include file (lines_of tokens) unit (unread n)) (λ (s : Unit_so_far × Scope). closed s.0 s.1 s.1.groups) h in
    let on = lines_go library own include sound n file (lines_of tokens) unit b.at.0 (unread n) b.at.1 g (λ f i. inl (among_one n f i)) b.first in
    let c = closes b.at.1 b.at.0 after header b.at.1.groups b.next in
    by_unit b.at.0 c.unit on.good on.kept (subst (IsWithin b.at.0.complete n) (sym c.files) on.within)
  where
    by_unit : (u : Unit_so_far) → u ≡ after → Good library own u → Kept unit.complete u.complete → IsWithin u.complete n header.files → Ends library own n unit after header
    by_unit u is good kept within =
        let begun_there : slice_get u.complete n ≡ Some None = kept n None e in
        subst (λ v. Ends library own n unit v header) is (record {
          before = good;
          begun = begun_there;
          good = record {
            numbered = good.numbered;
            even = good.even ∙ sym (length_set u.complete n (Some header));
            headers = good.headers ∙ sym (length_set u.complete n (Some header));
            closed = now_closed u.complete n header good.closed begun_there within;
          };
          kept = λ m o d i. set_other u.complete n m (Some header) d ∙ kept m o i;
          within = now_within u.complete n header good.closed begun_there within;
        })

-- ---- a header
one_more : {A : Type 0} (xs : List A) (x : A) → length (xs ++ x ∷ []) ≡ suc (length xs)
one_more [] x = refl
one_more (y ∷ xs) x = ap suc (one_more xs x)

begun_good : (library : Library) (own : ℕ) (unit : Unit_so_far) (path : List ℕ) (tokens : List Token) (number : ℕ) → number_of unit.paths path ≡ None → IsTold library path number → Good library own unit → Good library own (begun (record unit { headers = unit.headers ++ number ∷ [] }) path tokens)
begun_good library own unit path tokens number fresh told g = record {
  numbered = numbered_more library own unit.paths unit.headers path number (g.headers ∙ sym g.even) g.numbered fresh told;
  even = one_more unit.paths path ∙ ap suc g.even ∙ sym (one_more unit.complete None);
  headers = ap suc (one_more unit.headers number ∙ g.headers) ∙ sym (one_more unit.complete None);
  closed = λ n header e file h. done_more (λ m x i. get_before unit.complete (None ∷ []) m (Some x) i) (λ other i. i) (g.closed n header (not_last unit.complete n header e) file h);
}

old_before : (unit : Unit_so_far) (m : ℕ) (o : Option Header) → slice_get unit.complete m ≡ Some o → m ≡ length unit.complete → ⊥
old_before unit m o e is = nothing (sym (at_end unit.complete) ∙ sym (ap (slice_get unit.complete) is) ∙ e)
  where
    nothing : ◌≡◌ {A = Option (Option Header)} None (Some o) → ⊥
    nothing h = cc

new_sound : (library : Library) (own : ℕ) (include : Includer) → Sound library own include → (path : List ℕ) (unit after : Unit_so_far) (header : Header) (file : Loaded) → number_of unit.paths path ≡ None → IsTold library path file.number → Good library own unit → new_header include path unit file ≡ Ok (after, header) → Found library own unit after header
new_sound library own include sound path unit after header file fresh told g h =
    let n = length unit.paths in
    let start = begun (record unit { headers = unit.headers ++ file.number ∷ [] }) path file.tokens in
    let there : slice_get start.complete n ≡ Some None = ap (slice_get start.complete) g.even ∙ get_end unit.complete None in
    let b = bound (file_text include (record { path = path; bytes = file.bytes }) n file.tokens start) (λ (s : Unit_so_far × Header). Ok (completed n s.0 s.1, s.1)) h in
    let ends = file_ends library own include sound (record { path = path; bytes = file.bytes }) n file.tokens start b.at.0 b.at.1 (begun_good library own unit path file.tokens file.number fresh told g) there b.first in
    subst (λ (p : Unit_so_far × Header). Found library own unit p.0 p.1) (ok_same b.next) (record {
      good = ends.good;
      kept = λ m o e. ends.kept m o (λ is. old_before unit m o e (is ∙ g.even)) (get_before unit.complete (None ∷ []) m o e);
      within = ends.within;
    })

old_sound : (library : Library) (own : ℕ) (hash : Place) (unit after : Unit_so_far) (header : Header) (n : ℕ) → Good library own unit → old_header hash unit (slice_get unit.complete n) ≡ Ok (after, header) → Found library own unit after header
old_sound library own hash unit after header n g h = by_header (slice_get unit.complete n) refl h
  where
    by_header : (o : Option (Option Header)) → slice_get unit.complete n ≡ o → old_header hash unit o ≡ Ok (after, header) → Found library own unit after header
    by_header None e h = absurd (apart h)
    by_header (Some None) e h = absurd (apart h)
    by_header (Some (Some x)) e h = subst (λ (p : Unit_so_far × Header). Found library own unit p.0 p.1) (ok_same h) (record { good = g; kept = λ m o i. i; within = g.closed n x e })

-- each include leaves closed headers
pub headers_sound : (depth : ℕ) (library : Library) (own : ℕ) → Sound library own (header_at depth library)
headers_sound zero library own path hash unit after header g h = absurd (apart h)
headers_sound (suc depth) library own path hash unit after header g h = by_number (headers_sound depth library own) (number_of unit.paths path) refl h
  where
    by_number : Sound library own (header_at depth library) → (o : Option ℕ) → number_of unit.paths path ≡ o → any_header (header_at depth library) library path hash unit o ≡ Ok (after, header) → Found library own unit after header
    by_number sound None fresh e =
        let b = bound (loaded hash (library path)) (λ file. new_header (header_at depth library) path unit file) e in
        new_sound library own (header_at depth library) sound path unit after header b.at fresh (loaded_told hash library path b.at b.first) g b.next
    by_number sound (Some n) there e = old_sound library own hash unit after header n g e
