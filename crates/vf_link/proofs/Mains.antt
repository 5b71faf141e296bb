-- Mains put together, line by line and manifest by manifest.
use Rattle.std.proofs.Common.{◌≡◌, ℕ, ◌+◌, ◌<◌, true, false, cond, List, [], ◌∷◌, length, take, get_or, Some, refl, sym, ap, ◌∙◌, arith}
use Rattle.std.specs.Prelude.{count_by, slice_get}
use Rattle.std.specs.Option.{option_map}
use Rattle.std.proofs.lemmas.List.{take_more}
use Rattle.std.proofs.lemmas.List.Sums.{count_by_more_yes, count_by_more_no, sum_by-append}
use Rattle.vf_manifest.specs.declared.line.Line.{Line}
use Rattle.vf_manifest.specs.Identities.{Identity}
use Rattle.vf_manifest.specs.declared.line.Line.TheVariants as lines
use Rattle.vf_manifest.specs.Words.{identity_text}
use Rattle.vf_manifest.specs.Lines.{subject}
use Rattle.vf_link.specs.Statements.{all_lines, provides_main}
use Rattle.vf_link.specs.Linking.{IsMain, ProvidesMain, mains}
use Rattle.vf_link.proofs.Lists.{get_at, got_is, contains_at}
use Rattle.vf_link.proofs.Stated.{lines_push}

pub one_main_more : (ls : List Line) (i base old new : ℕ) (l : Line) → i < length ls → l ≡ get_or ls i l → provides_main l ≡ true
    → old ≡ base + count_by provides_main (take i ls) → new ≡ old + 1 → new ≡ base + count_by provides_main (take (i + 1) ls)
one_main_more ls i base old new l within is main h more =
    let step = count_by_more_yes provides_main ls i l within (ap provides_main (sym is) ∙ main) in omega arith

pub no_main_more : (ls : List Line) (i base old new : ℕ) (l : Line) → i < length ls → l ≡ get_or ls i l → provides_main l ≡ false
    → old ≡ base + count_by provides_main (take i ls) → new ≡ old → new ≡ base + count_by provides_main (take (i + 1) ls)
no_main_more ls i base old new l within is main h more =
    let step = count_by_more_no provides_main ls i l within (ap provides_main (sym is) ∙ main) in omega arith

-- a line of a manifest that provides a main makes it that manifest's
pub main_here : (ms : List (List Line)) (at : ℕ) (ls : List Line) (i : ℕ) (l : Line) (name : Identity) (identity : List ℕ) → at < length ms → ls ≡ get_or ms at ls
    → i < length ls → l ≡ get_or ls i l → ProvidesMain l name → identity ≡ identity_text name → IsMain ms at identity
main_here ms at ls i l name identity within is inside at_line main e = record {
  manifest = ls;
  there = get_at ms at ls within ∙ ap Some (sym is);
  line = l;
  inside = contains_at ls i l l inside (sym at_line);
  name = name;
  main = main;
  is = e;
}

pub mains_more : (ms : List (List Line)) (at old new : ℕ) → at < length ms → old ≡ mains (all_lines (take at ms)) → new ≡ old + count_by provides_main (get_or ms at []) → new ≡ mains (all_lines (take (at + 1) ms))
mains_more ms at old new within h more =
    more ∙ ap (λ n. n + count_by provides_main (get_or ms at [])) h
    ∙ sym (sum_by-append (λ l. cond (provides_main l) 1 0) (all_lines (take at ms)) (get_or ms at []))
    ∙ ap mains (sym (ap all_lines (take_more ms at [] within) ∙ lines_push (take at ms) (get_or ms at [])))

-- ---- a main that is told by its place

-- a line provides a main at this place, with this text for its identity
pub record IsMainAt (ls : List Line) (i : ℕ) (text : List ℕ) : Type 0 where
  pub line : Line
  pub there : slice_get ls i ≡ Some line
  pub name : Identity
  pub provided : ProvidesMain line name
  pub is : text ≡ identity_text name

provided_main : (l : Line) → provides_main l ≡ true → (name : Identity) × ProvidesMain l name × (subject l ≡ identity_text name)
provided_main (lines.Body predicate file) e = absurd cc
provided_main (lines.Calls caller callee) e = absurd cc
provided_main (lines.Claims function claimed) e = absurd cc
provided_main (lines.Instance family function file) e = absurd cc
provided_main (lines.Provides provided signature) e = (provided, record { signature = signature; provided = refl; is_main = e }, refl)
provided_main (lines.Requires required signature) e = absurd cc
provided_main (lines.Struct tag file) e = absurd cc
provided_main (lines.Uses header digest) e = absurd cc

some_is : {A : Type 0} (x y : A) → Some x ≡ Some y → x ≡ y
some_is x y e = cc

-- the line at a place
pub line_there : (ls : List Line) (i : ℕ) → i < length ls → (l : Line) × (slice_get ls i ≡ Some l)
line_there [] i within = absurd (let none : ⊥ = omega arith in none)
line_there (y ∷ ys) i within = (get_or (y ∷ ys) i y, get_at (y ∷ ys) i y within)

pub main_at : (ls : List Line) (i : ℕ) (text : List ℕ) → i < length ls → option_map provides_main (slice_get ls i) ≡ Some true → option_map subject (slice_get ls i) ≡ Some text → IsMainAt ls i text
main_at ls i text within main said =
    let found = line_there ls i within in
    let l = found.0 in
    let there = found.1 in
    let is : provides_main l ≡ true = some_is (provides_main l) true (sym (ap (option_map provides_main) there) ∙ main) in
    let p = provided_main l is in
    record {
      line = l;
      there = there;
      name = p.0;
      provided = p.1;
      is = sym (some_is (subject l) text (sym (ap (option_map subject) there) ∙ said)) ∙ p.2;
    }

-- one main more
pub main_counted : (ls : List Line) (i base old new : ℕ) → i < length ls → option_map provides_main (slice_get ls i) ≡ Some true
    → old ≡ base + count_by provides_main (take i ls) → new ≡ old + 1 → new ≡ base + count_by provides_main (take (i + 1) ls)
main_counted ls i base old new within main h more =
    let found = line_there ls i within in
    one_main_more ls i base old new found.0 within (sym (got_is ls i found.0 found.0 found.1))
    (some_is (provides_main found.0) true (sym (ap (option_map provides_main) found.1) ∙ main)) h more

-- and none
pub none_counted : (ls : List Line) (i base old new : ℕ) → i < length ls → option_map provides_main (slice_get ls i) ≡ Some false
    → old ≡ base + count_by provides_main (take i ls) → new ≡ old → new ≡ base + count_by provides_main (take (i + 1) ls)
none_counted ls i base old new within main h more =
    let found = line_there ls i within in
    no_main_more ls i base old new found.0 within (sym (got_is ls i found.0 found.0 found.1))
    (some_is (provides_main found.0) false (sym (ap (option_map provides_main) found.1) ∙ main)) h more

-- it is the main of its manifest
pub main_of_manifest : (ms : List (List Line)) (at : ℕ) (ls : List Line) (i : ℕ) (text identity : List ℕ) → at < length ms → ls ≡ get_or ms at ls → i < length ls
    → IsMainAt ls i text → identity ≡ text → IsMain ms at identity
main_of_manifest ms at ls i text identity within is inside m e =
    main_here ms at ls i m.line m.name identity within is inside (sym (got_is ls i m.line m.line m.there)) m.provided (e ∙ m.is)
