-- What clap answers of the words behind a command's name.
use Rattle.std.proofs.Common.{◌≡◌, ◌∙◌, refl, sym, ap, subst, ℕ, suc, ◌≤◌, Bool, true, false, List, [], ◌∷◌, length, is_some, Option, Some, None, codes, unwrap_or, le-ltb, ne_eqb, bytes_eq, All, IsUtf8, ⊎_elim, arith}
use Rattle.std.specs.Borrow.{Bor}
use Rattle.std.proofs.lemmas.List.{length-map}
use Rattle.clap.specs.Lexer.{usize_max}
use Rattle.clap.specs.Walk.{Text, Walk, all_of, finished, rows_of, settled}
use Rattle.clap.specs.Simple.{App, HasMatchesOf, built, entered, matches_of}
use Rattle.clap.specs.Matches.{found_of}
use Rattle.clap.specs.Values.{kind_of}
use Rattle.clap.specs.declared.error.Error.{Error}
use Rattle.clap.specs.declared.error.kind.ErrorKind.TheVariants as kind
use Rattle.clap.specs.declared.parser.matches.ArgMatches.{ArgMatches}
use Rattle.clap.specs.Kinds.{HasKind, IsAmong, Kinds, or_else, range_kinds, values_kinds}
use Rattle.clap.specs.Faults.{check_fault, defaults_fault, entered_fault, fault_of, is_simple_and_free, settle_fault, walk_fault}
use Rattle.clap.specs.declared.builder.value_parser.ValueParser.TheVariants as vp
use Rattle.vf_words.specs.Positionals.{is_option, positionals, texts}
use Rattle.vf_words.specs.Reader.{reader}
use Rattle.vf_words.proofs.Lines.{AreText, added, at_end, at_option, at_plain, begins, ends_before, faultless, faulty, over}
use Rattle.vf_words.proofs.Steps.{between, rules, shape, unknown}

-- what clap says behind the last word
abbrev behind : Text → Walk → Kinds
behind name w =
    or_else (entered_fault (built (reader name)) w.stopped)
    (or_else (settle_fault rules false w.held)
    (or_else (defaults_fault (settled rules w.held).rows rules) (check_fault (shape name) (finished rules w.held) (is_some (entered (built (reader name)) w.stopped)))))

fault_is : (name : Text) (ws : List Text) → fault_of (reader name) ws ≡ or_else (walk_fault (shape name) [] (between false false None) ws) (behind name (over (between false false None) ws))
fault_is name ws = refl

any_value : (vs : List Text) → values_kinds false vp.String vs ≡ []
any_value [] = refl
any_value (v ∷ vs) = any_value vs

in_range : (n : ℕ) → 1 ≤ n → n ≤ usize_max → range_kinds 1 usize_max n ≡ []
in_range n some low = rw (ne_eqb n 0 (λ e. omega (arith, e, some)), le-ltb n 1 some, le-ltb usize_max n low) refl

-- nothing is wrong behind the last word
quiet_end : (name : Text) (some trailing : Bool) (vs : List Text) → length vs ≤ usize_max → behind name (between some trailing (added None vs)) ≡ []
unfolding defaults_fault
quiet_end name some trailing [] low = refl
quiet_end name some trailing (v ∷ vs) low = rw (in_range (suc (length vs)) (omega arith) low, any_value vs) refl

-- positional words are taken
pub taken : (name : Text) (ws vs : List Text) → positionals ws ≡ Some vs → length vs ≤ usize_max → fault_of (reader name) ws ≡ []
taken name ws vs is low =
    let e = ends_before ws vs false None is in
    fault_is name ws
    ∙ ap (λ f. or_else f (behind name (over (between false false None) ws))) (faultless name ws vs false None is)
    ∙ ap (behind name) e.is ∙ quiet_end name e.some e.trailing vs low

-- words among which one asks for an option are refused
pub refused : (name : Text) (ws : List Text) → AreText ws → positionals ws ≡ None → fault_of (reader name) ws ≡ unknown
refused name ws text is = fault_is name ws ∙ ap (λ f. or_else f (behind name (over (between false false None) ws))) (faulty name ws false None text is)

values_held : (some trailing : Bool) (vs : List Text) → unwrap_or (all_of (codes "words") (finished rules (between some trailing (added None vs)).held)) [] ≡ vs
values_held some trailing [] = refl
values_held some trailing (v ∷ vs) = refl

-- and the values are these words
pub values_are : (name : Text) (ws vs : List Text) → positionals ws ≡ Some vs → unwrap_or (all_of (codes "words") (matches_of (reader name) ws)) [] ≡ vs
values_are name ws vs is =
    let e = ends_before ws vs false None is in
    ap (λ (w : Walk). unwrap_or (all_of (codes "words") (finished rules w.held)) []) e.is ∙ values_held e.some e.trailing vs

-- no more positional words than words
pub fewer : (ws vs : List Text) → positionals ws ≡ Some vs → length vs ≤ length ws
fewer [] vs is = let none : [] ≡ vs = cc in omega (arith, ap length none)
fewer (w ∷ ws) vs is = by (λ us h. fewer ws us h) (bytes_eq w (codes "--")) (is_option w) refl refl
  where
    by : ((us : List Text) → positionals ws ≡ Some us → length us ≤ length ws) → (ends asks : Bool) → bytes_eq w (codes "--") ≡ ends → is_option w ≡ asks → length vs ≤ length (w ∷ ws)
    by again true asks end ask = let same : Some ws ≡ Some vs = sym (at_end w ws end) ∙ is in let equal : ws ≡ vs = cc in omega (arith, ap length equal)
    by again false true end ask = absurd (let none : None ≡ Some vs = sym (at_option w ws end ask) ∙ is in cc)
    by again false false end ask = let front = begins w vs (positionals ws) (sym (at_plain w ws end ask) ∙ is) in omega (arith, again front.0 front.1, ap length front.2)

-- the texts of words that are text
pub are_text : (words : List (Bor Text)) → All (λ w. IsUtf8 w.now) words → AreText (texts words)
are_text [] h = tt
are_text (w ∷ ws) h = (h 0 w (omega arith), are_text ws (λ k x low. h (suc k) x (omega (arith, low))))

pub bounded : (words : List (Bor Text)) → length words ≤ usize_max → length (texts words) ≤ usize_max
bounded words low = omega (arith, low, length-map words (λ w. w.now))

module _ (name : Text) (ws : List Text) (app : App) (is : app ≡ reader name) (low : length ws ≤ usize_max) where
  -- what was read are the positional words
  pub read : (m : ArgMatches) (v : List Text) → AreText ws → (is_simple_and_free app ≡ true → fault_of app ws ≡ []) → HasMatchesOf app ws m → v ≡ unwrap_or (all_of (codes "words") (rows_of (found_of m))) [] → Some v ≡ positionals ws
  read m v text kinds matches values = by (positionals ws) refl
    where
      quiet : fault_of (reader name) ws ≡ []
      quiet = subst (λ (a : App). is_simple_and_free a ≡ true → fault_of a ws ≡ []) is kinds refl

      rows : rows_of (found_of m) ≡ matches_of (reader name) ws
      rows = (subst (λ (a : App). HasMatchesOf a ws m) is matches refl).0

      by : (o : Option (List Text)) → positionals ws ≡ o → Some v ≡ positionals ws
      by (Some vs) e = ap Some (values ∙ ap (λ r. unwrap_or (all_of (codes "words") r) []) rows ∙ values_are name ws vs e) ∙ sym e
      by None e = absurd (let both : unknown ≡ [] = sym (refused name ws text e) ∙ quiet in cc)

  -- what was refused asks for an option
  pub asks : (e : Error) → (is_simple_and_free app ≡ true → HasKind (fault_of app ws) e) → (kind_of e ≡ kind.OutOfMemory → ⊥) → None ≡ positionals ws
  asks e kinds whole = by (positionals ws) refl
    where
      by : (o : Option (List Text)) → positionals ws ≡ o → None ≡ positionals ws
      by None h = sym h
      by (Some vs) h = absurd (⊎_elim whole (λ among. subst (IsAmong (kind_of e)) (taken name ws vs h (omega (arith, fewer ws vs h, low))) among) (subst (λ (a : App). is_simple_and_free a ≡ true → HasKind (fault_of a ws) e) is kinds refl))
