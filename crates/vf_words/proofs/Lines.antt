-- All words behind a command's name, as clap reads them.
use Rattle.std.proofs.Common.{◌≡◌, ◌∙◌, refl, sym, ap, subst, Bool, true, false, List, [], ◌∷◌, ◌++◌, fold, Option, Some, None, codes, bytes_eq, option_map, unwrap_or, append_assoc, IsUtf8}
use Rattle.clap.specs.Walk.{Text, Walk, walked}
use Rattle.clap.specs.Kinds.{Kinds, or_else}
use Rattle.clap.specs.Faults.{turn_fault, walk_fault}
use Rattle.vf_words.specs.Positionals.{is_option, positionals}
use Rattle.vf_words.proofs.Hyphens.{Kind, ends, plain, long, short, kind_of, spelt}
use Rattle.vf_words.proofs.Steps.{Taken, between, more, rules, shape, turn_end, turn_long, turn_plain, turn_short, turn_trailing, unknown, walked_end, walked_plain, walked_trailing}

-- what is taken with some words more
abbrev pub added : Taken → List Text → Taken
added q [] = q
added q (v ∷ vs) = Some (unwrap_or q [] ++ v ∷ vs)

added_more : (q : Taken) (w : Text) (vs : List Text) → added (more q w) vs ≡ added q (w ∷ vs)
added_more q w [] = refl
added_more q w (v ∷ vs) = ap Some (append_assoc (unwrap_or q []) (w ∷ []) (v ∷ vs))

abbrev pub over : Walk → List Text → Walk
over s ws = fold (walked rules []) s ws

-- where the words end, these more are taken
pub record Ends (s : Walk) (q : Taken) : Type 0 where
  pub some : Bool
  pub trailing : Bool
  pub is : s ≡ between some trailing q

further : (w : Text) (ws vs : List Text) (s t : Walk) (q : Taken) → walked rules [] s w ≡ t → Ends (over t ws) (added (more q w) vs) → Ends (over s (w ∷ ws)) (added q (w ∷ vs))
further w ws vs s t q next e = record { some = e.some; trailing = e.trailing; is = ap (λ x. over x ws) next ∙ e.is ∙ ap (between e.some e.trailing) (added_more q w vs) }

pub ends_trailing : (ws : List Text) (b : Bool) (q : Taken) → Ends (over (between b true q) ws) (added q ws)
ends_trailing [] b q = record { some = b; trailing = true; is = refl }
ends_trailing (w ∷ ws) b q = further w ws ws (between b true q) (between true true (more q w)) q (walked_trailing b q w) (ends_trailing ws true (more q w))

-- the positional words of a word that ends the options, of one that asks for none, and of one that asks for one
pub at_end : (w : Text) (ws : List Text) → bytes_eq w (codes "--") ≡ true → positionals (w ∷ ws) ≡ Some ws
at_end w ws is = rw is refl

pub at_plain : (w : Text) (ws : List Text) → bytes_eq w (codes "--") ≡ false → is_option w ≡ false → positionals (w ∷ ws) ≡ option_map (λ vs. w ∷ vs) (positionals ws)
at_plain w ws no_end no_option = rw (no_end, no_option) refl

pub at_option : (w : Text) (ws : List Text) → bytes_eq w (codes "--") ≡ false → is_option w ≡ true → positionals (w ∷ ws) ≡ None
at_option w ws no_end is = rw (no_end, is) refl

-- a list of positional words begins with the word itself
pub begins : (w : Text) (vs : List Text) (o : Option (List Text)) → option_map (λ us. w ∷ us) o ≡ Some vs → (us : List Text) × (o ≡ Some us) × (vs ≡ w ∷ us)
begins w vs (Some us) e = (us, refl, let same : w ∷ us ≡ vs = cc in sym same)
begins w vs None e = absurd cc

pub ends_before : (ws vs : List Text) (b : Bool) (q : Taken) → positionals ws ≡ Some vs → Ends (over (between b false q) ws) (added q vs)
ends_before [] vs b q e = let none : [] ≡ vs = cc in subst (λ l. Ends (between b false q) (added q l)) none (record { some = b; trailing = false; is = refl })
ends_before (w ∷ ws) vs b q e = by (λ us h. ends_before ws us true (more q w) h) (kind_of w)
  where
    by : ((us : List Text) → positionals ws ≡ Some us → Ends (over (between true false (more q w)) ws) (added (more q w) us)) → Kind w → Ends (over (between b false q) (w ∷ ws)) (added q vs)
    by again (ends is) =
        let same : ws ≡ vs = let both : Some ws ≡ Some vs = sym (at_end w ws is) ∙ e in cc in
        let there = ends_trailing ws b q in
        subst (λ l. Ends (over (between b false q) (w ∷ ws)) (added q l)) same (record { some = there.some; trailing = there.trailing; is = ap (λ x. over x ws) (walked_end b q w is) ∙ there.is })
    by again (plain no_end no_option no_long no_short) =
        let front = begins w vs (positionals ws) (sym (at_plain w ws no_end no_option) ∙ e) in
        subst (λ l. Ends (over (between b false q) (w ∷ ws)) (added q l)) (sym front.2) (further w ws front.0 (between b false q) (between true false (more q w)) q (walked_plain b q w no_end no_long no_short) (again front.0 front.1))
    by again (long no_end is p l) = absurd (let no : None ≡ Some vs = sym (at_option w ws no_end is) ∙ e in cc)
    by again (short no_end is l x xs h y) = absurd (let no : None ≡ Some vs = sym (at_option w ws no_end is) ∙ e in cc)

-- what clap says of the first word counts, and else what it says of the others
first_counts : (name : Text) (w : Text) (ws : List Text) (s : Walk) (k : Kinds) → turn_fault (shape name) [] s w ≡ k → walk_fault (shape name) [] s (w ∷ ws) ≡ or_else k (walk_fault (shape name) [] (walked rules [] s w) ws)
unfolding walk_fault
first_counts name w ws s k is = ap (λ f. or_else f (walk_fault (shape name) [] (walked rules [] s w) ws)) is

then_others : (name : Text) (w : Text) (ws : List Text) (s t : Walk) → turn_fault (shape name) [] s w ≡ [] → walked rules [] s w ≡ t → walk_fault (shape name) [] s (w ∷ ws) ≡ walk_fault (shape name) [] t ws
then_others name w ws s t is next = first_counts name w ws s [] is ∙ ap (λ x. walk_fault (shape name) [] x ws) next

no_words : (name : Text) (s : Walk) → walk_fault (shape name) [] s [] ≡ []
unfolding walk_fault
no_words name s = refl

faultless_trailing : (name : Text) (ws : List Text) (b : Bool) (q : Taken) → walk_fault (shape name) [] (between b true q) ws ≡ []
faultless_trailing name [] b q = no_words name (between b true q)
faultless_trailing name (w ∷ ws) b q = then_others name w ws (between b true q) (between true true (more q w)) (turn_trailing name b q w) (walked_trailing b q w) ∙ faultless_trailing name ws true (more q w)

-- positional words have no fault
pub faultless : (name : Text) (ws vs : List Text) (b : Bool) (q : Taken) → positionals ws ≡ Some vs → walk_fault (shape name) [] (between b false q) ws ≡ []
faultless name [] vs b q e = no_words name (between b false q)
faultless name (w ∷ ws) vs b q e = by (λ us h. faultless name ws us true (more q w) h) (kind_of w)
  where
    by : ((us : List Text) → positionals ws ≡ Some us → walk_fault (shape name) [] (between true false (more q w)) ws ≡ []) → Kind w → walk_fault (shape name) [] (between b false q) (w ∷ ws) ≡ []
    by again (ends is) = then_others name w ws (between b false q) (between b true q) (turn_end name b q w is) (walked_end b q w is) ∙ faultless_trailing name ws b q
    by again (plain no_end no_option no_long no_short) =
        let front = begins w vs (positionals ws) (sym (at_plain w ws no_end no_option) ∙ e) in
        then_others name w ws (between b false q) (between true false (more q w)) (turn_plain name b q w no_end no_long no_short) (walked_plain b q w no_end no_long no_short) ∙ again front.0 front.1
    by again (long no_end is p l) = absurd (let no : None ≡ Some vs = sym (at_option w ws no_end is) ∙ e in cc)
    by again (short no_end is l x xs h y) = absurd (let no : None ≡ Some vs = sym (at_option w ws no_end is) ∙ e in cc)

-- words that are text
abbrev pub AreText : List Text → Type 0
AreText [] = Unit {0}
AreText (w ∷ ws) = IsUtf8 w × AreText ws

none_behind : (w : Text) (o : Option (List Text)) → option_map (λ us. w ∷ us) o ≡ None → o ≡ None
none_behind w None e = refl
none_behind w (Some us) e = absurd cc

-- a word that asks for an option is a fault
pub faulty : (name : Text) (ws : List Text) (b : Bool) (q : Taken) → AreText ws → positionals ws ≡ None → walk_fault (shape name) [] (between b false q) ws ≡ unknown
faulty name [] b q t e = absurd cc
faulty name (w ∷ ws) b q t e = by (λ h. faulty name ws true (more q w) t.1 h) (kind_of w)
  where
    by : (positionals ws ≡ None → walk_fault (shape name) [] (between true false (more q w)) ws ≡ unknown) → Kind w → walk_fault (shape name) [] (between b false q) (w ∷ ws) ≡ unknown
    by again (ends is) = absurd (let no : Some ws ≡ None = sym (at_end w ws is) ∙ e in cc)
    by again (plain no_end no_option no_long no_short) =
        then_others name w ws (between b false q) (between true false (more q w)) (turn_plain name b q w no_end no_long no_short) (walked_plain b q w no_end no_long no_short)
        ∙ again (none_behind w (positionals ws) (sym (at_plain w ws no_end no_option) ∙ e))
    by again (long no_end is p l) = first_counts name w ws (between b false q) unknown (turn_long name b q w p no_end l)
    by again (short no_end is l x xs h y) =
        let word = spelt x xs (subst IsUtf8 y t.0) in
        first_counts name w ws (between b false q) unknown (turn_short name b q w x xs word.1 word.0 no_end l h word.2)
