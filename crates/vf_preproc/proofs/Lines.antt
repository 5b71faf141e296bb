-- Where the first line of a text ends, and when two lists of tokens look alike.
use Rattle.std.proofs.Common.{◌≡◌, ◌≢◌, ℕ, zero, suc, ◌+◌, ◌<◌, ◌≤◌, arith, refl, sym, ap, ◌∙◌, Bool, true, false, cond, List, [], ◌∷◌, ◌++◌, length, take, drop, get_or, nat_eq, add-one, ◌&&◌}
use Rattle.std.specs.List.{AllByRecursion}
use Rattle.std.specs.Str.{bytes_eq}
use Rattle.std.proofs.lemmas.Bool.{cond-true, cond-false, eq-eqb, eqb-true}
use Rattle.std.proofs.lemmas.List.{take-append-drop}
use Rattle.vf_lexer.specs.declared.token.Token.{Token}
use Rattle.vf_preproc.specs.Directives.{lines_of, with_first, is_same_line, is_alike}

-- a token begins on a line
abbrev pub IsOn : ℕ → Token → Type 0
IsOn line t = t.place.line ≡ line

-- tokens that do not go on with a line
abbrev pub Leaves : ℕ → List Token → Type 0
Leaves line [] = Unit {0}
Leaves line (t ∷ ts) = t.place.line ≡ line → ⊥

-- a token is the first one of its lines
first_there : (t : Token) (lines : List (List Token)) → (us : List Token) × (more : List (List Token)) × (with_first t lines ≡ (t ∷ us) ∷ more)
first_there t [] = ([], [], refl)
first_there t ([] ∷ lines) = ([], lines, refl)
first_there t ((u ∷ us) ∷ lines) = by_test (is_same_line t u)
  where
    by_test : (b : Bool) → (vs : List Token) × (more : List (List Token)) × (cond b ((t ∷ u ∷ us) ∷ lines) ((t ∷ []) ∷ (u ∷ us) ∷ lines) ≡ (t ∷ vs) ∷ more)
    by_test true = (u ∷ us, lines, refl)
    by_test false = ([], (u ∷ us) ∷ lines, refl)

not_equal : (a b : ℕ) → (a ≡ b → ⊥) → (c : Bool) → nat_eq a b ≡ c → c ≡ false
not_equal a b apart true e = absurd (apart (eqb-true a b e))
not_equal a b apart false e = refl

-- a token in front of another line stands on a line of its own
alone : (line : ℕ) (t : Token) (rest : List Token) → IsOn line t → Leaves line rest → with_first t (lines_of rest) ≡ (t ∷ []) ∷ lines_of rest
alone line t [] on leaves = refl
alone line t (u ∷ us) on leaves = told (first_there u (lines_of us))
  where
    told : (vs : List Token) × (more : List (List Token)) × (with_first u (lines_of us) ≡ (u ∷ vs) ∷ more) → with_first t (with_first u (lines_of us)) ≡ (t ∷ []) ∷ with_first u (lines_of us)
    told (vs, more, is) =
        let apart : is_same_line t u ≡ false = not_equal t.place.line u.place.line (λ e. leaves (sym e ∙ on)) (nat_eq t.place.line u.place.line) refl in
        rw is (cond-false (is_same_line t u) ((t ∷ u ∷ vs) ∷ more) ((t ∷ []) ∷ (u ∷ vs) ∷ more) apart)

-- tokens of one line in front of another are the first line
pub lines-cut : (line : ℕ) (t : Token) (front rest : List Token) → IsOn line t → AllByRecursion (IsOn line) front → Leaves line rest → lines_of (t ∷ front ++ rest) ≡ (t ∷ front) ∷ lines_of rest
lines-cut line t [] rest on all leaves = alone line t rest on leaves
lines-cut line t (f ∷ fs) rest on all leaves =
    let same : is_same_line t f ≡ true = eq-eqb t.place.line f.place.line (on ∙ sym all.0) in
    ap (with_first t) (lines-cut line f fs rest all.0 all.1 leaves) ∙ cond-true (is_same_line t f) ((t ∷ f ∷ fs) ∷ lines_of rest) ((t ∷ []) ∷ (f ∷ fs) ∷ lines_of rest) same

-- the first line is the tokens up to a place, where all up to there begin on the line and the next does not
pub first_line : (line : ℕ) (ts : List Token) (n : ℕ) → 0 < n → n ≤ length ts → AllByRecursion (IsOn line) (take n ts) → Leaves line (drop n ts) → lines_of ts ≡ take n ts ∷ lines_of (drop n ts)
first_line line [] n some within all leaves = absurd (omega arith)
first_line line (t ∷ ts) zero some within all leaves = absurd (omega arith)
first_line line (t ∷ ts) (suc n) some within all leaves =
    ap (λ xs. lines_of (t ∷ xs)) (sym (take-append-drop n ts)) ∙ lines-cut line t (take n ts) (drop n ts) all.0 all.1 leaves

-- one more token of the line
pub all-more : (line : ℕ) (ts : List Token) (n : ℕ) (d : Token) → n < length ts → AllByRecursion (IsOn line) (take n ts) → IsOn line (get_or ts n d) → AllByRecursion (IsOn line) (take (n + 1) ts)
all-more line [] n d within all on = absurd (omega arith)
all-more line (t ∷ ts) zero d within all on = (on, tt)
all-more line (t ∷ ts) (suc n) d within all on =
    let inside : n < length ts = omega arith in
    rw add-one (all.0, rw add-one at (all-more line ts n d inside all.1 on))

pub leaves_at : (line : ℕ) (ts : List Token) (n : ℕ) (d : Token) → n < length ts → (IsOn line (get_or ts n d) → ⊥) → Leaves line (drop n ts)
leaves_at line [] n d within off = absurd (omega arith)
leaves_at line (t ∷ ts) zero d within off = off
leaves_at line (t ∷ ts) (suc n) d within off = leaves_at line ts n d (omega arith) off

pub leaves_end : (line : ℕ) (ts : List Token) → Leaves line (drop (length ts) ts)
leaves_end line [] = tt
leaves_end line (t ∷ ts) = leaves_end line ts

and_right : (a b : Bool) → (a && b) ≡ true → b ≡ true
and_right true b h = h
and_right false b h = absurd cc

is_false : (b : Bool) → (b ≡ true → ⊥) → b ≡ false
is_false b never = elim b as (λ v. (v ≡ true → ⊥) → v ≡ false) [ true ↦ λ n. absurd (n refl) | false ↦ λ n. refl ] never

-- lists that look alike are as long
alike_length : (ts us : List Token) → is_alike ts us ≡ true → length ts ≡ length us
alike_length [] [] h = refl
alike_length [] (u ∷ us) h = absurd cc
alike_length (t ∷ ts) [] h = absurd cc
alike_length (t ∷ ts) (u ∷ us) h = ap suc (alike_length ts us (and_right (bytes_eq t.text u.text) (is_alike ts us) h))

pub other_length : (ts us : List Token) → length ts ≢ length us → is_alike ts us ≡ false
other_length ts us apart = is_false (is_alike ts us) (λ e. apart (alike_length ts us e))

-- alike so far, and so at the next token
pub alike_step : (ts us : List Token) (n : ℕ) (d e : Token) → n < length ts → n < length us → is_alike (drop n ts) (drop n us) ≡ (bytes_eq (get_or ts n d).text (get_or us n e).text && is_alike (drop (n + 1) ts) (drop (n + 1) us))
alike_step [] us n d e a b = absurd (omega arith)
alike_step (t ∷ ts) [] n d e a b = absurd (omega arith)
alike_step (t ∷ ts) (u ∷ us) zero d e a b = refl
alike_step (t ∷ ts) (u ∷ us) (suc n) d e a b = let more : suc n + 1 ≡ suc (n + 1) = omega arith in rw more (alike_step ts us n d e (omega arith) (omega arith))

pub alike_end : (ts us : List Token) → length ts ≡ length us → is_alike (drop (length ts) ts) (drop (length ts) us) ≡ true
alike_end [] [] h = refl
alike_end [] (u ∷ us) h = absurd (omega arith)
alike_end (t ∷ ts) [] h = absurd (omega arith)
alike_end (t ∷ ts) (u ∷ us) h = alike_end ts us (omega arith)
