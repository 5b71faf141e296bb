-- A piece takes a byte at least, and no more than there are.
use Rattle.std.proofs.Common.{◌≡◌, ℕ, zero, suc, ◌+◌, ◌-◌, ◌<◌, ◌≤◌, Bool, true, false, cond, List, [], ◌∷◌, length, take, drop, Option, Some, None, refl, ap, subst, arith, length-take, length-drop}
use Rattle.std.specs.Prelude.{nat_eq, nat_lt, nat_le, ◌&&◌, ◌||◌, codes, slice_get}
use Rattle.std.specs.Char.{is_ascii_digit}
use Rattle.std.specs.Cmp.Lexicographic.{pointwise}
use Rattle.std.specs.List.{starts_with, list_all}
use Rattle.std.proofs.lemmas.List.Sums.{prefix_len-le-length}
use Rattle.std.proofs.lemmas.Bool.{leb-true, ltb-true, eqb-true}
use Rattle.vf_base.specs.declared.int_type.IntType.{IntType}
use Rattle.vf_lexer.specs.declared.class.Class.{Class}
use Rattle.vf_lexer.specs.declared.class.Class.TheVariants as classes
use Rattle.vf_lexer.specs.declared.token.Kind.TheVariants as kinds
use Rattle.vf_lexer.specs.declared.punctuator.Punctuator.{Punctuator}
use Rattle.vf_lexer.specs.Bytes.{is_letter, is_blank, is_plain}
use Rattle.vf_lexer.specs.Numbers.{◌>>=◌, number_of}
use Rattle.vf_lexer.specs.Punctuators.{spelling, longest_of, punctuator_of, real_punctuators, ghost_punctuators}
use Rattle.vf_lexer.specs.Pieces.{is_of, run_len, Front, name_front, number_front, escaped, plain_character, escaped_character, character_front, closed_literal, literal_front, punctuator_front, token_front, gap, token, solid_piece, ended_from, block_comment, plain_piece, closed_block, block_opening, outer_piece, inner_piece, begins_with_mark, header_piece, PieceFits}

pub either : {X : Type 0} (P : X → Type 0) (b : Bool) (x y : X) → (b ≡ true → P x) → (b ≡ false → P y) → P (cond b x y)
either P true x y h k = h refl
either P false x y h k = k refl

pub or_left : (a b : Bool) → a ≡ true → (a || b) ≡ true
or_left true b h = refl
or_left false b h = absurd cc

pub or_right : (a b : Bool) → b ≡ true → (a || b) ≡ true
or_right true b h = refl
or_right false b h = h

pub and_left : (a b : Bool) → (a && b) ≡ true → a ≡ true
and_left true b h = refl
and_left false b h = absurd cc

pub or_case : {P : Type 0} (a b : Bool) → (a || b) ≡ true → (a ≡ true → P) → (b ≡ true → P) → P
or_case true b h k l = k refl
or_case false b h k l = l h

pub or_left_no : (a b : Bool) → (a || b) ≡ false → a ≡ false
or_left_no true b h = absurd cc
or_left_no false b h = refl

pub or_right_no : (a b : Bool) → (a || b) ≡ false → b ≡ false
or_right_no true b h = absurd cc
or_right_no false b h = h

pub and_right : (a b : Bool) → (a && b) ≡ true → b ≡ true
and_right true b h = h
and_right false b h = absurd cc

pointwise_length : (a b : List ℕ) → pointwise nat_eq a b ≡ true → length a ≡ length b
pointwise_length [] [] h = refl
pointwise_length [] (y ∷ b) h = absurd cc
pointwise_length (x ∷ a) [] h = absurd cc
pointwise_length (x ∷ a) (y ∷ b) h = ap suc (pointwise_length a b (and_right (nat_eq x y) (pointwise nat_eq a b) h))

pub starts_fits : (text front : List ℕ) → starts_with nat_eq text front ≡ true → length front ≤ length text
starts_fits text front h = omega (arith, pointwise_length front (take (length front) text) h, length-take (length front) text)

-- ---- tokens

unfoldable pub FrontFits : ℕ → Front → Type 0
FrontFits most None = Unit {0}
FrontFits most (Some x) = (0 < x.1) × (x.1 ≤ most)

some_run : (c : Class) (b : ℕ) (bs : List ℕ) → is_of c b ≡ true → 0 < run_len c (b ∷ bs)
some_run c b bs h = rw h (omega arith)

run_within : (c : Class) (text : List ℕ) → run_len c text ≤ length text
run_within c text = prefix_len-le-length (is_of c) text

name_fits : (ghost : Bool) (b : ℕ) (bs : List ℕ) → is_letter b ≡ true → FrontFits (length (b ∷ bs)) (name_front ghost (b ∷ bs))
unfolding FrontFits
name_fits ghost b bs h = (some_run classes.Word b bs (or_left (is_letter b) (is_ascii_digit b) h), run_within classes.Word (b ∷ bs))

number_then : (most n : ℕ) (o : Option (ℕ × IntType)) → 0 < n → n ≤ most → FrontFits most (o >>= λ x. Some (kinds.Number x.0 x.1, n))
unfolding FrontFits
number_then most n None h k = tt
number_then most n (Some x) h k = (h, k)

number_fits : (ghost : Bool) (b : ℕ) (bs : List ℕ) → is_ascii_digit b ≡ true → FrontFits (length (b ∷ bs)) (number_front ghost (b ∷ bs))
number_fits ghost b bs h =
    let word = or_right (is_letter b) (is_ascii_digit b) h in
    number_then (length (b ∷ bs)) (run_len classes.Number (b ∷ bs)) (number_of ghost (take (run_len classes.Number (b ∷ bs)) (b ∷ bs))) (some_run classes.Number b bs (or_left _ _ word)) (run_within classes.Number (b ∷ bs))

plain_fits : (most a b : ℕ) → 3 ≤ most → FrontFits most (plain_character a b)
unfolding FrontFits
plain_fits most a b h = either (FrontFits most) (is_plain a && nat_eq b 39) (Some (kinds.Character a, 3)) None (λ e. (omega arith, h)) (λ e. tt)

escaped_then : (most : ℕ) (o : Option ℕ) → 4 ≤ most → FrontFits most (o >>= λ value. Some (kinds.Character value, 4))
unfolding FrontFits
escaped_then most None h = tt
escaped_then most (Some v) h = (omega arith, h)

escaped_fits : (most a b : ℕ) → 4 ≤ most → FrontFits most (escaped_character a b)
unfolding FrontFits
escaped_fits most a b h = either (FrontFits most) (nat_eq b 39) (escaped a >>= λ value. Some (kinds.Character value, 4)) None (λ e. escaped_then most (escaped a) h) (λ e. tt)

character_fits : (b : ℕ) (bs : List ℕ) → FrontFits (length (b ∷ bs)) (character_front bs)
unfolding FrontFits
character_fits q [] = tt
character_fits q (a ∷ []) = tt
character_fits q (a ∷ b ∷ []) = plain_fits (length (q ∷ a ∷ b ∷ [])) a b (omega arith)
character_fits q (a ∷ b ∷ c ∷ rest) = let most = length (q ∷ a ∷ b ∷ c ∷ rest) in
    either (FrontFits most) (nat_eq a 92) (escaped_character b c) (plain_character a b) (λ e. escaped_fits most b c (omega arith)) (λ e. plain_fits most a b (omega arith))

got_within : (text : List ℕ) (i b : ℕ) → slice_get text i ≡ Some b → i < length text
got_within [] i b h = absurd cc
got_within (x ∷ xs) zero b h = omega arith
got_within (x ∷ xs) (suc i) b h = omega (arith, got_within xs i b h)

literal_then : (text : List ℕ) (n : ℕ) (o : Option ℕ) → slice_get text n ≡ o → FrontFits (suc (length text)) (closed_literal n o)
unfolding FrontFits
literal_then text n None h = tt
literal_then text n (Some b) h = either (FrontFits (suc (length text))) (nat_eq b 34) (Some (kinds.Literal, n + 2)) None (λ e. (omega arith, omega (arith, got_within text n b h))) (λ e. tt)

literal_fits : (b : ℕ) (bs : List ℕ) → FrontFits (length (b ∷ bs)) (literal_front bs)
literal_fits b bs = literal_then bs (run_len classes.Quoted bs) (slice_get bs (run_len classes.Quoted bs)) refl

abbrev with_size : Option Punctuator → Front
with_size o = o >>= λ p. Some (kinds.Punctuator p, length (spelling p))

longest_fits : (ps : List Punctuator) (text : List ℕ) → list_all (λ p. nat_lt 0 (length (spelling p))) ps ≡ true → FrontFits (length text) (with_size (longest_of ps text))
unfolding FrontFits
longest_fits [] text h = tt
longest_fits (p ∷ ps) text h = either (λ o. FrontFits (length text) (with_size o)) (starts_with nat_eq text (spelling p)) (Some p) (longest_of ps text)
    (λ e. (ltb-true 0 (length (spelling p)) (and_left (nat_lt 0 (length (spelling p))) _ h), starts_fits text (spelling p) e))
    (λ e. longest_fits ps text (and_right (nat_lt 0 (length (spelling p))) _ h))

punctuator_fits : (ghost : Bool) (text : List ℕ) → FrontFits (length text) (punctuator_front ghost text)
unfolding punctuator_of
punctuator_fits true text = longest_fits ghost_punctuators text refl
punctuator_fits false text = longest_fits real_punctuators text refl

pub token_fits : (ghost : Bool) (text : List ℕ) → FrontFits (length text) (token_front ghost text)
unfolding token_front FrontFits
token_fits ghost [] = tt
token_fits ghost (b ∷ bs) = let P = FrontFits (length (b ∷ bs)) in
    either P (is_letter b) _ _ (λ e. name_fits ghost b bs e)
    (λ e. either P (is_ascii_digit b) _ _ (λ f. number_fits ghost b bs f)
    (λ f. either P (nat_eq b 39) _ _ (λ g. character_fits b bs)
    (λ g. either P (nat_eq b 34) _ _ (λ h. literal_fits b bs)
    (λ h. punctuator_fits ghost (b ∷ bs)))))

-- ---- pieces

token_then : (most : ℕ) (o : Front) → FrontFits most o → PieceFits most (o >>= λ x. Some (token x))
unfolding FrontFits
token_then most None h = tt
token_then most (Some x) h = (h.0, omega (arith, h.1))

pub solid_fits : (ghost : Bool) (text : List ℕ) → PieceFits (length text) (solid_piece ghost text)
unfolding solid_piece
solid_fits ghost [] = tt
solid_fits ghost (b ∷ bs) = either (PieceFits (length (b ∷ bs))) (is_blank b) _ _ (λ e. (omega arith, omega arith)) (λ e. token_then (length (b ∷ bs)) (token_front ghost (b ∷ bs)) (token_fits ghost (b ∷ bs)))

EndsWithin : ℕ → ℕ → Option ℕ → Type 0
EndsWithin n most None = Unit {0}
EndsWithin n most (Some k) = (n + 2 ≤ k) × (k ≤ n + most)

ends_earlier : (n most : ℕ) (o : Option ℕ) → EndsWithin (n + 1) most o → EndsWithin n (suc most) o
unfolding EndsWithin
ends_earlier n most None h = tt
ends_earlier n most (Some k) h = (omega (arith, h.0), omega (arith, h.1))

ends_within : (n : ℕ) (text : List ℕ) → EndsWithin n (length text) (ended_from n text)
unfolding EndsWithin
ends_within n [] = tt
ends_within n (b ∷ bs) = either (EndsWithin n (length (b ∷ bs))) (starts_with nat_eq (b ∷ bs) (codes "*/")) (Some (n + 2)) (ended_from (n + 1) bs)
    (λ e. let two : 2 ≤ length (b ∷ bs) = starts_fits (b ∷ bs) (codes "*/") e in (omega arith, omega arith))
    (λ e. ends_earlier n (length bs) (ended_from (n + 1) bs) (ends_within (n + 1) bs))

comment_then : (most rest : ℕ) (o : Option ℕ) → rest + 2 ≤ most → EndsWithin 2 rest o → PieceFits most (o >>= λ n. Some (gap n))
unfolding EndsWithin
comment_then most rest None k h = tt
comment_then most rest (Some n) k h = (omega (arith, h.0), omega (arith, h.1))

comment_fits : (text : List ℕ) → starts_with nat_eq text (codes "/*") ≡ true → PieceFits (length text) (block_comment text)
comment_fits text e =
    let two : 2 ≤ length text = starts_fits text (codes "/*") e in
    comment_then (length text) (length (drop 2 text)) (ended_from 2 (drop 2 text)) (omega (arith, length-drop 2 text)) (ends_within 2 (drop 2 text))

-- a slash ends no line
some_line : (b : ℕ) (bs : List ℕ) → starts_with nat_eq (b ∷ bs) (codes "//") ≡ true → 0 < run_len classes.Line (b ∷ bs)
some_line b bs e =
    let slash : 47 ≡ b = eqb-true 47 b (and_left (nat_eq 47 b) _ e) in
    some_run classes.Line b bs (subst (λ x. is_of classes.Line x ≡ true) slash refl)

line_fits : (text : List ℕ) → starts_with nat_eq text (codes "//") ≡ true → PieceFits (length text) (Some (gap (run_len classes.Line text)))
line_fits [] e = absurd (let two : 2 ≤ length {A = ℕ} [] = starts_fits [] (codes "//") e in omega arith)
line_fits (b ∷ bs) e = (some_line b bs e, omega (arith, run_within classes.Line (b ∷ bs)))

pub plain_piece_fits : (ghost : Bool) (text : List ℕ) → PieceFits (length text) (plain_piece ghost text)
unfolding plain_piece
plain_piece_fits ghost text = either (PieceFits (length text)) (starts_with nat_eq text (codes "//")) _ _ (λ e. line_fits text e)
    (λ e. either (PieceFits (length text)) (starts_with nat_eq text (codes "/*")) _ _ (λ f. comment_fits text f) (λ f. solid_fits ghost text))

closed_fits : (text : List ℕ) (n : ℕ) → n ≤ length text → PieceFits (3 + length text) (closed_block text n)
closed_fits text n h = either (PieceFits (3 + length text)) (nat_le 3 n) _ _
    (λ e. let three : 3 ≤ n = leb-true 3 n e in
    either (PieceFits (3 + length text)) (starts_with nat_eq (drop (n - 3) text) (codes "@")) _ _ (λ f. (omega arith, omega arith)) (λ f. tt))
    (λ e. tt)

opening_then : (text : List ℕ) (o : Option ℕ) → EndsWithin 0 (length text) o → PieceFits (3 + length text) (o >>= λ n. closed_block text n)
unfolding EndsWithin
opening_then text None h = tt
opening_then text (Some n) h = closed_fits text n (omega (arith, h.1))

pub opening_fits : (text : List ℕ) → 3 ≤ length text → PieceFits (length text) (block_opening (drop 3 text))
opening_fits text h =
    let whole : 3 + length (drop 3 text) ≡ length text = omega (arith, length-drop 3 text) in
    subst (λ n. PieceFits n (block_opening (drop 3 text))) whole (opening_then (drop 3 text) (ended_from 0 (drop 3 text)) (ends_within 0 (drop 3 text)))

pub outer_fits : (text : List ℕ) → PieceFits (length text) (outer_piece text)
unfolding outer_piece
outer_fits text = either (PieceFits (length text)) (starts_with nat_eq text (codes "//@")) _ _
    (λ e. let three : 3 ≤ length text = starts_fits text (codes "//@") e in (omega arith, omega (arith, length-drop 3 text, run_within classes.Line (drop 3 text))))
    (λ e. either (PieceFits (length text)) (starts_with nat_eq text (codes "/*@")) _ _ (λ f. opening_fits text (starts_fits text (codes "/*@") f)) (λ f. plain_piece_fits false text))

pub inner_fits : (text : List ℕ) → PieceFits (length text) (inner_piece text)
unfolding inner_piece
inner_fits text = either (PieceFits (length text)) (starts_with nat_eq text (codes "//")) _ _ (λ e. line_fits text e)
    (λ e. either (PieceFits (length text)) (starts_with nat_eq text (codes "/*")) _ _ (λ f. tt) (λ f. solid_fits true text))

mark_fits : (text : List ℕ) → begins_with_mark text ≡ true → 3 ≤ length text
mark_fits text e = or_case (starts_with nat_eq text (codes "//@") || starts_with nat_eq text (codes "/*@")) (starts_with nat_eq text (codes "@*/")) e
    (λ f. or_case (starts_with nat_eq text (codes "//@")) (starts_with nat_eq text (codes "/*@")) f (starts_fits text (codes "//@")) (starts_fits text (codes "/*@")))
    (starts_fits text (codes "@*/"))

pub header_fits : (text : List ℕ) → PieceFits (length text) (header_piece text)
unfolding header_piece
header_fits text = either (PieceFits (length text)) (begins_with_mark text) _ _ (λ e. let three = mark_fits text e in (omega arith, omega arith)) (λ e. plain_piece_fits true text)
