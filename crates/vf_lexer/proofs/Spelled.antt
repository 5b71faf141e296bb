-- The token in front of a text is written as its kind is, and no longer front of the text is written as a token is.
use Rattle.std.proofs.Common.{◌≡◌, inl, inr, ℕ, zero, suc, cond, ◌+◌, ◌<◌, ◌≤◌, Bool, true, false, List, [], ◌∷◌, ◌++◌, length, take, drop, Option, Some, None, refl, sym, ap, subst, ◌∙◌, arith, append_assoc}
use Rattle.std.specs.Prelude.{nat_eq, not, ◌&&◌, ◌==◌, codes, if◌then◌else◌, slice_get, Contains}
use Rattle.std.specs.Option.{unwrap_or}
use Rattle.std.proofs.Math.Seq.{take-append_seam}
use Rattle.std.specs.Char.{is_ascii_digit, is_digit, digit_value}
use Rattle.std.specs.Cmp.Lexicographic.{pointwise}
use Rattle.std.specs.List.{starts_with, list_all, list_any}
use Rattle.std.specs.Str.{bytes_eq}
use Rattle.std.proofs.lemmas.Bool.{eqb-true, ltb-true}
use Rattle.std.proofs.lemmas.Bool.Decides.{nat_tests}
use Rattle.vf_base.proofs.DecimalLaws.{digit_tests}
use Rattle.std.proofs.lemmas.List.{length-append, take-append-drop}
use Rattle.vf_base.specs.declared.int_type.IntType.{IntType}
use Rattle.vf_lexer.specs.declared.class.Class.{Class}
use Rattle.vf_lexer.specs.declared.class.Class.TheVariants as classes
use Rattle.vf_lexer.specs.declared.token.Kind.{Kind}
use Rattle.vf_lexer.specs.declared.token.Kind.TheVariants as kinds
use Rattle.vf_lexer.specs.declared.punctuator.Punctuator.{Punctuator}
use Rattle.vf_lexer.specs.Bytes.{is_letter, is_word_byte, is_number_byte, is_plain, is_quoted}
use Rattle.vf_lexer.specs.Numbers.{◌>>=◌, number_of, digits_len, is_among, plain_suffixes, long_suffixes, long_long_suffixes, suffix_longs, suffix_of, is_u, type_of, real_type, ghost_type, type_in, value_of, number_with, split_number}
use Rattle.vf_lexer.specs.Punctuators.{spelling, longest_of, punctuator_of, punctuators_in, real_punctuators, ghost_punctuators}
use Rattle.vf_lexer.specs.Pieces.{is_of, run_len, Front, name_kind, name_front, number_front, escaped, plain_character, escaped_character, character_front, closed_literal, literal_front, punctuator_front, token_front}
use Rattle.vf_lexer.specs.Spellings.{IsWord, Spells, IsLongest}
use Rattle.vf_lexer.proofs.Sizes.{either, and_left, and_right, or_left, or_case}
use Rattle.vf_lexer.proofs.Bodies.{front_of}
use Rattle.vf_lexer.specs.Cuts.{IsToken}
use Rattle.vf_lexer.proofs.Longest.{longest, all_at}

-- ---- a text that begins as a token is written has no shorter token in front

run_at_least : (c : Class) (bytes after : List ℕ) → list_all (is_of c) bytes ≡ true → length bytes ≤ run_len c (bytes ++ after)
run_at_least c [] after h = omega arith
run_at_least c (b ∷ bs) after h =
    let more = run_at_least c bs after (and_right (is_of c b) (list_all (is_of c) bs) h) in
    rw (and_left (is_of c b) (list_all (is_of c) bs) h) (omega arith)

abbrev size_in : Front → ℕ
size_in None = 0
size_in (Some x) = x.1

abbrev front : Kind → ℕ → Front
front k n = Some (k, n)

size_of : (k x : Kind) (m n : ℕ) → front x m ≡ front k n → m ≡ n
size_of k x m n e = ap size_in e

if_true : (t : Bool) (x y : Front) → t ≡ true → (if t then x else y) ≡ x
if_true true x y h = refl
if_true false x y h = absurd cc

if_false : (t : Bool) (x y : Front) → t ≡ false → (if t then x else y) ≡ y
if_false true x y h = absurd cc
if_false false x y h = refl

front_letter : (ghost : Bool) (b : ℕ) (bs : List ℕ) → is_letter b ≡ true → token_front ghost (b ∷ bs) ≡ name_front ghost (b ∷ bs)
unfolding token_front
front_letter ghost b bs h = if_true (is_letter b) _ _ h

front_digit : (ghost : Bool) (b : ℕ) (bs : List ℕ) → is_letter b ≡ false → is_ascii_digit b ≡ true → token_front ghost (b ∷ bs) ≡ number_front ghost (b ∷ bs)
unfolding token_front
front_digit ghost b bs h k = if_false (is_letter b) _ _ h ∙ if_true (is_ascii_digit b) _ _ k

name_least : (ghost : Bool) (b : ℕ) (bs after : List ℕ) (k : Kind) (n : ℕ) → is_letter b ≡ true → list_all is_word_byte bs ≡ true → token_front ghost (b ∷ (bs ++ after)) ≡ front k n → suc (length bs) ≤ n
name_least ghost b bs after k n h all e =
    let word : is_word_byte b ≡ true = or_left (is_letter b) (is_ascii_digit b) h in
    let found : name_front ghost (b ∷ (bs ++ after)) ≡ front k n = sym (front_letter ghost b (bs ++ after) h) ∙ e in
    let least : suc (length bs) ≤ run_len classes.Word (b ∷ (bs ++ after)) = run_at_least classes.Word (b ∷ bs) after (rw word all) in
    let same : run_len classes.Word (b ∷ (bs ++ after)) ≡ n = size_of k _ _ n found in
    omega arith

number_size : (o : Option (ℕ × IntType)) (m n : ℕ) (k : Kind) → (o >>= λ x. front (kinds.Number x.0 x.1) m) ≡ front k n → m ≡ n
number_size None m n k e = absurd cc
number_size (Some x) m n k e = size_of k (kinds.Number x.0 x.1) m n e

digit_no_letter : (b : ℕ) → is_ascii_digit b ≡ true → is_letter b ≡ false
digit_no_letter b h = grind (arith, nat_tests)

-- ---- numbers are number bytes, and begin with a digit

digit_byte : (c base : ℕ) → base ≤ 16 → is_digit c base ≡ true → is_number_byte c ≡ true
digit_byte c base h e =
    let less : digit_value c < base = ltb-true (digit_value c) base e in
    let small : digit_value c < 16 = omega arith in
    small_byte c small
  where
    small_byte : (c : ℕ) → digit_value c < 16 → is_number_byte c ≡ true
    small_byte c h = grind (arith, nat_tests)

both_true : (a b : Bool) → a ≡ true → b ≡ true → (a && b) ≡ true
both_true true b h k = k
both_true false b h k = absurd cc

digits_bytes : (base : ℕ) (text : List ℕ) → base ≤ 16 → list_all is_number_byte (take (digits_len base text) text) ≡ true
digits_bytes base [] h = refl
digits_bytes base (c ∷ cs) h = by_digit (is_digit c base) refl (digits_bytes base cs h)
  where
    by_digit : (t : Bool) → is_digit c base ≡ t → list_all is_number_byte (take (digits_len base cs) cs) ≡ true → list_all is_number_byte (take (digits_len base (c ∷ cs)) (c ∷ cs)) ≡ true
    by_digit true e more = let one : 1 + digits_len base cs ≡ suc (digits_len base cs) = omega arith in rw (e, one) (both_true (is_number_byte c) _ (digit_byte c base h e) more)
    by_digit false e more = rw e refl

same_bytes : (a b : List ℕ) → bytes_eq a b ≡ true → a ≡ b
same_bytes [] [] h = refl
same_bytes [] (y ∷ b) h = absurd cc
same_bytes (x ∷ a) [] h = absurd cc
same_bytes (x ∷ a) (y ∷ b) h = let first : x ≡ y = eqb-true x y (and_left (nat_eq x y) (pointwise nat_eq a b) h) in let rest : a ≡ b = same_bytes a b (and_right (nat_eq x y) (pointwise nat_eq a b) h) in cc

among_bytes : (words : List (List ℕ)) (w : List ℕ) → list_all (λ x. list_all is_number_byte x) words ≡ true → is_among words w ≡ true → list_all is_number_byte w ≡ true
among_bytes [] w h e = absurd cc
among_bytes (x ∷ xs) w h e = or_case (bytes_eq w x) (is_among xs w) e
    (λ f. subst (λ y. list_all is_number_byte y ≡ true) (sym (same_bytes w x f)) (and_left (list_all is_number_byte x) (list_all (λ y. list_all is_number_byte y) xs) h))
    (λ f. among_bytes xs w (and_right (list_all is_number_byte x) (list_all (λ y. list_all is_number_byte y) xs) h) f)

longs_bytes : (w : List ℕ) (a b c : Bool) (n : ℕ) → is_among plain_suffixes w ≡ a → is_among long_suffixes w ≡ b → is_among long_long_suffixes w ≡ c → (if a then Some 0 else (if b then Some 1 else (if c then Some 2 else None))) ≡ Some n → list_all is_number_byte w ≡ true
longs_bytes w true b c n e f g h = among_bytes plain_suffixes w refl e
longs_bytes w false true c n e f g h = among_bytes long_suffixes w refl f
longs_bytes w false false true n e f g h = among_bytes long_long_suffixes w refl g
longs_bytes w false false false n e f g h = absurd cc

suffix_bytes : (w : List ℕ) (n : ℕ) → suffix_longs w ≡ Some n → list_all is_number_byte w ≡ true
unfolding suffix_longs
suffix_bytes w n e = longs_bytes w (is_among plain_suffixes w) (is_among long_suffixes w) (is_among long_long_suffixes w) n refl refl refl e

real_suffix : (w : List ℕ) (o : Option ℕ) (decimal : Bool) (value : ℕ) (t : IntType) → suffix_longs w ≡ o → ((o >>= λ n. Some (record { unsigned = list_any is_u w; longs = n })) >>= λ s. type_of s decimal value) ≡ Some t → list_all is_number_byte w ≡ true
real_suffix w None decimal value t e f = absurd cc
real_suffix w (Some n) decimal value t e f = suffix_bytes w n e

type_bytes : (ghost : Bool) (w : List ℕ) (decimal : Bool) (value : ℕ) (t : IntType) → type_in ghost w decimal value ≡ Some t → list_all is_number_byte w ≡ true
unfolding ghost_type real_type suffix_of
type_bytes true [] decimal value t e = refl
type_bytes true (b ∷ bs) decimal value t e = absurd cc
type_bytes false w decimal value t e = real_suffix w (suffix_longs w) decimal value t refl e

with_type : (ghost : Bool) (w : List ℕ) (decimal : Bool) (value : ℕ) (o : Option IntType) (x : ℕ × IntType) → type_in ghost w decimal value ≡ o → (o >>= λ t. Some (value, t)) ≡ Some x → list_all is_number_byte w ≡ true
with_type ghost w decimal value None x e f = absurd cc
with_type ghost w decimal value (Some t) x e f = type_bytes ghost w decimal value t e

with_value : (ghost : Bool) (w : List ℕ) (decimal : Bool) (o : Option ℕ) (x : ℕ × IntType) → (o >>= λ value. type_in ghost w decimal value >>= λ t. Some (value, t)) ≡ Some x → list_all is_number_byte w ≡ true
with_value ghost w decimal None x e = absurd cc
with_value ghost w decimal (Some value) x e = with_type ghost w decimal value (type_in ghost w decimal value) x refl e

number_suffix : (ghost : Bool) (base : ℕ) (digits w : List ℕ) (x : ℕ × IntType) → number_with ghost base digits w ≡ Some x → (0 < length digits) × (list_all is_number_byte w ≡ true)
unfolding number_with
number_suffix ghost base [] w x e = absurd cc
number_suffix ghost base (d ∷ ds) w x e = (omega arith, with_value ghost w (base == 10) (value_of base (d ∷ ds)) x e)

all_append : (test : ℕ → Bool) (a b : List ℕ) → list_all test a ≡ true → list_all test b ≡ true → list_all test (a ++ b) ≡ true
all_append test [] b h k = k
all_append test (x ∷ a) b h k = both_true (test x) _ (and_left (test x) (list_all test a) h) (all_append test a b (and_right (test x) (list_all test a) h) k)

split_bytes : (ghost : Bool) (base : ℕ) (text : List ℕ) (x : ℕ × IntType) → base ≤ 16 → split_number ghost base text ≡ Some x → (0 < length (take (digits_len base text) text)) × (list_all is_number_byte text ≡ true)
split_bytes ghost base text x h e =
    let s = number_suffix ghost base (take (digits_len base text) text) (drop (digits_len base text) text) x e in
    (s.0, subst (λ t. list_all is_number_byte t ≡ true) (take-append-drop (digits_len base text) text) (all_append is_number_byte (take (digits_len base text) text) (drop (digits_len base text) text) (digits_bytes base text h) s.1))

IsNumberText : List ℕ → Type 0
IsNumberText [] = ⊥
IsNumberText (b ∷ bs) = (is_ascii_digit b ≡ true) × (list_all is_number_byte (b ∷ bs) ≡ true)

digits_first : (base : ℕ) (text : List ℕ) → base ≤ 10 → 0 < length (take (digits_len base text) text) → list_all is_number_byte text ≡ true → IsNumberText text
unfolding IsNumberText
digits_first base [] h some all = absurd (omega arith)
digits_first base (b ∷ bs) h some all = (first (is_digit b base) refl, all)
  where
    first : (t : Bool) → is_digit b base ≡ t → is_ascii_digit b ≡ true
    first true e = let less : digit_value b < base = ltb-true (digit_value b) base e in digit_tests b (omega arith)
    first false e = let none : length (take (digits_len base (b ∷ bs)) (b ∷ bs)) ≡ 0 = rw e refl in absurd (omega arith)

number_text_by : (ghost : Bool) (text : List ℕ) (x : ℕ × IntType) (hex octal : Bool) → starts_with nat_eq text (codes "0x") ≡ hex → starts_with nat_eq text (codes "0") ≡ octal
    → split_number ghost (if hex then 16 else (if octal then 8 else 10)) (if hex then drop 2 text else text) ≡ Some x → IsNumberText text
unfolding IsNumberText
number_text_by ghost text x true octal h k e =
    let s = split_bytes ghost 16 (drop 2 text) x (omega arith) e in
    let whole : text ≡ codes "0x" ++ drop 2 text = front_of text (codes "0x") h in
    subst IsNumberText (sym whole) (refl, s.1)
number_text_by ghost text x false true h k e = let s = split_bytes ghost 8 text x (omega arith) e in digits_first 8 text (omega arith) s.0 s.1
number_text_by ghost text x false false h k e = let s = split_bytes ghost 10 text x (omega arith) e in digits_first 10 text (omega arith) s.0 s.1

number_text : (ghost : Bool) (text : List ℕ) (x : ℕ × IntType) → number_of ghost text ≡ Some x → IsNumberText text
unfolding number_of
number_text ghost text x e = number_text_by ghost text x (starts_with nat_eq text (codes "0x")) (starts_with nat_eq text (codes "0")) refl refl e

number_least : (ghost : Bool) (bytes after : List ℕ) (k : Kind) (n : ℕ) → IsNumberText bytes → token_front ghost (bytes ++ after) ≡ front k n → length bytes ≤ n
unfolding IsNumberText
number_least ghost [] after k n h e = omega arith
number_least ghost (b ∷ bs) after k n h e =
    let found : number_front ghost (b ∷ (bs ++ after)) ≡ front k n = sym (front_digit ghost b (bs ++ after) (digit_no_letter b h.0) h.0) ∙ e in
    let least : suc (length bs) ≤ run_len classes.Number (b ∷ (bs ++ after)) = run_at_least classes.Number (b ∷ bs) after h.1 in
    let same : run_len classes.Number (b ∷ (bs ++ after)) ≡ n = number_size _ _ n k found in
    omega arith

-- ---- characters and literals

plain_least : (value : ℕ) (after : List ℕ) (k : Kind) (n : ℕ) → is_plain value ≡ true → character_front (value ∷ 39 ∷ after) ≡ front k n → 3 ≤ n
plain_least value [] k n h e = let found : plain_character value 39 ≡ front k n = e in let got : front (kinds.Character value) 3 ≡ front k n = rw h at found in let size = size_of k (kinds.Character value) 3 n got in omega arith
plain_least value (c ∷ cs) k n h e =
    let other : nat_eq value 92 ≡ false = no_slash (nat_eq value 92) _ h in
    let found : plain_character value 39 ≡ front k n = sym (if_false (nat_eq value 92) (escaped_character 39 c) (plain_character value 39) other) ∙ e in
    let got : front (kinds.Character value) 3 ≡ front k n = rw h at found in
    let size = size_of k (kinds.Character value) 3 n got in omega arith
  where
    no_slash : (t p : Bool) → (p && not t) ≡ true → t ≡ false
    no_slash true true f = absurd cc
    no_slash true false f = absurd cc
    no_slash false p f = refl

escape_least : (letter value : ℕ) (after : List ℕ) (k : Kind) (n : ℕ) → escaped letter ≡ Some value → character_front (92 ∷ letter ∷ 39 ∷ after) ≡ front k n → 4 ≤ n
escape_least letter value after k n h e =
    let found : escaped_character letter 39 ≡ front k n = e in
    let got : front (kinds.Character value) 4 ≡ front k n = rw h at found in
    let size = size_of k (kinds.Character value) 4 n got in omega arith

closed_least : (m : ℕ) (o : Option ℕ) (k : Kind) (n : ℕ) → closed_literal m o ≡ front k n → m + 2 ≡ n
closed_least m None k n e = absurd cc
closed_least m (Some b) k n e = by_quote (nat_eq b 34) e
  where
    by_quote : (t : Bool) → (if t then front kinds.Literal (m + 2) else None) ≡ front k n → m + 2 ≡ n
    by_quote true f = size_of k kinds.Literal (m + 2) n f
    by_quote false f = absurd cc

literal_least : (body after : List ℕ) (k : Kind) (n : ℕ) → list_all is_quoted body ≡ true → literal_front ((body ++ codes "\"") ++ after) ≡ front k n → length body + 2 ≤ n
literal_least body after k n h e =
    let text = (body ++ codes "\"") ++ after in
    let least : length body ≤ run_len classes.Quoted text = subst (λ t. length body ≤ run_len classes.Quoted t) (sym (append_assoc body (codes "\"") after)) (run_at_least classes.Quoted body (codes "\"" ++ after) h) in
    let size = closed_least (run_len classes.Quoted text) (slice_get text (run_len classes.Quoted text)) k n e in
    omega arith

-- ---- punctuators

-- a text begins with a byte at which a punctuator stands, if any token does
marks : List ℕ → Bool
marks [] = false
marks (b ∷ bs) = not (is_letter b) && not (is_ascii_digit b) && not (nat_eq b 39) && not (nat_eq b 34)

not_true : (t : Bool) → not t ≡ true → t ≡ false
not_true true h = absurd cc
not_true false h = refl

mark_front : (ghost : Bool) (bytes after : List ℕ) → marks bytes ≡ true → token_front ghost (bytes ++ after) ≡ punctuator_front ghost (bytes ++ after)
unfolding token_front marks
mark_front ghost [] after h = absurd cc
mark_front ghost (b ∷ bs) after h =
    let three = and_left (not (is_letter b) && not (is_ascii_digit b) && not (nat_eq b 39)) (not (nat_eq b 34)) h in
    let two = and_left (not (is_letter b) && not (is_ascii_digit b)) (not (nat_eq b 39)) three in
    rw (
      not_true (is_letter b) (and_left (not (is_letter b)) (not (is_ascii_digit b)) two),
      not_true (is_ascii_digit b) (and_right (not (is_letter b)) (not (is_ascii_digit b)) two),
      not_true (nat_eq b 39) (and_right (not (is_letter b) && not (is_ascii_digit b)) (not (nat_eq b 39)) three),
      not_true (nat_eq b 34) (and_right (not (is_letter b) && not (is_ascii_digit b) && not (nat_eq b 39)) (not (nat_eq b 34)) h),
    ) refl

spelling_marks : (ghost : Bool) (q : Punctuator) → Contains (punctuators_in ghost) q → marks (spelling q) ≡ true
unfolding marks
spelling_marks true q c = all_at (λ p. marks (spelling p)) ghost_punctuators c.0 q refl c.1 c.2
spelling_marks false q c = all_at (λ p. marks (spelling p)) real_punctuators c.0 q refl c.1 c.2

begins : (a b : List ℕ) → starts_with nat_eq (a ++ b) a ≡ true
begins [] b = refl
begins (x ∷ a) b = rw (eqb_same x) (begins a b)
  where
    eqb_same : (x : ℕ) → nat_eq x x ≡ true
    eqb_same x = grind (arith, nat_tests)

punctuator_least : (ghost : Bool) (q : Punctuator) (after : List ℕ) (o : Option Punctuator) (k : Kind) (n : ℕ) → Contains (punctuators_in ghost) q → punctuator_of ghost (spelling q ++ after) ≡ o → (o >>= λ p. front (kinds.Punctuator p) (length (spelling p))) ≡ front k n → length (spelling q) ≤ n
punctuator_least ghost q after None k n c e f = absurd cc
punctuator_least ghost q after (Some p) k n c e f =
    let least = longest ghost (spelling q ++ after) p q e c (begins (spelling q) after) in
    let size = size_of k (kinds.Punctuator p) (length (spelling p)) n f in
    omega arith

-- ---- all kinds

word_least : (ghost : Bool) (bytes after : List ℕ) (k : Kind) (n : ℕ) → IsWord bytes → token_front ghost (bytes ++ after) ≡ front k n → length bytes ≤ n
word_least ghost [] after k n h e = absurd h
word_least ghost (b ∷ bs) after k n h e = name_least ghost b bs after k n h.0 h.1 e

at_least : (ghost : Bool) (kind : Kind) (bytes after : List ℕ) (k : Kind) (n : ℕ) → Spells ghost kind bytes → token_front ghost (bytes ++ after) ≡ front k n → length bytes ≤ n
unfolding token_front
at_least ghost kinds.Name bytes after k n h e = word_least ghost bytes after k n h.0 e
at_least ghost kinds.Wild bytes after k n h e = word_least ghost bytes after k n h.0 e
at_least ghost (kinds.Number value t) bytes after k n h e = number_least ghost bytes after k n (number_text ghost bytes (value, t) h) e
at_least ghost (kinds.Character value) bytes after k n (inl h) e =
    let at : token_front ghost (39 ∷ value ∷ 39 ∷ after) ≡ front k n = rw h.1 at e in
    let least : 3 ≤ n = plain_least value after k n h.0 at in
    rw h.1 least
at_least ghost (kinds.Character value) bytes after k n (inr h) e =
    let at : token_front ghost (39 ∷ 92 ∷ h.0 ∷ 39 ∷ after) ≡ front k n = rw h.2 at e in
    let least : 4 ≤ n = escape_least h.0 value after k n h.1 at in
    rw h.2 least
at_least ghost kinds.Literal bytes after k n h e =
    let at : token_front ghost (34 ∷ ((h.0 ++ codes "\"") ++ after)) ≡ front k n = rw h.2 at e in
    let least : length h.0 + 2 ≤ n = literal_least h.0 after k n h.1 at in
    let size : suc (length (h.0 ++ codes "\"")) ≡ length h.0 + 2 = let len = length-append h.0 (codes "\"") in omega arith in
    rw (h.2, size) least
at_least ghost (kinds.Punctuator q) bytes after k n h e =
    let at : token_front ghost (spelling q ++ after) ≡ front k n = rw h.1 at e in
    let found : punctuator_front ghost (spelling q ++ after) ≡ front k n = sym (mark_front ghost (spelling q) after (spelling_marks ghost q h.0)) ∙ at in
    rw h.1 (punctuator_least ghost q after (punctuator_of ghost (spelling q ++ after)) k n h.0 refl found)

pub token_longest : (ghost : Bool) (kind : Kind) (bytes rest : List ℕ) → IsToken ghost kind bytes rest → IsLongest ghost bytes rest
token_longest ghost kind bytes rest e = λ k more after whole some spells.
    let parts : bytes ++ rest ≡ (bytes ++ more) ++ after = ap (λ r. bytes ++ r) whole ∙ sym (append_assoc bytes more after) in
    let least : length (bytes ++ more) ≤ length bytes = at_least ghost k (bytes ++ more) after kind (length bytes) spells (subst (λ t. token_front ghost t ≡ Some (kind, length bytes)) parts e) in
    let len = length-append bytes more in
    some (empty more (omega arith))
  where
    empty : (more : List ℕ) → length more ≤ 0 → more ≡ []
    empty [] h = refl
    empty (x ∷ xs) h = absurd (omega arith)

-- ---- the token in front of a text is written as its kind is

run_all : (c : Class) (text : List ℕ) → list_all (is_of c) (take (run_len c text) text) ≡ true
run_all c [] = refl
run_all c (b ∷ bs) = by_byte (is_of c b) refl (run_all c bs)
  where
    by_byte : (t : Bool) → is_of c b ≡ t → list_all (is_of c) (take (run_len c bs) bs) ≡ true → list_all (is_of c) (take (run_len c (b ∷ bs)) (b ∷ bs)) ≡ true
    by_byte true e more = let one : 1 + run_len c bs ≡ suc (run_len c bs) = omega arith in rw (e, one) (both_true (is_of c b) _ e more)
    by_byte false e more = rw e refl

spells_by : (ghost : Bool) (word : List ℕ) (t : Bool) → (ghost && bytes_eq word (codes "_")) ≡ t → IsWord word → Spells ghost (if t then kinds.Wild else kinds.Name) word
spells_by ghost word true e h = (h, rw e refl)
spells_by ghost word false e h = (h, rw e refl)

spells_word : (ghost : Bool) (word : List ℕ) → IsWord word → Spells ghost (name_kind ghost word) word
spells_word ghost word h = spells_by ghost word (ghost && bytes_eq word (codes "_")) refl h

-- the bytes of a kind in front of a text are so written
Written : Bool → List ℕ → Front → Type 0
Written ghost text None = Unit {0}
Written ghost text (Some x) = Spells ghost x.0 (take x.1 text)

first_word : (b : ℕ) (bs : List ℕ) → is_letter b ≡ true → IsWord (take (run_len classes.Word (b ∷ bs)) (b ∷ bs))
first_word b bs h =
    let word : is_word_byte b ≡ true = or_left (is_letter b) (is_ascii_digit b) h in
    let run : run_len classes.Word (b ∷ bs) ≡ suc (run_len classes.Word bs) = one_more b bs word in
    rw run (h, run_all classes.Word bs)
  where
    one_more : (b : ℕ) (bs : List ℕ) → is_word_byte b ≡ true → run_len classes.Word (b ∷ bs) ≡ suc (run_len classes.Word bs)
    one_more b bs e = rw e (omega arith)

written_name : (ghost : Bool) (b : ℕ) (bs : List ℕ) → is_letter b ≡ true → Written ghost (b ∷ bs) (name_front ghost (b ∷ bs))
unfolding Written
written_name ghost b bs h = spells_word ghost (take (run_len classes.Word (b ∷ bs)) (b ∷ bs)) (first_word b bs h)

written_number_by : (ghost : Bool) (text : List ℕ) (n : ℕ) (o : Option (ℕ × IntType)) → number_of ghost (take n text) ≡ o → Written ghost text (o >>= λ x. front (kinds.Number x.0 x.1) n)
unfolding Written
written_number_by ghost text n None e = tt
written_number_by ghost text n (Some x) e = e

written_plain : (ghost : Bool) (a b : ℕ) (rest : List ℕ) → Written ghost (39 ∷ a ∷ b ∷ rest) (plain_character a b)
unfolding Written
written_plain ghost a b rest = by_test (is_plain a && nat_eq b 39) refl
  where
    by_test : (t : Bool) → (is_plain a && nat_eq b 39) ≡ t → Written ghost (39 ∷ a ∷ b ∷ rest) (if t then front (kinds.Character a) 3 else None)
    by_test true e = inl (and_left (is_plain a) (nat_eq b 39) e, ap (λ x. 39 ∷ a ∷ x ∷ []) (eqb-true b 39 (and_right (is_plain a) (nat_eq b 39) e)))
    by_test false e = tt

written_escape : (ghost : Bool) (b c : ℕ) (rest : List ℕ) → Written ghost (39 ∷ 92 ∷ b ∷ c ∷ rest) (escaped_character b c)
unfolding Written
written_escape ghost b c rest = by_test (nat_eq c 39) refl
  where
    by_value : (o : Option ℕ) → escaped b ≡ o → c ≡ 39 → Written ghost (39 ∷ 92 ∷ b ∷ c ∷ rest) (o >>= λ value. front (kinds.Character value) 4)
    by_value None e f = tt
    by_value (Some v) e f = inr (b, e, ap (λ x. 39 ∷ 92 ∷ b ∷ x ∷ []) f)

    by_test : (t : Bool) → nat_eq c 39 ≡ t → Written ghost (39 ∷ 92 ∷ b ∷ c ∷ rest) (if t then (escaped b >>= λ value. front (kinds.Character value) 4) else None)
    by_test true e = by_value (escaped b) refl (eqb-true c 39 e)
    by_test false e = tt

written_character : (ghost : Bool) (text : List ℕ) → Written ghost (39 ∷ text) (character_front text)
unfolding Written
written_character ghost [] = tt
written_character ghost (a ∷ []) = tt
written_character ghost (a ∷ b ∷ []) = written_plain ghost a b []
written_character ghost (a ∷ b ∷ c ∷ rest) = by_test (nat_eq a 92) refl
  where
    by_test : (t : Bool) → nat_eq a 92 ≡ t → Written ghost (39 ∷ a ∷ b ∷ c ∷ rest) (if t then escaped_character b c else plain_character a b)
    by_test true e = let same : a ≡ 92 = eqb-true a 92 e in subst (λ x. Written ghost (39 ∷ x ∷ b ∷ c ∷ rest) (escaped_character b c)) (sym same) (written_escape ghost b c rest)
    by_test false e = written_plain ghost a b (c ∷ rest)

take_to : (text : List ℕ) (n b : ℕ) → slice_get text n ≡ Some b → take (suc n) text ≡ take n text ++ (b ∷ [])
take_to [] n b e = absurd cc
take_to (x ∷ xs) zero b e = let same : x ≡ b = ap (λ o. unwrap_or o x) e in ap (λ y. y ∷ []) same
take_to (x ∷ xs) (suc n) b e = ap (λ t. x ∷ t) (take_to xs n b e)

written_literal : (ghost : Bool) (text : List ℕ) → Written ghost (34 ∷ text) (literal_front text)
unfolding Written
written_literal ghost text = by_end (slice_get text (run_len classes.Quoted text)) refl
  where
    by_quote : (b : ℕ) (t : Bool) → nat_eq b 34 ≡ t → slice_get text (run_len classes.Quoted text) ≡ Some b → Written ghost (34 ∷ text) (if t then front kinds.Literal (run_len classes.Quoted text + 2) else None)
    by_quote b true e f =
        let n = run_len classes.Quoted text in
        let two : n + 2 ≡ suc (suc n) = omega arith in
        rw two (take n text, run_all classes.Quoted text, ap (λ t. 34 ∷ t) (take_to text n b f ∙ ap (λ x. take n text ++ (x ∷ [])) (eqb-true b 34 e)))
    by_quote b false e f = tt

    by_end : (o : Option ℕ) → slice_get text (run_len classes.Quoted text) ≡ o → Written ghost (34 ∷ text) (closed_literal (run_len classes.Quoted text) o)
    by_end None e = tt
    by_end (Some b) e = by_quote b (nat_eq b 34) refl e

-- the punctuator that is found is one of the list, with which the text begins
found_in : (ps : List Punctuator) (text : List ℕ) (p : Punctuator) → longest_of ps text ≡ Some p → Contains ps p × (starts_with nat_eq text (spelling p) ≡ true)
found_in [] text p e = absurd cc
found_in (x ∷ xs) text p e = by_test (starts_with nat_eq text (spelling x)) refl e (λ f. found_in xs text p f)
  where
    by_test : (t : Bool) → starts_with nat_eq text (spelling x) ≡ t → cond t (Some x) (longest_of xs text) ≡ Some p → (longest_of xs text ≡ Some p → Contains xs p × (starts_with nat_eq text (spelling p) ≡ true)) → Contains (x ∷ xs) p × (starts_with nat_eq text (spelling p) ≡ true)
    by_test true h f more = let same : x ≡ p = ap (λ o. unwrap_or o x) f in ((0, omega arith, same), subst (λ y. starts_with nat_eq text (spelling y) ≡ true) same h)
    by_test false h f more = let r = more f in ((suc r.0.0, let less = r.0.1 in omega arith, r.0.2), r.1)

found_of : (ghost : Bool) (text : List ℕ) (p : Punctuator) → punctuator_of ghost text ≡ Some p → Contains (punctuators_in ghost) p × (starts_with nat_eq text (spelling p) ≡ true)
unfolding punctuator_of
found_of true text p e = found_in ghost_punctuators text p e
found_of false text p e = found_in real_punctuators text p e

written_punctuator : (ghost : Bool) (text : List ℕ) (o : Option Punctuator) → punctuator_of ghost text ≡ o → Written ghost text (o >>= λ p. front (kinds.Punctuator p) (length (spelling p)))
unfolding Written
written_punctuator ghost text None e = tt
written_punctuator ghost text (Some p) e =
    let f = found_of ghost text p e in
    let whole = front_of text (spelling p) f.1 in
    (f.0, ap (take (length (spelling p))) whole ∙ take-append_seam (spelling p) (drop (length (spelling p)) text))

written : (ghost : Bool) (text : List ℕ) → Written ghost text (token_front ghost text)
unfolding token_front Written
written ghost [] = tt
written ghost (b ∷ bs) = let P = Written ghost (b ∷ bs) in
    either P (is_letter b) _ _ (λ e. written_name ghost b bs e)
    (λ e. either P (is_ascii_digit b) _ _ (λ f. written_number_by ghost (b ∷ bs) (run_len classes.Number (b ∷ bs)) (number_of ghost (take (run_len classes.Number (b ∷ bs)) (b ∷ bs))) refl)
    (λ f. either P (nat_eq b 39) _ _ (λ g. let same : b ≡ 39 = eqb-true b 39 g in subst (λ x. Written ghost (x ∷ bs) (character_front bs)) (sym same) (written_character ghost bs))
    (λ g. either P (nat_eq b 34) _ _ (λ h. let same : b ≡ 34 = eqb-true b 34 h in subst (λ x. Written ghost (x ∷ bs) (literal_front bs)) (sym same) (written_literal ghost bs))
    (λ h. written_punctuator ghost (b ∷ bs) (punctuator_of ghost (b ∷ bs)) refl))))

written_at : (ghost : Bool) (text : List ℕ) (k : Kind) (n : ℕ) → token_front ghost text ≡ front k n → Written ghost text (front k n)
written_at ghost text k n e = subst (λ o. Written ghost text o) e (written ghost text)

pub token_spelled : (ghost : Bool) (kind : Kind) (bytes rest : List ℕ) → IsToken ghost kind bytes rest → Spells ghost kind bytes
unfolding Written
token_spelled ghost kind bytes rest e =
    let at : Spells ghost kind (take (length bytes) (bytes ++ rest)) = written_at ghost (bytes ++ rest) kind (length bytes) e in
    subst (λ t. Spells ghost kind t) (take-append_seam bytes rest) at
