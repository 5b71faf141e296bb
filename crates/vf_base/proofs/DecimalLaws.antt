-- The digits of a number in front of a text, and the number that they spell.
use Rattle.std.proofs.Common.{◌≡◌, ℕ, suc, ◌+◌, ◌*◌, ◌-◌, ◌^◌, ◌<◌, ◌≤◌, Bool, true, false, cond, List, [], ◌∷◌, ◌++◌, length, get_or, take, drop, refl, sym, ap, subst, ◌∙◌, inl, inr, arith}
use Rattle.std.specs.Char.{is_ascii_digit, digit_value}
use Rattle.std.specs.Int.{IsInRange}
use Rattle.std.specs.List.{prefix_len}
use Rattle.std.specs.Str.Parse.{AllDigits, digits_value}
use Rattle.std.proofs.lemmas.Bool.{cases_lt}
use Rattle.std.proofs.lemmas.Bool.Decides.{nat_tests}
use Rattle.std.proofs.lemmas.List.{take_at, take_all, drop_at, take-append-drop}
use Rattle.std.proofs.lemmas.Int.Digits.{digits_value_more, digits_more}
use Rattle.std.proofs.lemmas.Str.Parse.{IsNumeralModel, numerals_by_value, tells_digits, digit_from_value, digit_at, digits_value-take-le}
use Rattle.std.proofs.lemmas.Fmt.{digits_decimal, digits_value-decimal, decimal-digits_value, decimal_nonempty, first_decimal, decimal_digit, decimal_injective}
use Rattle.vf_base.specs.Decimal.{decimal, begins_with_digit, IsDecimalFront}

pub own : IsNumeralModel (AllDigits 10) (digits_value 10)
own = numerals_by_value (AllDigits 10) tells_digits

pub digit_tests : (c : ℕ) → digit_value c < 10 → is_ascii_digit c ≡ true
digit_tests c h = let r = digit_from_value c h in grind (arith, nat_tests)

pub digit_below : (c : ℕ) → is_ascii_digit c ≡ true → c - 48 < 10
digit_below c h = grind (arith, nat_tests)

pub digit_value_is : (c : ℕ) → is_ascii_digit c ≡ true → digit_value c ≡ c - 48
digit_value_is c h = grind (arith, nat_tests)

pub AllDigits-decimal : (n : ℕ) → n < 2 ^ 64 → AllDigits 10 (decimal n)
AllDigits-decimal n h = digits_decimal own n h

pub front_len : (ds rest : List ℕ) → AllDigits 10 ds → begins_with_digit rest ≡ false → prefix_len is_ascii_digit (ds ++ rest) ≡ length ds
front_len [] [] d e = refl
front_len [] (b ∷ bs) d e = rw e refl
front_len (c ∷ ds) rest d e = rw (digit_tests c d.0, front_len ds rest d.1 e) (omega arith)

pub front_is : (text : List ℕ) (n : ℕ) (rest : List ℕ) → n < 2 ^ 64 → IsDecimalFront text n rest → (take (prefix_len is_ascii_digit text) text ≡ decimal n) × (drop (prefix_len is_ascii_digit text) text ≡ rest)
front_is text n rest h f =
    let k : prefix_len is_ascii_digit (decimal n ++ rest) ≡ length (decimal n) = front_len (decimal n) rest (AllDigits-decimal n h) f.ends in
    subst (λ (t : List ℕ). (take (prefix_len is_ascii_digit t) t ≡ decimal n) × (drop (prefix_len is_ascii_digit t) t ≡ rest)) (sym f.parts)
    (take_at (decimal n) rest _ (sym k), drop_at (decimal n) rest _ (sym k))

pub one_front : (text : List ℕ) (m n : ℕ) (r s : List ℕ) → m < 2 ^ 64 → n < 2 ^ 64 → IsDecimalFront text m r → IsDecimalFront text n s → (m ≡ n) × (r ≡ s)
one_front text m n r s hm hn f g =
    let a = front_is text m r hm f in
    let b = front_is text n s hn g in
    (decimal_injective m n hm hn (sym a.0 ∙ b.0), sym a.1 ∙ b.1)

stops_at : (t : Bool) (b : ℕ) (bs : List ℕ) → is_ascii_digit b ≡ t → begins_with_digit (drop (prefix_len is_ascii_digit bs) bs) ≡ false → begins_with_digit (drop (cond t (1 + prefix_len is_ascii_digit bs) 0) (b ∷ bs)) ≡ false
stops_at true b bs e rest = rw one_more rest
  where
    one_more : 1 + prefix_len is_ascii_digit bs ≡ suc (prefix_len is_ascii_digit bs)
    one_more = omega arith
stops_at false b bs e rest = e

-- what is left behind the digits in front begins with no digit
pub stops : (text : List ℕ) → begins_with_digit (drop (prefix_len is_ascii_digit text) text) ≡ false
stops [] = refl
stops (b ∷ bs) = stops_at (is_ascii_digit b) b bs refl (stops bs)

pub is_front : (text digits rest : List ℕ) (n : ℕ) → digits ≡ take (prefix_len is_ascii_digit text) text → rest ≡ drop (prefix_len is_ascii_digit text) text → digits ≡ decimal n → IsDecimalFront text n rest
is_front text digits rest n front back e = record {
  parts = sym (take-append-drop (prefix_len is_ascii_digit text) text) ∙ ap (λ (ds : List ℕ). ds ++ drop (prefix_len is_ascii_digit text) text) (sym front ∙ e) ∙ ap (λ (r : List ℕ). decimal n ++ r) (sym back);
  ends = ap begins_with_digit back ∙ stops text;
}

-- a number has no leading zero
pub no_zero_first : (digits : List ℕ) (n : ℕ) → n < 2 ^ 64 → digits ≡ decimal n → get_or digits 0 0 ≡ 48 → 1 < length digits → ⊥
no_zero_first digits n h e first long =
    elim (cases_lt 0 n) [
      | inl lt ↦ omega (arith, first_decimal n lt h, ap (λ (ds : List ℕ). get_or ds 0 0) e)
      | inr le ↦ let z : n ≡ 0 = omega arith in omega (arith, ap length (decimal_digit n (omega arith)), ap length e)
    ]

pub not_empty : (digits : List ℕ) (n : ℕ) → n < 2 ^ 64 → digits ≡ decimal n → length digits ≡ 0 → ⊥
not_empty digits n h e short = omega (arith, decimal_nonempty n h, ap length e)

pub no_other_byte : (digits : List ℕ) (n i : ℕ) → n < 2 ^ 64 → digits ≡ decimal n → i < length digits → is_ascii_digit (get_or digits i 0) ≡ false → ⊥
no_other_byte digits n i h e lt other =
    let all : AllDigits 10 digits = subst (λ (ds : List ℕ). AllDigits 10 ds) (sym e) (AllDigits-decimal n h) in
    let r : IsInRange 48 57 (get_or digits i 0) = digit_at digits i all lt in
    grind (arith, nat_tests)

pub no_more : (digits : List ℕ) (n i : ℕ) → n < 2 ^ 64 → digits ≡ decimal n → digits_value 10 (take i digits) ≤ n
no_more digits n i h e = omega (arith, digits_value-take-le 10 digits i (omega arith), ap (digits_value 10) e, digits_value-decimal own n h)

-- one more digit
pub value_more : (digits : List ℕ) (i number : ℕ) → i < length digits → number ≡ digits_value 10 (take i digits) → is_ascii_digit (get_or digits i 0) ≡ true → number * 10 + (get_or digits i 0 - 48) ≡ digits_value 10 (take (i + 1) digits)
value_more digits i number lt e d = rw (digits_value_more 10 digits i lt, ← e, digit_value_is (get_or digits i 0) d) refl

pub all_more : (digits : List ℕ) (i : ℕ) → i < length digits → AllDigits 10 (take i digits) → is_ascii_digit (get_or digits i 0) ≡ true → AllDigits 10 (take (i + 1) digits)
all_more digits i lt all d = digits_more 10 digits i lt all (rw (digit_value_is (get_or digits i 0) d) (digit_below (get_or digits i 0) d))

pub is_number : (digits : List ℕ) (number i : ℕ) → 0 < length digits → length digits ≤ i → (get_or digits 0 0 ≡ 48 → length digits ≡ 1) → number < 2 ^ 64 → number ≡ digits_value 10 (take i digits) → AllDigits 10 (take i digits) → digits ≡ decimal number
is_number digits number i some long zero small e all =
    let whole : take i digits ≡ digits = take_all i digits long in
    let value : number ≡ digits_value 10 digits = e ∙ ap (digits_value 10) whole in
    let d : AllDigits 10 digits = subst (λ (ds : List ℕ). AllDigits 10 ds) whole all in
    sym (ap decimal value ∙ decimal-digits_value own digits d some zero (omega arith))

-- the digits of a number begin with a digit
pub first_is_digit : (n : ℕ) (rest : List ℕ) (b : ℕ) (bs : List ℕ) → n < 2 ^ 64 → decimal n ++ rest ≡ b ∷ bs → is_ascii_digit b ≡ false → ⊥
first_is_digit n rest b bs h e other = first_at (decimal n) rest b bs (AllDigits-decimal n h) (decimal_nonempty n h) e other
  where
    first_at : (ds rest : List ℕ) (b : ℕ) (bs : List ℕ) → AllDigits 10 ds → 0 < length ds → ds ++ rest ≡ b ∷ bs → is_ascii_digit b ≡ false → ⊥
    first_at [] rest b bs all some e other = omega (arith, some)
    first_at (d ∷ ds) rest b bs all some e other = let same : d ≡ b = cc in absurd (let h : true ≡ false = sym (digit_tests d all.0) ∙ ap is_ascii_digit same ∙ other in cc)
