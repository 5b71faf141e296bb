-- Steps of the loops: over bytes, over digits, and over pieces.
use Rattle.std.proofs.Common.{◌≡◌, ℕ, zero, suc, ◌+◌, ◌-◌, ◌*◌, ◌<◌, ◌≤◌, Bool, true, false, List, [], ◌∷◌, length, take, None, refl, sym, arith}
use Rattle.std.specs.Prelude.{nat_le, Err}
use Rattle.std.specs.Char.{digit_value, is_digit}
use Rattle.std.specs.Str.Parse.{AllDigits, digits_value, digits_value_after}
use Rattle.std.proofs.Math.Nat.{mul-le-mul_left}
use Rattle.std.proofs.lemmas.Bool.{ltb-true}
use Rattle.std.proofs.lemmas.Bool.Decides.{nat_tests}
use Rattle.vf_base.specs.declared.place.Place.{Place}
use Rattle.vf_lexer.specs.Bytes.{is_barred}
use Rattle.vf_lexer.specs.Numbers.{value_of, digits_len}
use Rattle.vf_lexer.specs.Tokens.{walk, place_behind, Spot, End, next_in, next_at}

walk_step : (p : Place) (n b : ℕ) (bs : List ℕ) → 0 < n → is_barred (b ∷ bs) ≡ false → walk p n (b ∷ bs) ≡ walk (place_behind p b) (n - 1) bs
walk_step p zero b bs h e = absurd (omega arith)
walk_step p (suc n) b bs h e = let one : suc n - 1 ≡ n = omega arith in rw (e, one) refl

walk_halts : (p : Place) (n b : ℕ) (bs : List ℕ) → 0 < n → is_barred (b ∷ bs) ≡ true → walk p n (b ∷ bs) ≡ Err p
walk_halts p zero b bs h e = absurd (omega arith)
walk_halts p (suc n) b bs h e = rw e refl

pub walk_goes : (p : Place) (n b : ℕ) (bs left : List ℕ) → left ≡ b ∷ bs → 0 < n → is_barred left ≡ false → walk (place_behind p b) (n - 1) bs ≡ walk p n left
walk_goes p n b bs left e h f = let g : is_barred (b ∷ bs) ≡ false = rw e at f in rw e (sym (walk_step p n b bs h g))

pub walk_stops : (p : Place) (n b : ℕ) (bs left : List ℕ) → left ≡ b ∷ bs → 0 < n → is_barred left ≡ true → walk p n left ≡ Err p
walk_stops p n b bs left e h f = let g : is_barred (b ∷ bs) ≡ true = rw e at f in rw e (walk_halts p n b bs h g)

pub value_grows : (base n : ℕ) (digits : List ℕ) → 1 ≤ base → n ≤ digits_value_after base n digits
value_grows base n [] h = omega arith
value_grows base n (d ∷ ds) h =
    let times : n * 1 ≤ n * base = mul-le-mul_left n h in
    let more = digit_value d in
    let step : n ≤ n * base + digit_value d = omega arith in
    omega (arith, value_grows base (n * base + digit_value d) ds h)

pub no_value : (base next : ℕ) (digits rest : List ℕ) → 1 ≤ base → digits_value_after base next rest ≡ digits_value base digits → 18446744073709551615 < next → value_of base digits ≡ None
unfolding value_of
no_value base next digits rest h same over =
    let grown = value_grows base next rest h in
    let value = digits_value base digits in
    let large : 18446744073709551615 < digits_value base digits = omega arith in
    let no : nat_le (digits_value base digits) 18446744073709551615 ≡ false = grind (arith, nat_tests) in
    rw no refl

digits_by : (base b : ℕ) (bs : List ℕ) (t : Bool) → is_digit b base ≡ t → AllDigits base (take (digits_len base bs) bs) → AllDigits base (take (digits_len base (b ∷ bs)) (b ∷ bs))
digits_by base b bs true e rest = let one : 1 + digits_len base bs ≡ suc (digits_len base bs) = omega arith in rw (e, one) (ltb-true (digit_value b) base e, rest)
digits_by base b bs false e rest = rw e tt

pub all_digits : (base : ℕ) (text : List ℕ) → AllDigits base (take (digits_len base text) text)
all_digits base [] = tt
all_digits base (b ∷ bs) = digits_by base b bs (is_digit b base) refl (all_digits base bs)

end_in : (s : Spot) (text : List ℕ) → length text ≤ 0 → next_in s text ≡ End
end_in s [] h = refl
end_in s (b ∷ bs) h = absurd (omega arith)

pub at_end : (s : Spot) → length s.text ≤ 0 → next_at s ≡ End
unfolding next_at
at_end s h = end_in s s.text h
